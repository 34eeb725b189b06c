-- The public reader's answer: its values are the row's columns, and any two answers that meet its promise are equal.
use mathlib.Core.Path.{◌≡◌, refl, sym, ap, ◌∙◌}
use mathlib.Core.List.{List}
use mathlib.Core.Bool.{true, false}
use Prim.Native.Nat.{ℕ, ◌<◌, ◌≤◌}
use lib.Dec.{eqb}
use lib.ListN.{length, get_or}
use borrow.Author.Tests.{eq-eqb, ne_eqb, lt-ltb, le-ltb}
use Rattle.laws.specs.Choice.{pick}
use Rattle.numbers.specs.ComesBack.{Paper, answered, refused}
use Rattle.numbers.specs.Numbered.{refusal_of_number}
use Rattle.device.specs.Device.{image_size, is_banked, rom_of}
use Rattle.device.specs.declared.Device.{Device}
use Rattle.sheet.specs.Reading.{insn, read_at}
use Rattle.sheet.specs.Timing.{TimedFrom}
use Rattle.sheet.specs.declared.Insn.{Insn}
use Rattle.std.specs.Prelude.{Result, Ok, Err}
use Rattle.reader.specs.Answer.{values_of, paper_of, paper_of_code, read_paper}
use Rattle.reader.specs.declared.Decoded.{Decoded}
use Rattle.numbers.specs.declared.Refusal.{Refusal}
use Rattle.numbers.proofs.OneNumber.{refusal_back, refusal_some}
use Rattle.reader.proofs.Rows.{columns}

pub decoded : (rom : ℕ → ℕ) (at : ℕ) (i : Insn) (n t : ℕ) → read_at rom at ≡ Ok i → TimedFrom (rom at) n t → answered (values_of i n t) ≡ paper_of_code (read_at rom at)
decoded rom at i n t e timed =
    let c = columns rom at i e n t timed in
    rw (e, c.bytes, c.cycles)

-- what comes back, by what is found in the order of refusal
module _ (d : Device) (image : List ℕ) (p3 at : ℕ) where
  pub wrong_size : (length image ≡ image_size d → ⊥) → refused 1 ≡ read_paper d image p3 at
  wrong_size n = rw (ne_eqb (length image) (image_size d) n)

  module _ (size : length image ≡ image_size d) where
    pub wrong-p3 : is_banked d p3 ≡ false → refused 2 ≡ read_paper d image p3 at
    wrong-p3 b = rw (eq-eqb (length image) (image_size d) size, b)

    module _ (b : is_banked d p3 ≡ true) where
      pub wrong-address : 8192 ≤ at → refused 20 ≡ read_paper d image p3 at
      wrong-address h = rw (eq-eqb (length image) (image_size d) size, b, le-ltb at 8192 h)

      pub as_read : at < 8192 → paper_of_code (read_at (rom_of image p3) at) ≡ read_paper d image p3 at
      as_read h = rw (eq-eqb (length image) (image_size d) size, b, lt-ltb at 8192 h)

-- an answer from its number and values
abbrev from_paper : Paper → Result Decoded Refusal
from_paper p =
    pick (eqb p.number 0)
    (Ok (record { insn = insn (get_or p.values 0 0) (get_or p.values 1 0) (get_or p.values 2 0); bytes = get_or p.values 3 0; cycles = get_or p.values 4 0 }))
    (Err (refusal_of_number p.number))

back : (r : Result Decoded Refusal) → from_paper (paper_of r) ≡ r
back (Ok d) = refl
back (Err refusal) = rw (refusal_some refusal, refusal_back refusal)

-- any two answers that meet the promise are equal
pub one_answer : (d : Device) (image : List ℕ) (p3 at : ℕ) (r s : Result Decoded Refusal) → paper_of r ≡ read_paper d image p3 at → paper_of s ≡ read_paper d image p3 at → r ≡ s
one_answer d image p3 at r s p q = sym (back r) ∙ (ap from_paper (p ∙ sym q) ∙ back s)

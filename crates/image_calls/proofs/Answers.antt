-- What the reader answers, as the calls hand it on.
use Prim.Native.Nat.{ℕ, ◌<◌}
use mathlib.Core.List.{List}
use mathlib.Core.Bool.{Bool, true, false}
use mathlib.Core.Path.{◌≡◌, refl, sym, ap, subst}
use native.Mathlib.Omega.{arith}
use lib.Dec.{eqb, leb, ltb, ltb→lt, leb→le}
use lib.ListN.{length}
use Rattle.laws.specs.Choice.{pick}
use Rattle.laws.proofs.Computed.{true→T, at}
use Rattle.numbers.specs.Sizes.{addresses}
use Rattle.numbers.specs.ComesBack.{Paper, refused, record_outside_the_ranges, address_over_8191, image_of_another_size}
use Rattle.sheet.specs.Reading.{Read, read_at}
use Rattle.sheet.specs.Fields.{field_a}
use Rattle.sheet.specs.Table.{lines, line_at}
use Rattle.sheet.specs.declared.Insn.{Insn}
use Rattle.sheet.specs.declared.NoRow.{NoRow}
use Rattle.device.specs.Device.{image_size, is_banked, rom_of}
use Rattle.device.specs.declared.Device.{Device}
use Rattle.std.specs.Prelude.{Result, Ok, Err, IfOk}
use Rattle.numbers.specs.declared.Refusal.{Refusal}
use Rattle.reader.specs.declared.Decoded.{Decoded}
use Rattle.reader.specs.Answer.{paper_of, read_paper, paper_of_code}
use Rattle.reader.proofs.Rows.{read-in-fields}
use Rattle.image_calls.specs.Numbers.{insn_of, OfRead}
use Rattle.image_calls.specs.Operands.{Fits}
use Rattle.image_calls.specs.declared.ReadNumbers.{ReadNumbers}

module _ (d : Device) (image : List ℕ) (p3 address : ℕ) {n : ReadNumbers} where
  pub answered-as : {p : Paper} → p ≡ read_paper d image p3 address → OfRead p n → OfRead (read_paper d image p3 address) n
  answered-as e o = subst (λ (q : Paper). OfRead q n) e o

-- the values of what is no row are 0
nothing_fits : Fits (record { row = 0; a = 0; b = 0 })
unfolding line_at
nothing_fits = (omega arith, omega arith, omega arith)

module _ (d : Device) (image : List ℕ) (p3 : ℕ) (bytes : (k : ℕ) → rom_of image p3 k < 256) (address : ℕ) where
  code_fits : (r : Read) → read_at (rom_of image p3) address ≡ r → Fits (insn_of (paper_of_code r))
  code_fits (Ok i) e = let f = read-in-fields (rom_of image p3) address i e bytes in (f.row, f.a, f.b)
  code_fits (Err NoRow.Unassigned) e = nothing_fits
  code_fits (Err NoRow.PastEnd) e = nothing_fits

  picked_fits : (s b t : Bool) → Fits (insn_of (pick s (pick b (pick t (paper_of_code (read_at (rom_of image p3) address)) (refused address_over_8191)) (refused record_outside_the_ranges)) (refused image_of_another_size)))
  picked_fits true true true = code_fits (read_at (rom_of image p3) address) refl
  picked_fits true true false = nothing_fits
  picked_fits true false t = nothing_fits
  picked_fits false b t = nothing_fits

  pub fits_read : {n : ReadNumbers} → OfRead (read_paper d image p3 address) n → Fits n.insn
  fits_read o = subst Fits (sym o.insn) (picked_fits (eqb (length image) (image_size d)) (is_banked d p3) (ltb address addresses))

-- no operand is longer than an address, and that of nothing is 0
pub operand_lt : (i : Insn) → Fits i → i.a < 8192
unfolding line_at lines
operand_lt i f = omega (arith, f.1, leb→le (field_a (line_at i.row).codes) 8192 (at (λ row. leb (field_a (line_at row).codes) 8192) 108 tt i.row f.0))

-- what is answered stands at an address
inside : (s b t : Bool) (p : Paper) → (pick s (pick b (pick t p (refused address_over_8191)) (refused record_outside_the_ranges)) (refused image_of_another_size)).number ≡ 0 → t ≡ true
inside true true true p e = refl
inside true true false p e = absurd (omega (arith, e))
inside true false t p e = absurd (omega (arith, e))
inside false b t p e = absurd (omega (arith, e))

module _ (d : Device) (image : List ℕ) (p3 address : ℕ) (decoded : Decoded) (e : paper_of (Ok decoded) ≡ read_paper d image p3 address) where
  pub as_numbers : OfRead (read_paper d image p3 address) (record { number = 0; insn = decoded.insn; bytes = decoded.bytes; cycles = decoded.cycles })
  as_numbers = answered-as d image p3 address e (record { number = refl; insn = refl; bytes = refl; cycles = refl })

  pub address-inside : address < addresses
  address-inside =
      ltb→lt address addresses (true→T (inside (eqb (length image) (image_size d)) (is_banked d p3) (ltb address addresses) (paper_of_code (read_at (rom_of image p3) address)) (sym (ap (λ (p : Paper). p.number) e))))

pub stands : (d : Device) (image : List ℕ) (p3 : ℕ) → ((k : ℕ) → rom_of image p3 k < 256) → (address : ℕ) (answer : Result Decoded Refusal) → paper_of answer ≡ read_paper d image p3 address → IfOk answer (λ decoded. (address < 8192) × (decoded.insn.a < 8192))
stands d image p3 bytes address (Ok decoded) e =
    (address-inside d image p3 address decoded e, operand_lt decoded.insn (fits_read d image p3 bytes address (as_numbers d image p3 address decoded e)))
stands d image p3 bytes address (Err refusal) e = tt

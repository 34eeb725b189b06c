-- What the runner prints for a line of the script is one line: it has an LF at its end and nowhere else.
use mathlib.Core.Path.{◌≡◌, refl}
use mathlib.Core.Bool.{true, false}
use mathlib.Core.List.{List, [], ◌∷◌, ◌++◌, append_assoc, append-nil}
use Prim.Native.Nat.{ℕ, zero, suc, ◌/◌, ◌%◌, ◌≤◌}
use native.Mathlib.Omega.{arith}
use lib.ListN.{length, get_or}
use Rattle.bits.specs.Bits.{bit_of}
use Rattle.device.specs.declared.Device.{Device}
use Rattle.frame.specs.Frame.{frame_of}
use Rattle.frame.specs.declared.Pins.{Pins}
use Rattle.std.specs.Prelude.{Option, Some, None}
use Rattle.record.specs.declared.Core.{Core}
use Rattle.record.specs.declared.Registers.{Registers}
use Rattle.record.specs.declared.Machine.{Machine}
use Rattle.text.specs.Digits.{characters, digit, in_base, hex, decimal, places_of}
use Rattle.text.specs.Script.{is_lf}
use Rattle.text.specs.Refusal.{refused_line}
use Rattle.listing.specs.Lines.{header, column, flag_text, flags_text, registers_text, step_line}
use Rattle.listing.specs.Listing.{answer_of}
use Rattle.compare_lines.specs.Left.{plain, OneLine}
use Rattle.compare_lines.proofs.Cutting.{plain_first}

plain_append : (s t : List ℕ) → plain s ≡ true → plain t ≡ true → plain (s ++ t) ≡ true
plain_append [] t p q = q
plain_append (c ∷ s) t p q =
    let f = plain_first c s (is_lf c) refl p in rw f.0 (plain_append s t f.1 q)

plain_at : (s : List ℕ) (i : ℕ) → plain s ≡ true → is_lf (get_or s i 0) ≡ false
plain_at [] i p = refl
plain_at (c ∷ s) zero p = (plain_first c s (is_lf c) refl p).0
plain_at (c ∷ s) (suc i) p = plain_at s i (plain_first c s (is_lf c) refl p).1

plain_digit : (d : ℕ) → is_lf (digit d) ≡ false
unfolding digit
plain_digit d = plain_at (characters "0123456789ABCDEF") d refl

plain_number : (base n v : ℕ) → plain (in_base base n v) ≡ true
unfolding in_base
plain_number base zero v = refl
plain_number base (suc n) v =
    plain_append (in_base base n (v / base)) (digit (v % base) ∷ []) (plain_number base n (v / base)) (rw (plain_digit (v % base)))

plain_column : (base n v : ℕ) → plain (column (in_base base n v)) ≡ true
plain_column base n v = plain_append (in_base base n v) (32 ∷ []) (plain_number base n v) refl

plain_flags : (r : Registers) → plain (column (flags_text r)) ≡ true
plain_flags r =
    plain_append (flags_text r) (32 ∷ [])
    (plain_append (flag_text r.cf) (flag_text r.zf ++ flag_text r.sf) (plain_number 2 1 (bit_of r.cf))
    (plain_append (flag_text r.zf) (flag_text r.sf) (plain_number 2 1 (bit_of r.zf)) (plain_number 2 1 (bit_of r.sf))))
    refl

plain_registers : (pc : ℕ) (r : Registers) (sp : ℕ) → plain (registers_text pc r sp) ≡ true
plain_registers pc r sp =
    plain_append (column (hex 4 pc)) _ (plain_column 16 4 pc)
    (plain_append (column (hex 1 r.acc)) _ (plain_column 16 1 r.acc)
    (plain_append (column (hex 1 r.hr)) _ (plain_column 16 1 r.hr)
    (plain_append (column (hex 1 r.lr)) _ (plain_column 16 1 r.lr)
    (plain_append (column (hex 1 sp)) [] (plain_column 16 1 sp) refl))))

pub record Bodied (text : List ℕ) : Type 0 where
  pub body : List ℕ
  pub ended : text ≡ body ++ (10 ∷ [])
  pub alone : plain body ≡ true

joined_so : (r f c s : List ℕ) → r ++ (f ++ ((c ++ (s ++ (10 ∷ []))) ++ [])) ≡ (r ++ (f ++ (c ++ s))) ++ (10 ∷ [])
joined_so r f c s = simp (append_assoc, append-nil)

-- a step's line without its LF
abbrev pub step_body : Core → ℕ → ℕ → List ℕ
step_body m cycles stop = registers_text m.pc m.regs m.ptrs.sp ++ (column (flags_text m.regs) ++ (column (decimal cycles) ++ in_base 10 2 stop))

pub step_ended : (m : Core) (cycles stop : ℕ) → step_line m cycles stop ≡ step_body m cycles stop ++ (10 ∷ [])
unfolding step_line
step_ended m cycles stop = joined_so (registers_text m.pc m.regs m.ptrs.sp) (column (flags_text m.regs)) (column (decimal cycles)) (in_base 10 2 stop)

pub step_alone : (m : Core) (cycles stop : ℕ) → plain (step_body m cycles stop) ≡ true
step_alone m cycles stop =
    let r = registers_text m.pc m.regs m.ptrs.sp in
    let f = column (flags_text m.regs) in
    let c = column (decimal cycles) in
    let s = in_base 10 2 stop in
    plain_append r (f ++ (c ++ s)) (plain_registers m.pc m.regs m.ptrs.sp) (plain_append f (c ++ s) (plain_flags m.regs) (plain_append c s (plain_column 10 (places_of cycles) cycles) (plain_number 10 2 stop)))

step_bodied : (m : Core) (cycles stop : ℕ) → Bodied (step_line m cycles stop)
step_bodied m cycles stop = record { body = step_body m cycles stop; ended = step_ended m cycles stop; alone = step_alone m cycles stop }

refused_bodied : Bodied (refused_line 3)
unfolding in_base digit
refused_bodied = record { body = characters "refused 03"; ended = refl; alone = refl }

pub header_line : OneLine header
header_line = record { body = characters "PC A H L S CZS C X"; ended = refl; alone = refl; short = omega arith }

module _ (d : Device) (rom : ℕ → ℕ → ℕ) (m : Machine) (line : List ℕ) where
  answer_by : (f : Option Pins) → frame_of d line ≡ f → Bodied (answer_of d rom m line).text
  unfolding answer_of
  answer_by (Some pins) e = rw e (step_bodied _ _ _)
  answer_by None e = rw e refused_bodied

  pub answer-line : length (answer_of d rom m line).text ≤ 26 → OneLine (answer_of d rom m line).text
  answer-line h =
      let b = answer_by (frame_of d line) refl in
      record { body = b.body; ended = b.ended; alone = b.alone; short = h }

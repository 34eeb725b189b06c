-- Laws of one frame: the characters at a place, and what a frame's pins are.
use mathlib.Core.Path.{◌≡◌, refl, ap, subst, ◌∙◌}
use mathlib.Core.Bool.{Bool, true, false}
use mathlib.Core.List.{List, [], ◌∷◌}
use Prim.Native.Char.{code}
use Prim.Native.Nat.{ℕ, zero, suc, ◌+◌, ◌<◌, ◌≤◌}
use native.Mathlib.Numerals.{add-one, add-two}
use native.Mathlib.Omega.{arith}
use lib.Dec.{ltb, lit<}
use lib.ListN.{length, get_or}
use lib.Seq.{drop-cons}
use borrow.Author.Tests.{ltb-true}
use Rattle.laws.specs.Choice.{both}
use Rattle.laws.proofs.Choices.{both_false}
use Rattle.laws.proofs.Computed.{true→T}
use Rattle.text.specs.Hexadecimal.{digit_of}
use Rattle.device.specs.Device.{digits_of}
use Rattle.device.specs.declared.Device.{Device}
use Rattle.device.proofs.Laws.{p0_nibble, p8_nibble}
use Rattle.frame.specs.Frame.{is_frame, digit_at, pins_of, frame_of, chars_at, PinsInRange}
use Rattle.std.proofs.Common.{Some, None}

-- the characters at a place are those that stand there
pub chars_three : (s : List ℕ) (k : ℕ) → k + 3 ≤ length s → chars_at 3 s k ≡ get_or s k 0 ∷ get_or s (k + 1) 0 ∷ get_or s (k + 2) 0 ∷ []
chars_three s k h =
    rw (drop-cons s k 0 (omega arith), drop-cons s (suc k) 0 (omega arith), drop-cons s (suc (suc k)) 0 (omega arith), add-one, add-two)

pub chars_four : (s : List ℕ) (k : ℕ) → k + 4 ≤ length s → chars_at 4 s k ≡ get_or s k 0 ∷ get_or s (k + 1) 0 ∷ get_or s (k + 2) 0 ∷ get_or s (k + 3) 0 ∷ []
chars_four s k h =
    let e : suc (suc (suc k)) ≡ k + 3 = omega arith in
    rw (drop-cons s k 0 (omega arith), drop-cons s (suc k) 0 (omega arith), drop-cons s (suc (suc k)) 0 (omega arith), drop-cons s (suc (suc (suc k))) 0 (omega arith), e, add-one, add-two)

pub both_first : (a b : Bool) → both a b ≡ true → a ≡ true
both_first true b e = refl
both_first false b e = e

pub both_second : (a b : Bool) → both a b ≡ true → b ≡ true
both_second true b e = e
both_second false b e = let z : false ≡ true = e in cc

-- another number of characters is no frame
pub no_frame : (ls cs : List ℕ) → (length cs ≡ length ls → ⊥) → is_frame ls cs ≡ false
no_frame [] [] ne = absurd (ne refl)
no_frame [] (c ∷ cs) ne = refl
no_frame (l ∷ ls) [] ne = refl
no_frame (l ∷ ls) (c ∷ cs) ne = ap (both (ltb (digit_of c) l)) (no_frame ls cs (λ e. ne (ap suc e))) ∙ both_false (ltb (digit_of c) l)

-- each digit of a frame is below its limit, and one that it does not have is 0
pub zero_digit : digit_of (code "0") ≡ 0
unfolding digit_of
zero_digit = refl

pub below_limit : (ls cs : List ℕ) (i : ℕ) → is_frame ls cs ≡ true → digit_at cs i < get_or ls i 1
below_limit [] [] i e = rw zero_digit (lit< tt)
below_limit [] (c ∷ cs) i e = absurd (true→T e)
below_limit (l ∷ ls) [] i e = absurd (true→T e)
below_limit (l ∷ ls) (c ∷ cs) zero e = ltb-true (digit_of c) l (both_first (ltb (digit_of c) l) (is_frame ls cs) e)
below_limit (l ∷ ls) (c ∷ cs) (suc i) e = below_limit ls cs i (both_second (ltb (digit_of c) l) (is_frame ls cs) e)

module _ (d : Device) (cs : List ℕ) where
  pub in_range : is_frame (digits_of d) cs ≡ true → PinsInRange d (pins_of cs)
  in_range e =
      record {
        p0 = subst (λ (l : ℕ). digit_at cs 0 < l) (p0_nibble d) (below_limit (digits_of d) cs 0 e);
        p8 = subst (λ (l : ℕ). digit_at cs 1 < l) (p8_nibble d) (below_limit (digits_of d) cs 1 e);
        p4 = below_limit (digits_of d) cs 2 e;
        speech = below_limit (digits_of d) cs 3 e;
      }

  -- a frame is seen where the characters are one
  pub seen : is_frame (digits_of d) cs ≡ true → frame_of d cs ≡ Some (pins_of cs)
  unfolding frame_of
  seen e = rw e

  pub not_seen : is_frame (digits_of d) cs ≡ false → frame_of d cs ≡ None
  unfolding frame_of
  not_seen e = rw e

-- The spacing of a line, judged a character at a time, is that of its parts.
use mathlib.Core.Path.{◌≡◌, refl, sym}
use mathlib.Core.Bool.{Bool, true, false, not}
use mathlib.Core.List.{List, [], ◌∷◌}
use Prim.Native.Nat.{ℕ, zero, suc, ◌-◌}
use native.Mathlib.Omega.{arith}
use lib.Dec.{eqb, eqb-suc-zero}
use Rattle.laws.specs.Choice.{pick, both, either}
use Rattle.laws.proofs.Choices.{both_false}
use Rattle.text.specs.Script.{is_lf, on_first}
use Rattle.compare_lines.specs.Lines.{Line, on_line, cut, is_blank, parts_of, full, full_parts, spaced}
use Rattle.compare_lines.specs.Left.{spaced_from}

-- a line has a part at least
pub record Headed (parts : List (List ℕ)) : Type 0 where
  pub first : List ℕ
  pub others : List (List ℕ)
  pub so : parts ≡ first ∷ others

headed_by : (c : ℕ) (s : List ℕ) (t : Bool) → is_blank c ≡ t → Headed (parts_of s) → Headed (parts_of (c ∷ s))
headed_by c s true e h = record { first = []; others = parts_of s; so = rw e }
headed_by c s false e h = record { first = c ∷ h.first; others = h.others; so = rw (e, h.so) }

pub headed : (s : List ℕ) → Headed (parts_of s)
headed [] = record { first = []; others = []; so = refl }
headed (c ∷ s) = headed_by c s (is_blank c) refl (headed s)

abbrev parts_from : ℕ → Bool → List (List ℕ) → Bool
parts_from left empty [] = false
parts_from left empty (p ∷ ps) = both (either (not empty) (full p)) (full_parts left ps)

abbrev first_spaced : ℕ → Bool → List Line → Bool
first_spaced left empty [] = false
first_spaced left empty (l ∷ ls) = both l.ended (parts_from left empty (parts_of l.text))

at_end_lem : (left : ℕ) (empty : Bool) → both (not empty) (eqb left 0) ≡ both (either (not empty) false) (full_parts left [])
at_end_lem left true = refl
at_end_lem zero false = refl
at_end_lem (suc k) false = eqb-suc-zero k

blank_parts : (left : ℕ) (empty ended : Bool) {parts : List (List ℕ)} → Headed parts → pick (either empty (eqb left 0)) false (both ended (parts_from (left - 1) true parts)) ≡ both ended (both (either (not empty) false) (full_parts left parts))
blank_parts left true ended h = sym (both_false ended)
blank_parts zero false ended h = rw (h.so, both_false ended)
blank_parts (suc k) false ended h =
    let e : suc k - 1 ≡ k = omega arith in rw (h.so, eqb-suc-zero k, e)

blank_step : (left : ℕ) (empty : Bool) (c : ℕ) (ls : List Line) → is_blank c ≡ true → pick (either empty (eqb left 0)) false (first_spaced (left - 1) true ls) ≡ first_spaced left empty (on_line c ls)
blank_step left true c [] e = refl
blank_step zero false c [] e = refl
blank_step (suc k) false c [] e = rw (eqb-suc-zero k)
blank_step left empty c (l ∷ ls) e = rw e (blank_parts left empty l.ended (headed l.text))

other_parts : (left : ℕ) (empty : Bool) (c : ℕ) {parts : List (List ℕ)} → Headed parts → parts_from left false parts ≡ parts_from left empty (on_first c parts)
other_parts left true c h = rw h.so
other_parts left false c h = rw h.so

other_step : (left : ℕ) (empty : Bool) (c : ℕ) (ls : List Line) → is_blank c ≡ false → first_spaced left false ls ≡ first_spaced left empty (on_line c ls)
other_step left empty c [] e = refl
other_step left empty c (l ∷ ls) e = rw (e, other_parts left empty c (headed l.text))

spaced_by : (left : ℕ) (empty : Bool) (c : ℕ) (cs : List ℕ) (s t : Bool) → is_lf c ≡ s → is_blank c ≡ t → ((l : ℕ) (e : Bool) → spaced_from l e cs ≡ first_spaced l e (cut cs)) → spaced_from left empty (c ∷ cs) ≡ first_spaced left empty (cut (c ∷ cs))
spaced_by left empty c cs true t e f g = rw e (at_end_lem left empty)
spaced_by left empty c cs false true e f g = rw (e, f, g (left - 1) true) (blank_step left empty c (cut cs) f)
spaced_by left empty c cs false false e f g = rw (e, f, g left false) (other_step left empty c (cut cs) f)

first_spaced_lem : (left : ℕ) (empty : Bool) (text : List ℕ) → spaced_from left empty text ≡ first_spaced left empty (cut text)
first_spaced_lem left empty [] = refl
first_spaced_lem left empty (c ∷ cs) =
    spaced_by left empty c cs (is_lf c) (is_blank c) refl refl (λ l e. first_spaced_lem l e cs)

pub spaced_first : (text : List ℕ) (line : Line) (others : List Line) → cut text ≡ line ∷ others → spaced line ≡ spaced_from 7 true text
spaced_first text line others q = rw (first_spaced_lem 7 true text, q, (headed line.text).so)

-- Whether two object codes can fit the same digits: a test that is false only where none fit both.
use mathlib.Core.Path.{subst}
use mathlib.Core.Bool.{Bool, true}
use mathlib.Core.List.{List, [], ◌∷◌}
use Prim.Native.Nat.{ℕ, ◌/◌}
use lib.Dec.{T, eqb, eqb→eq}
use Rattle.laws.specs.Choice.{both}
use Rattle.laws.proofs.Computed.{both_left, both_right, both_i}
use Rattle.sheet.specs.Code.{Group, #, all, fixed1, fixed2, fixed3, above2, has_digit, fits}

-- of two groups, the first with 1, 2 or 3 bits fixed above an operand
abbrev meet1 : ℕ → Group → Bool
meet1 v (# w) = eqb (w / 8) v
meet1 v (all l) = true
meet1 v (fixed1 w l) = eqb w v
meet1 v (fixed2 w l) = true
meet1 v (fixed3 w l) = true
meet1 v (above2 l w) = true

abbrev meet2 : ℕ → Group → Bool
meet2 v (# w) = eqb (w / 4) v
meet2 v (all l) = true
meet2 v (fixed1 w l) = true
meet2 v (fixed2 w l) = eqb w v
meet2 v (fixed3 w l) = true
meet2 v (above2 l w) = true

abbrev meet3 : ℕ → Group → Bool
meet3 v (# w) = eqb (w / 2) v
meet3 v (all l) = true
meet3 v (fixed1 w l) = true
meet3 v (fixed2 w l) = true
meet3 v (fixed3 w l) = eqb w v
meet3 v (above2 l w) = true

abbrev meet_group : Group → Group → Bool
meet_group (# v) h = has_digit h v
meet_group (all l) h = true
meet_group (fixed1 v l) h = meet1 v h
meet_group (fixed2 v l) h = meet2 v h
meet_group (fixed3 v l) h = meet3 v h
meet_group (above2 l v) h = true

same : (x v w : ℕ) → T (eqb x v) → T (eqb x w) → T (eqb w v)
same x v w s t = subst (λ (y : ℕ). T (eqb y v)) (eqb→eq x w t) s

at_digit : (f : ℕ → ℕ) (d v w : ℕ) → T (eqb (f d) v) → T (eqb d w) → T (eqb (f w) v)
at_digit f d v w s t = subst (λ (y : ℕ). T (eqb (f y) v)) (eqb→eq d w t) s

meets1 : (v : ℕ) (h : Group) (d : ℕ) → T (eqb (d / 8) v) → T (has_digit h d) → T (meet1 v h)
meets1 v (# w) d s t = at_digit (λ d. d / 8) d v w s t
meets1 v (all l) d s t = tt
meets1 v (fixed1 w l) d s t = same (d / 8) v w s t
meets1 v (fixed2 w l) d s t = tt
meets1 v (fixed3 w l) d s t = tt
meets1 v (above2 l w) d s t = tt

meets2 : (v : ℕ) (h : Group) (d : ℕ) → T (eqb (d / 4) v) → T (has_digit h d) → T (meet2 v h)
meets2 v (# w) d s t = at_digit (λ d. d / 4) d v w s t
meets2 v (all l) d s t = tt
meets2 v (fixed1 w l) d s t = tt
meets2 v (fixed2 w l) d s t = same (d / 4) v w s t
meets2 v (fixed3 w l) d s t = tt
meets2 v (above2 l w) d s t = tt

meets3 : (v : ℕ) (h : Group) (d : ℕ) → T (eqb (d / 2) v) → T (has_digit h d) → T (meet3 v h)
meets3 v (# w) d s t = at_digit (λ d. d / 2) d v w s t
meets3 v (all l) d s t = tt
meets3 v (fixed1 w l) d s t = tt
meets3 v (fixed2 w l) d s t = tt
meets3 v (fixed3 w l) d s t = same (d / 2) v w s t
meets3 v (above2 l w) d s t = tt

meets_group : (g h : Group) (d : ℕ) → T (has_digit g d) → T (has_digit h d) → T (meet_group g h)
meets_group (# v) h d s t = subst (λ (y : ℕ). T (has_digit h y)) (eqb→eq d v s) t
meets_group (all l) h d s t = tt
meets_group (fixed1 v l) h d s t = meets1 v h d s t
meets_group (fixed2 v l) h d s t = meets2 v h d s t
meets_group (fixed3 v l) h d s t = meets3 v h d s t
meets_group (above2 l v) h d s t = tt

abbrev pub meet : List Group → List Group → Bool
meet [] hs = true
meet (g ∷ gs) [] = true
meet (g ∷ gs) (h ∷ hs) = both (meet_group g h) (meet gs hs)

pub meets : (gs hs : List Group) (ds : List ℕ) → T (fits gs ds) → T (fits hs ds) → T (meet gs hs)
meets [] hs ds s t = tt
meets (g ∷ gs) [] ds s t = tt
meets (g ∷ gs) (h ∷ hs) [] s t = absurd s
meets (g ∷ gs) (h ∷ hs) (d ∷ ds) s t =
    both_i (meet_group g h) (meet gs hs) (meets_group g h d (both_left (has_digit g d) (fits gs ds) s) (both_left (has_digit h d) (fits hs ds) t))
    (meets gs hs ds (both_right (has_digit g d) (fits gs ds) s) (both_right (has_digit h d) (fits hs ds) t))

-- There is one way to the goal.
use mathlib.Core.Path.{◌≡◌, refl, sym, ap, ◌∙◌}
use mathlib.Core.Logic.{◌⊎◌, inl, inr}
use mathlib.Core.List.{List, [], ◌∷◌}
use Prim.Native.Nat.{ℕ, suc, ◌≤◌, ◌<◌}
use native.Mathlib.Omega.{arith}
use lib.ListN.{length}
use Rattle.graph.specs.Graph.{Graph}
use Rattle.routines_paths.specs.Open.{Goes}
use Rattle.routines_paths.specs.Deep.{Move, to_next, to_other, into, back, Route, last, move}

-- there is one move only
move_unique : {g : Graph} {dep ks ks₁ ks₂ : List ℕ} {goal reached v y₁ y₂ w₁ w₂ : ℕ} → Move g dep goal reached ks v y₁ ks₁ w₁ → Move g dep goal reached ks v y₂ ks₂ w₂ → (y₁ ≡ y₂) × (ks₁ ≡ ks₂) × (w₁ ≡ w₂)
move_unique (to_next k e h) (to_next k' e' h') = (refl, refl, e ∙ sym e')
move_unique (to_next k e h) (to_other k' e' h') = absurd (omega arith)
move_unique (to_next k e h) (into k' e' h' m') = absurd (omega arith)
move_unique (to_next k e h) (back k') = absurd (omega arith)
move_unique (to_other k e h) (to_next k' e' h') = absurd (omega arith)
move_unique (to_other k e h) (to_other k' e' h') = (refl, refl, e ∙ sym e')
move_unique (to_other k e h) (into k' e' h' m') = absurd (omega arith)
move_unique (to_other k e h) (back k') = absurd (omega arith)
move_unique (into k e h m) (to_next k' e' h') = absurd (omega arith)
move_unique (into k e h m) (to_other k' e' h') = absurd (omega arith)
move_unique {ks = ks} (into k e h m) (into k' e' h' m') = (m ∙ sym m', ap (λ (x : ℕ). x ∷ ks) (h ∙ sym h'), e ∙ sym e')
move_unique (into k e h m) (back k') = absurd (omega arith)
move_unique (back k) (to_next k' e' h') = absurd (omega arith)
move_unique (back k) (to_other k' e' h') = absurd (omega arith)
move_unique (back k) (into k' e' h' m') = absurd (omega arith)
move_unique (back k) (back k') = (refl, refl, refl)

move_end : {g : Graph} {dep ks : List ℕ} {goal reached y v w : ℕ} → g.kind v ≡ 2 → Move g dep goal reached [] v y ks w → ⊥
move_end z (to_next k e h) = omega arith
move_end z (to_other k e h) = omega arith
move_end z (into k e h m) = omega arith

-- at most one call more is open
pub move_opens : {g : Graph} {dep ks ks' : List ℕ} {goal reached y v w : ℕ} → Move g dep goal reached ks v y ks' w → length ks' ≤ suc (length ks)
move_opens (to_next k e h) = omega arith
move_opens (to_other k e h) = omega arith
move_opens (into k e h m) = omega arith
move_opens (back k) = omega arith

pub route_after : {g : Graph} {dep ks ks' : List ℕ} {goal reached y v w : ℕ} {l : List ℕ} → Move g dep goal reached ks v y ks' w → Route g dep goal reached ks v l → (t : List ℕ) × (l ≡ v ∷ t) × Route g dep goal y ks' w t
route_after m (last k) = absurd (move_end k m)
route_after m (move {l = l} m' r) = let e = move_unique m m' in (l, refl, rw (e.0, e.1, e.2) r)

pub route_end : {g : Graph} {dep : List ℕ} {goal reached v : ℕ} {l : List ℕ} → g.kind v ≡ 2 → Route g dep goal reached [] v l → l ≡ v ∷ []
route_end z (last k) = refl
route_end z (move m r) = absurd (move_end z m)

pub route_length : {g : Graph} {dep : List ℕ} {goal : ℕ} {ks : List ℕ} {reached v : ℕ} {l : List ℕ} → Route g dep goal reached ks v l → length ks < length l
route_length (last k) = omega arith
route_length (move (to_next k e h) r) = omega (arith, route_length r)
route_length (move (to_other k e h) r) = omega (arith, route_length r)
route_length (move (into k e h m) r) = omega (arith, route_length r)
route_length (move (back k) r) = omega (arith, route_length r)

-- a place of the way goes on, calls, or ends a called routine, where the way is not over
pub route_goes : {g : Graph} {dep ks : List ℕ} {goal reached v t : ℕ} {l : List ℕ} → Route g dep goal reached ks v l → (g.kind v ≡ 2 → ⊥) ⊎ (0 < t) → Goes (g.kind v) t
route_goes (last z) (inl n) = absurd (n z)
route_goes (last z) (inr h) = record { one = inr (inr (z, h)) }
route_goes (move (to_next z e h) r) m = record { one = inl z }
route_goes (move (to_other z e h) r) m = record { one = inl z }
route_goes (move (into z e h y) r) m = record { one = inr (inl z) }
route_goes (move (back z) r) (inl n) = absurd (n z)
route_goes (move (back z) r) (inr h) = record { one = inr (inr (z, h)) }

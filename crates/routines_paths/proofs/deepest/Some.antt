-- Where some sums fall along each edge, there is a way to any goal by any depths, and it has no more places than its sum.
use mathlib.Core.Path.{◌≡◌, refl}
use mathlib.Core.List.{List, [], ◌∷◌}
use Prim.Native.Nat.{ℕ, zero, suc, ◌+◌, ◌≤◌, ◌<◌, max}
use native.Mathlib.Omega.{arith}
use native.Mathlib.Decide.{dec_lt}
use lib.ListN.{length, get_or}
use Rattle.graph.specs.Graph.{Graph}
use Rattle.routines_paths.specs.Way as way
use Rattle.routines_paths.specs.Way.{pending, Positive, Falls, ends, forks, calls, Fall}
use Rattle.routines_paths.proofs.route.Ways.{Moved, moved}
use Rattle.routines_paths.specs.Deep.{total, Move, to_next, to_other, into, back, Route, last, move}

module _ {g : Graph} {d : List ℕ} (fall : Fall g d) (dep : List ℕ) (goal : ℕ) where
  -- at a fork the sums fall either way; the other moves are those of the sums' way
  falls-fork : {ks : List ℕ} {v : ℕ} → 0 < get_or d v 0 → Positive d ks → g.kind v ≡ 1 → Moved d ks v ks (g.next v) × Moved d ks v ks (g.other v)
  falls-fork {ks} {v} has pos k = go (fall.at v has)
    where
      go : Falls g d v → Moved d ks v ks (g.next v) × Moved d ks v ks (g.other v)
      go (ends z) = absurd (omega arith)
      go (forks z a b x y) = (record { has = a; positive = pos; less = omega arith; opens = omega arith }, record { has = x; positive = pos; less = omega arith; opens = omega arith })
      go (calls z a b x) = absurd (omega arith)

  falls : {reached y v w : ℕ} {ks ks' : List ℕ} → 0 < get_or d v 0 → Positive d ks → Move g dep goal reached ks v y ks' w → Moved d ks v ks' w
  falls has pos (to_next k e h) = rw e (falls-fork has pos k).0
  falls has pos (to_other k e h) = rw e (falls-fork has pos k).1
  falls has pos (into k e h m) = moved fall has pos (way.Move.into k e h)
  falls has pos (back k) = moved fall has pos (way.Move.back k)

  Some : ℕ → List ℕ → ℕ → Type 0
  Some reached ks v = (l : List ℕ) × Route g dep goal reached ks v l × (length l ≤ get_or d v 0 + pending d ks)

  some-move : {reached y v w : ℕ} {ks ks' : List ℕ} → 0 < get_or d v 0 → Positive d ks → Move g dep goal reached ks v y ks' w → Some y ks' w → Some reached ks v
  unfolding Some
  some-move {v = v} has pos m x = (v ∷ x.0, move m x.1, omega (arith, x.2, (falls has pos m).less))

  some : (k reached : ℕ) (ks : List ℕ) (v : ℕ) → get_or d v 0 + pending d ks ≤ k → 0 < get_or d v 0 → Positive d ks → Some reached ks v
  unfolding Some pending Positive
  some zero reached ks v le has pos = absurd (omega arith)
  some (suc k) reached ks v le has pos =
      go ks le pos (fall.at v has) (λ y ks' w m pos. let f = falls has pos m in some-move has pos m (some k y ks' w (omega (arith, f.less, le)) f.has f.positive))
    where
      go : (ks : List ℕ) → get_or d v 0 + pending d ks ≤ suc k → Positive d ks → Falls g d v
          → ((y : ℕ) (ks' : List ℕ) (w : ℕ) → Move g dep goal reached ks v y ks' w → Positive d ks → Some reached ks v) → Some reached ks v
      go [] le pos (ends z) ih = (v ∷ [], last z, omega arith)
      go (w ∷ ks) le pos (ends z) ih = ih reached ks w (back z) pos
      go ks le pos (forks z a b x y) ih = turn (dec_lt (total dep reached ks (g.next v)) goal)
        where
          turn : Dec (total dep reached ks (g.next v) < goal) → Some reached ks v
          turn (yes h) = ih reached ks (g.other v) (to_other z refl h) pos
          turn (no h) = ih reached ks (g.next v) (to_next z refl (omega arith)) pos
      go ks le pos (calls z a b x) ih = ih (max reached (suc (length ks))) (g.other v ∷ ks) (g.next v) (into z refl refl refl) pos

  pub deep-route : (s : ℕ) → 0 < get_or d s 0 → (route : List ℕ) × Route g dep goal 0 [] s route × (length route ≤ get_or d s 0)
  unfolding Some pending Positive
  deep-route s h = let x = some (get_or d s 0) 0 [] s (omega arith) h tt in (x.0, x.1, omega (arith, x.2))

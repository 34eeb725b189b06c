-- The moves of N's way, by what is read of a number.
use mathlib.Core.Path.{◌≡◌, sym, ◌∙◌}
use mathlib.Core.Logic.{◌⊎◌, inl, inr}
use mathlib.Core.List.{List}
use Prim.Native.Nat.{ℕ, ◌+◌, ◌-◌, ◌<◌}
use lib.ListN.{length, get_or, set}
use Rattle.graph.specs.Graph.{Graph}
use Rattle.routines_joined.specs.Words.{NodeIs}
use Rattle.routines_paths.specs.Open.{open_of, Goes}
use Rattle.routines_paths.specs.Way.{Greater, Move, to_next, to_other, into, back, Falls, ends, forks, calls, Fall}
use Rattle.routines_paths.proofs.Open.{open_push, open_top}

module _ {g : Graph} (d : List ℕ) {v k a b : ℕ} (i : NodeIs g v k a b) where
  pub moved_on : (ks : List ℕ) {r : ℕ} → k ≡ 1 → Greater d a b r → Move g d ks v ks r
  moved_on ks z (inl (e, h)) = to_next (sym i.kind ∙ z) (e ∙ i.next) (rw (i.next, i.other) at h)
  moved_on ks z (inr (e, h)) = to_other (sym i.kind ∙ z) (e ∙ i.other) (rw (i.next, i.other) at h)

  pub moved_in : (stack : List ℕ) (t : ℕ) → k ≡ 3 → t < length stack → Move g d (open_of stack t) v (open_of (set stack t b) (t + 1)) a
  moved_in stack t z h = rw (open_push stack t b h) (into (sym i.kind ∙ z) i.next i.other)

pub moved_back : {g : Graph} (d stack : List ℕ) {v t : ℕ} → g.kind v ≡ 2 → 0 < t → Move g d (open_of stack t) v (open_of stack (t - 1)) (get_or stack (t - 1) 0)
moved_back d stack {t = t} e h = rw (open_top stack t h) (back e)

-- a place with a sum goes on, calls, or ends a routine; and where the way is not over, that is a called one
pub may_move : {g : Graph} {d : List ℕ} {v t : ℕ} → Fall g d → 0 < get_or d v 0 → (g.kind v ≡ 2 → ⊥) ⊎ (0 < t) → Goes (g.kind v) t
may_move {g} {d} {v} {t} fall has m = record { one = go (fall.at v has) m }
  where
    go : Falls g d v → (g.kind v ≡ 2 → ⊥) ⊎ (0 < t) → (g.kind v ≡ 1) ⊎ ((g.kind v ≡ 3) ⊎ ((g.kind v ≡ 2) × (0 < t)))
    go (ends z) (inl n) = absurd (n z)
    go (ends z) (inr h) = inr (inr (z, h))
    go (forks z a b x y) m = inl z
    go (calls z a b x) m = inr (inl z)

-- Where nothing is refused on the flow, every way from the start ends: by induction on that, all else follows.
use mathlib.Core.Path.{◌≡◌, refl}
use mathlib.Core.Logic.{◌⊎◌, inl, inr}
use mathlib.Core.Bool.{Bool, true, false}
use mathlib.Core.List.{List, [], ◌∷◌}
use Prim.Native.Nat.{ℕ, ◌<◌}
use Rattle.laws.specs.Choice.{pick}
use Rattle.graph.specs.Graph.{Graph, Edge, Reach, here, step, ReachPlus}
use Rattle.graph.specs.Laid.{Inside}
use Rattle.graph.proofs.Reach.{reach_snoc, reach_inside}
use Rattle.routines.specs.Calling.{Flow, Routine, outer, called, start_in, end_of, after, within, In, Live, handler, call, Plus, once, more, Calls, Recurs, IsBad, IsLoop}
use Rattle.routines.specs.Shape.{Small, Widens}
use Rattle.routines.proofs.Within.{Kind, kind_of, edge-cases, edge_on, edge-call, out-excluded}
use Rattle.routines.proofs.Accessible.{Acc, acc, accessible}
use Rattle.routines.proofs.Wide.{wide-recurs}

-- from v the routine ends, whichever way is taken
pub data Done (f : Flow) (K : ℕ → Bool) : Routine → ℕ → Type 0 where
  ends : {r : Routine} {v : ℕ} → f.kind v ≡ end_of r → Done f K r v
  goes : {r : Routine} {v : ℕ} → f.kind v ≡ 1 → Done f K r (f.next v) → Done f K r (f.other v) → Done f K r v
  calls : {r : Routine} {v : ℕ} → f.kind v ≡ 3 → Done f K (called (f.entry v)) (f.from (f.entry v)) → Done f K r (after f K v) → Done f K r v

-- the calls that are open in a routine, by where they go on: each is one at a reachable place of the routine outside
pub data Nested (f : Flow) (K : ℕ → Bool) : Routine → List ℕ → Type 0 where
  none : Nested f K outer []
  inner : {r : Routine} {ks : List ℕ} {u : ℕ} → Nested f K r ks → Live f K r → In f K r u → f.kind u ≡ 3 → Nested f K (called (f.entry u)) (after f K u ∷ ks)

plus_reach : {g : Graph} {u w : ℕ} → Plus (Edge g) u w → ReachPlus g u w
plus_reach (once {b = b} e) = (b, e, here)
plus_reach (more {b = b} e p) = let q = plus_reach p in (b, e, step q.1 q.2)

module _ (f : Flow) (K : ℕ → Bool) {n E : ℕ} (small : Small f n E) where
  after-lt : (v : ℕ) → v < n → after f K v < n
  unfolding after
  after-lt v l = go (K (f.entry v))
    where
      go : (b : Bool) → pick b (f.other v) (f.next v) < n
      go true = small.other v l
      go false = small.next v l

  pub inside : (r : Routine) → Inside (within f K r) n
  inside r = record { edge = λ v w l e. go v w l (edge-cases f K r e) }
    where
      go : (v w : ℕ) → v < n → ((f.kind v ≡ 1) × ((w ≡ f.next v) ⊎ (w ≡ f.other v))) ⊎ ((f.kind v ≡ 3) × (w ≡ after f K v)) → w < n
      go v w l (inl (k, inl e)) = rw e (small.next v l)
      go v w l (inl (k, inr e)) = rw e (small.other v l)
      go v w l (inr (k, e)) = rw e (after-lt v l)

  pub start-lt : {r : Routine} → Live f K r → start_in f r < n
  start-lt handler = small.start
  start-lt (call {r} {v} l i k) = small.from (f.entry v) (small.entry v (reach_inside (inside r) i (start-lt l)))

  pub in-lt : {r : Routine} {v : ℕ} → Live f K r → Reach (within f K r) (start_in f r) v → v < n
  in-lt {r} l i = reach_inside (inside r) i (start-lt l)

  pub called-lt : {e : ℕ} → Live f K (called e) → e < E
  called-lt (call {v = v} l i k) = small.entry v (in-lt l i)

  -- the calls can be followed only so far
  pub calls-end : Widens f → ((e : ℕ) → Recurs f e → ⊥) → (e : ℕ) → Live f K (called e) → Acc (Calls f K) e
  calls-end widens no_recursion =
      accessible (Calls f K) (λ e. Live f K (called e)) E (λ d e l c. rw c.3 at (call l c.1 c.2)) (λ e l. called-lt l) (λ e l p. no_recursion e (wide-recurs f widens K e l p))

  module _ (widens : Widens f) (no_recursion : (e : ℕ) → Recurs f e → ⊥) (no_bad : (v : ℕ) → IsBad f K v → ⊥) (no_loop : (v : ℕ) → IsLoop f K v → ⊥) where
    -- in a reachable routine the steps can be followed only so far
    edges-end : {r : Routine} → Live f K r → (v : ℕ) → In f K r v → Acc (Edge (within f K r)) v
    edges-end {r} l =
        accessible (Edge (within f K r)) (In f K r) n (λ v w i e. reach_snoc i e) (λ v i. in-lt l i) (λ v i p. no_loop v (r, l, i, plus_reach p))

    done-in : {r : Routine} → Live f K r → ((v : ℕ) → In f K r v → f.kind v ≡ 3 → Done f K (called (f.entry v)) (f.from (f.entry v)))
        → {v : ℕ} → Acc (Edge (within f K r)) v → In f K r v → Done f K r v
    done-in {r} l callees {v} (acc a) i = go (kind_of f v (end_of r)) (λ w e. done-in l callees (a w e) (reach_snoc i e))
      where
        go : Kind f v (end_of r) → ((w : ℕ) → Edge (within f K r) v w → Done f K r w) → Done f K r v
        go (Kind.on k) ih = goes k (ih (f.next v) (edge_on f K r k (inl refl))) (ih (f.other v) (edge_on f K r k (inr refl)))
        go (Kind.call k) ih = calls k (callees v i k) (ih (after f K v) (edge-call f K r k))
        go (Kind.end k) ih = ends k
        go (Kind.out x y z) ih = absurd (no_bad v (r, l, i, out-excluded f K r v x y z))

    done-called : {e : ℕ} → Acc (Calls f K) e → Live f K (called e) → Done f K (called e) (f.from e)
    done-called {e} (acc a) l =
        done-in l (λ v i k. done-called (a (f.entry v) (v, i, k, refl)) (call l i k)) (edges-end l (f.from e) here) here

    pub done_at : {r : Routine} {v : ℕ} → Live f K r → In f K r v → Done f K r v
    done_at {r} {v} l i = done-in l (λ u j k. done-called (calls-end widens no_recursion (f.entry u) (call l j k)) (call l j k)) (edges-end l v i) i

    pub done : Done f K outer f.start
    done = done_at handler here

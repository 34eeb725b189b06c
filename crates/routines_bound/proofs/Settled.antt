-- What the settled sums and depths are: those of the routines, where the start has a sum; and where it has none, a path spends more than 65,535.
use mathlib.Core.Path.{◌≡◌, refl, sym}
use mathlib.Core.Logic.{◌⊎◌, inl, inr}
use mathlib.Core.Bool.{Bool}
use mathlib.Core.List.{List}
use Prim.Native.Nat.{ℕ, suc, ◌+◌, ◌≤◌, ◌<◌, max, min}
use native.Mathlib.Omega.{arith}
use native.Mathlib.Decide.{ℕ_discrete}
use lib.Dec.{eqb}
use lib.ListN.{get_or}
use borrow.Author.Tests.{eq-eqb, ne_eqb}
use Rattle.laws.specs.Choice.{pick}
use Rattle.graph.specs.Graph.{Graph, Edge, here, sum}
use Rattle.graph.proofs.Reach.{reach_snoc, reach_in}
use Rattle.routines.specs.Calling.{Flow, Routine, outer, called, start_in, end_of, after, within, In, Live, handler, call, HandlerPath}
use Rattle.routines.specs.Sums as sums
use Rattle.routines.specs.Sums.{Sums}
use Rattle.routines.specs.Depths as depths
use Rattle.routines.specs.Depths.{Depths}
use Rattle.routines.specs.Capped.{CappedValue, Capped}
use Rattle.routines.proofs.Capped.{costs-cap}
use Rattle.routines.proofs.Within.{edge-cases}
use Rattle.routines.proofs.Done.{Done}
use Rattle.routines_sums.specs.Dist.{Value, ends, forks, calls, Dist, Idle, has, out, next_waits, other_waits, fork_over, call_over}
use Rattle.routines_paths.specs.Way as way
use Rattle.routines_paths.specs.Way.{Fall, Falls}
use Rattle.routines_bound.proofs.Ways.{WayIs, on, call, end, Ways}

-- the sums fall along the ways, as write_paths asks
pub fall_of : {g : Graph} {c : ℕ → ℕ} {d dep : List ℕ} → Dist g c d dep → ((v : ℕ) → 0 < get_or d v 0 → 1 ≤ g.kind v → g.kind v ≤ 3 → 0 < c v) → Fall g d
fall_of {g} {c} {d} {dep} dist pos = record { at = λ v h. go v (pos v h) (dist.value v h) }
  where
    go : (v : ℕ) → (1 ≤ g.kind v → g.kind v ≤ 3 → 0 < c v) → Value g c d dep v (get_or d v 0) (get_or dep v 0) → Falls g d v
    go v p (ends k e y) = way.Falls.ends k
    go v p (forks k a b e y) = let q = p (omega (arith, k)) (omega (arith, k)) in way.Falls.forks k a (omega (arith, e, q)) b (omega (arith, e, q))
    go v p (calls k a b e y) = let q = p (omega (arith, k)) (omega (arith, k)) in way.Falls.calls k a b (omega (arith, e, q))

-- the value at a place of the flow
data Right (f : Flow) (K : ℕ → Bool) (c : ℕ → ℕ) (d dep : List ℕ) (r : Routine) (v : ℕ) : Type 0 where
  at_end_lem : f.kind v ≡ end_of r → get_or d v 0 ≡ c v → get_or dep v 0 ≡ 0 → Right f K c d dep r v
  at_fork : f.kind v ≡ 1 → 0 < get_or d (f.next v) 0 → 0 < get_or d (f.other v) 0 → get_or d v 0 ≡ c v + max (get_or d (f.next v) 0) (get_or d (f.other v) 0)
      → get_or dep v 0 ≡ max (get_or dep (f.next v) 0) (get_or dep (f.other v) 0) → Right f K c d dep r v
  at_call : f.kind v ≡ 3 → 0 < get_or d (f.from (f.entry v)) 0 → 0 < get_or d (after f K v) 0 → get_or d v 0 ≡ c v + (get_or d (f.from (f.entry v)) 0 + get_or d (after f K v) 0)
      → get_or dep v 0 ≡ max (suc (get_or dep (f.from (f.entry v)) 0)) (get_or dep (after f K v) 0) → Right f K c d dep r v

-- an end neither goes on nor calls
no_end : (r : Routine) {k : ℕ} → k ≡ end_of r → (k ≡ 1) ⊎ (k ≡ 3) → ⊥
no_end outer e (inl z) = omega arith
no_end outer e (inr z) = omega arith
no_end (called x) e (inl z) = omega arith
no_end (called x) e (inr z) = omega arith

-- the sum at v, or the cap where it has none
cap_at : List ℕ → ℕ → ℕ
cap_at d v = pick (eqb (get_or d v 0) 0) 65536 (get_or d v 0)

cap_none : (d : List ℕ) (v : ℕ) → get_or d v 0 ≡ 0 → cap_at d v ≡ 65536
unfolding cap_at
cap_none d v z = rw (eq-eqb (get_or d v 0) 0 z) refl

cap_has : (d : List ℕ) (v : ℕ) → (get_or d v 0 ≡ 0 → ⊥) → cap_at d v ≡ get_or d v 0
unfolding cap_at
cap_has d v h = rw (ne_eqb (get_or d v 0) 0 h) refl

module _ (f : Flow) (K : ℕ → Bool) (g : Graph) (c : ℕ → ℕ) (d dep : List ℕ) (ways : Ways f K g) (dist : Dist g c d dep) where
  right : (r : Routine) (v : ℕ) → Live f K r → In f K r v → 0 < get_or d v 0 → Right f K c d dep r v
  right r v l i h = go (ways r v l i) (dist.value v h)
    where
      go : WayIs f K g r v → Value g c d dep v (get_or d v 0) (get_or dep v 0) → Right f K c d dep r v
      go (on k w) (ends z e y) = absurd (omega (arith, w.kind, z))
      go (on k w) (forks z a b e y) = at_fork k (rw w.next a) (rw w.other b) (rw (w.next, w.other) e) (rw (w.next, w.other) y)
      go (on k w) (calls z a b e y) = absurd (omega (arith, w.kind, z))
      go (call k w) (ends z e y) = absurd (omega (arith, w.kind, z))
      go (call k w) (forks z a b e y) = absurd (omega (arith, w.kind, z))
      go (call k w) (calls z a b e y) = at_call k (rw w.next a) (rw w.other b) (rw (w.next, w.other) e) (rw (w.next, w.other) y)
      go (end k w) (ends z e y) = at_end_lem k e y
      go (end k w) (forks z a b e y) = absurd (omega (arith, w, z))
      go (end k w) (calls z a b e y) = absurd (omega (arith, w, z))

  module _ (start : 0 < get_or d f.start 0) where
    has_on : {r : Routine} → Live f K r → (v w : ℕ) → In f K r v × (0 < get_or d v 0) → Edge (within f K r) v w → In f K r w × (0 < get_or d w 0)
    has_on {r} l v w (i, h) e = (reach_snoc i e, go (right r v l i h) (edge-cases f K r e))
      where
        go : Right f K c d dep r v → ((f.kind v ≡ 1) × ((w ≡ f.next v) ⊎ (w ≡ f.other v))) ⊎ ((f.kind v ≡ 3) × (w ≡ after f K v)) → 0 < get_or d w 0
        go (at_end_lem k x y) (inl (z, q)) = absurd (no_end r k (inl z))
        go (at_end_lem k x y) (inr (z, q)) = absurd (no_end r k (inr z))
        go (at_fork k a b x y) (inl (z, inl q)) = rw q a
        go (at_fork k a b x y) (inl (z, inr q)) = rw q b
        go (at_fork k a b x y) (inr (z, q)) = absurd (omega (arith, k, z))
        go (at_call k a b x y) (inl (z, q)) = absurd (omega (arith, k, z))
        go (at_call k a b x y) (inr (z, q)) = rw q b

    has_in : {r : Routine} {v : ℕ} → Live f K r → 0 < get_or d (start_in f r) 0 → In f K r v → 0 < get_or d v 0
    has_in {r} l h i = (reach_in (λ v. In f K r v × (0 < get_or d v 0)) (has_on l) i (here, h)).1

    has-live : {r : Routine} → Live f K r → 0 < get_or d (start_in f r) 0
    has-live handler = start
    has-live (call {r} {v} l i k) = go (right r v l i (has_in l (has-live l) i))
      where
        go : Right f K c d dep r v → 0 < get_or d (f.from (f.entry v)) 0
        go (at_end_lem z x y) = absurd (no_end r z (inr k))
        go (at_fork z a b x y) = absurd (omega (arith, k, z))
        go (at_call z a b x y) = a

    right-at : (r : Routine) (v : ℕ) → Live f K r → In f K r v → Right f K c d dep r v
    right-at r v l i = right r v l i (has_in l (has-live l) i)

    pub sums-of : Sums f K c (λ v. get_or d v 0) (λ v. get_or d v 0)
    sums-of = record { value = λ r v l i. go r v (right-at r v l i) }
      where
        go : (r : Routine) (v : ℕ) → Right f K c d dep r v → sums.Value f K c (λ v. get_or d v 0) (λ v. get_or d v 0) r v
        go outer v (at_end_lem k e y) = sums.Value.ends k e
        go outer v (at_fork k a b e y) = sums.Value.forks k e
        go outer v (at_call k a b e y) = sums.Value.calls k e
        go (called x) v (at_end_lem k e y) = sums.Value.ends k e
        go (called x) v (at_fork k a b e y) = sums.Value.forks k e
        go (called x) v (at_call k a b e y) = sums.Value.calls k e

    pub depths-of : Depths f K (λ v. get_or dep v 0) (λ v. get_or dep v 0)
    depths-of = record { value = λ r v l i. go r v (right-at r v l i) }
      where
        go : (r : Routine) (v : ℕ) → Right f K c d dep r v → depths.Value f K (λ v. get_or dep v 0) (λ v. get_or dep v 0) r v
        go outer v (at_end_lem k e y) = depths.Value.ends k y
        go outer v (at_fork k a b e y) = depths.Value.forks k y
        go outer v (at_call k a b e y) = depths.Value.calls k y
        go (called x) v (at_end_lem k e y) = depths.Value.ends k y
        go (called x) v (at_fork k a b e y) = depths.Value.forks k y
        go (called x) v (at_call k a b e y) = depths.Value.calls k y

  module _ (idle : (r : Routine) (v : ℕ) → Live f K r → In f K r v → Idle g c d v) where
    cap-le : (v : ℕ) → get_or d v 0 ≤ cap_at d v
    cap-le v = go (ℕ_discrete (get_or d v 0) 0)
      where
        go : Dec (get_or d v 0 ≡ 0) → get_or d v 0 ≤ cap_at d v
        go (yes z) = omega (arith, z)
        go (no h) = omega (arith, cap_has d v h)

    -- by routine the same
    end-capped : (r : Routine) (v : ℕ) → f.kind v ≡ end_of r → cap_at d v ≡ min 65536 (c v) → CappedValue f K c 65536 (cap_at d) (cap_at d) r v
    end-capped outer v k e = CappedValue.ends k e
    end-capped (called x) v k e = CappedValue.ends k e

    fork-capped : (r : Routine) (v : ℕ) → f.kind v ≡ 1 → cap_at d v ≡ min 65536 (c v + max (cap_at d (f.next v)) (cap_at d (f.other v))) → CappedValue f K c 65536 (cap_at d) (cap_at d) r v
    fork-capped outer v k e = CappedValue.forks k e
    fork-capped (called x) v k e = CappedValue.forks k e

    call-capped : (r : Routine) (v : ℕ) → f.kind v ≡ 3 → cap_at d v ≡ min 65536 (c v + (cap_at d (f.from (f.entry v)) + cap_at d (after f K v))) → CappedValue f K c 65536 (cap_at d) (cap_at d) r v
    call-capped outer v k e = CappedValue.calls k e
    call-capped (called x) v k e = CappedValue.calls k e

    some : {u : ℕ} → 0 < u → u ≡ 0 → ⊥
    some h e = omega (arith, h, e)

    -- a place with a sum
    capped-has : (r : Routine) (v : ℕ) → (get_or d v 0 ≡ 0 → ⊥) → Right f K c d dep r v → CappedValue f K c 65536 (cap_at d) (cap_at d) r v
    capped-has r v h (at_end_lem k e y) = end-capped r v k (omega (arith, cap_has d v h, e, dist.fits v))
    capped-has r v h (at_fork k a b e y) =
        fork-capped r v k (omega (arith, cap_has d v h, e, dist.fits v, cap_has d (f.next v) (some a), cap_has d (f.other v) (some b)))
    capped-has r v h (at_call k a b e y) =
        call-capped r v k (omega (arith, cap_has d v h, e, dist.fits v, cap_has d (f.from (f.entry v)) (some a), cap_has d (after f K v) (some b)))

    -- and one without
    capped-none : (r : Routine) (v : ℕ) → get_or d v 0 ≡ 0 → WayIs f K g r v → Idle g c d v → CappedValue f K c 65536 (cap_at d) (cap_at d) r v
    capped-none r v z w (has h) = absurd (omega (arith, z, h))
    capped-none r v z (on k w) (out a b e) = absurd (a (sym w.kind))
    capped-none r v z (on k w) (next_waits n q) = fork-capped r v k (omega (arith, cap_none d v z, cap_none d (f.next v) (rw w.next q)))
    capped-none r v z (on k w) (other_waits n q) = fork-capped r v k (omega (arith, cap_none d v z, cap_none d (f.other v) (rw w.other q)))
    capped-none r v z (on k w) (fork_over n q) =
        fork-capped r v k (omega (arith, cap_none d v z, rw (← w.next, ← w.other) at q, cap-le (f.next v), cap-le (f.other v)))
    capped-none r v z (on k w) (call_over n q) = absurd (omega (arith, w.kind, n))
    capped-none r v z (call k w) (out a b e) = absurd (e (sym w.kind))
    capped-none r v z (call k w) (next_waits n q) = call-capped r v k (omega (arith, cap_none d v z, cap_none d (f.from (f.entry v)) (rw w.next q)))
    capped-none r v z (call k w) (other_waits n q) = call-capped r v k (omega (arith, cap_none d v z, cap_none d (after f K v) (rw w.other q)))
    capped-none r v z (call k w) (fork_over n q) = absurd (omega (arith, w.kind, n))
    capped-none r v z (call k w) (call_over n q) =
        call-capped r v k (omega (arith, cap_none d v z, rw (← w.next, ← w.other) at q, cap-le (f.from (f.entry v)), cap-le (after f K v)))
    capped-none r v z (end k w) (out a b e) = absurd (b w)
    capped-none r v z (end k w) (next_waits n q) = absurd (n w)
    capped-none r v z (end k w) (other_waits n q) = absurd (n w)
    capped-none r v z (end k w) (fork_over n q) = absurd (omega (arith, w, n))
    capped-none r v z (end k w) (call_over n q) = absurd (omega (arith, w, n))

    capped : Capped f K c 65536 (cap_at d) (cap_at d)
    capped = record { value = λ r v l i. go r v l i (ℕ_discrete (get_or d v 0) 0) }
      where
        go : (r : Routine) (v : ℕ) → Live f K r → In f K r v → Dec (get_or d v 0 ≡ 0) → CappedValue f K c 65536 (cap_at d) (cap_at d) r v
        go r v l i (yes z) = capped-none r v z (ways r v l i) (idle r v l i)
        go r v l i (no h) = capped-has r v h (right r v l i (omega (arith, h)))

    -- 25: the start has no sum, though every way ends
    pub over : Done f K outer f.start → get_or d f.start 0 ≡ 0 → (l : List ℕ) × HandlerPath f K l × (65535 < sum c l)
    over done z = let y = costs-cap f K c 65536 (cap_at d) (cap_at d) capped done in (y.0, y.1, omega (arith, y.2, cap_none d f.start z))

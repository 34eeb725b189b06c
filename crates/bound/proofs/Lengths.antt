-- A path has no more places than it spends cycles: each place of it costs something.
use mathlib.Core.Bool.{Bool}
use mathlib.Core.List.{List}
use Prim.Native.Nat.{ℕ, ◌≤◌, ◌<◌}
use native.Mathlib.Omega.{arith}
use lib.ListN.{length}
use Rattle.graph.specs.Graph.{Reach, here, sum}
use Rattle.graph.proofs.Reach.{reach_snoc}
use Rattle.routines.specs.Calling as calling
use Rattle.routines.specs.Calling.{Flow, Routine, start_in, within, Live, handler, call, Path, HandlerPath}
use Rattle.routines.specs.Shape.{Small}
use Rattle.routines.proofs.Within.{edge_on, edge-call}
use Rattle.routines.proofs.Done.{Nested, none, inner, in-lt}

module _ (f : Flow) (K : ℕ → Bool) {n E : ℕ} (small : Small f n E) (cycles : ℕ → ℕ) (pays : (v : ℕ) → v < n → 1 ≤ f.kind v → f.kind v ≤ 4 → 0 < cycles v) where
  long-from : {r : Routine} {ks : List ℕ} {v : ℕ} {l : List ℕ} → Nested f K r ks → Live f K r → Reach (within f K r) (start_in f r) v → Path f K ks v l → length l ≤ sum cycles l
  unfolding sum
  long-from {r} m live i (calling.Path.rti {v} k) = omega (arith, pays v (in-lt f K small live i) (omega (arith, k)) (omega (arith, k)))
  long-from {r} m live i (calling.Path.goes {v} k e p) =
      omega (arith, pays v (in-lt f K small live i) (omega (arith, k)) (omega (arith, k)), long-from {r = r} m live (reach_snoc i (edge_on f K r k e)) p)
  long-from {r} m live i (calling.Path.calls {v} k p) =
      omega (arith, pays v (in-lt f K small live i) (omega (arith, k)) (omega (arith, k)), long-from {r = calling.called (f.entry v)} (inner m live i k) (call live i k) here p)
  long-from (inner {r = r} m live' j c) live i (calling.Path.ret {v} k p) =
      omega (arith, pays v (in-lt f K small live i) (omega (arith, k)) (omega (arith, k)), long-from {r = r} m live' (reach_snoc j (edge-call f K r c)) p)

  pub path-length : {l : List ℕ} → HandlerPath f K l → length l ≤ sum cycles l
  path-length p = long-from none handler here p

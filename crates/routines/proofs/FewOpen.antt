-- The depth is at most the number of entries.
use mathlib.Core.Bool.{Bool}
use mathlib.Core.List.{List}
use Prim.Native.Nat.{ℕ, suc, ◌≤◌}
use native.Mathlib.Omega.{arith}
use lib.ListN.{length}
use Rattle.graph.specs.Graph.{Reach, here}
use Rattle.graph.proofs.Reach.{reach_snoc}
use Rattle.routines.specs.Calling as calling
use Rattle.routines.specs.Calling.{Flow, Routine, called, start_in, after, within, Live, handler, call, Recurs, Path, HandlerPath, deepest, depth}
use Rattle.routines.specs.Shape.{Small, Widens}
use Rattle.routines.proofs.Within.{edge_on, edge-call}
use Rattle.routines.proofs.Done.{Nested, none, inner}
use Rattle.routines.proofs.Few.{open_few}
use Rattle.routines.proofs.Deepest.{deep_on, deep_call, deep_ret, deep_rti}

module _ (f : Flow) (K : ℕ → Bool) {n E : ℕ} (small : Small f n E) (widens : Widens f) (no_recursion : (e : ℕ) → Recurs f e → ⊥) where
  few-from : {r : Routine} {ks : List ℕ} {v : ℕ} {l : List ℕ} → Nested f K r ks → Live f K r → Reach (within f K r) (start_in f r) v → Path f K ks v l → deepest f.kind (length ks) l ≤ E
  few-from none live i (calling.Path.rti {v} k) = omega (arith, deep_rti f 0 v k)
  few-from {r} m live i (calling.Path.goes {v} {w} {ks} {l} k e p) =
      omega (arith, deep_on f (length ks) v l k, few-from m live (reach_snoc i (edge_on f K r k e)) p, open_few small widens no_recursion m live)
  few-from {r} m live i (calling.Path.calls {v} {ks} {l} k p) =
      let h : deepest f.kind (suc (length ks)) l ≤ E = few-from {r = called (f.entry v)} (inner m live i k) (call live i k) here p in
      omega (arith, deep_call f (length ks) v l k, h, open_few small widens no_recursion m live)
  few-from (inner {r = r} {ks = ks} m live' j c) live i (calling.Path.ret {v} {l = l} k p) =
      omega (arith, deep_ret f (length ks) v l k, few-from m live' (reach_snoc j (edge-call f K r c)) p, open_few small widens no_recursion (inner m live' j c) live)

  pub depth-few : {l : List ℕ} → HandlerPath f K l → depth f l ≤ E
  depth-few p = few-from none handler here p

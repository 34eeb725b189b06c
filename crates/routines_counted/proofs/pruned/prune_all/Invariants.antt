-- `routines_counted::pruned::prune_all` meets its contract.
use mathlib.Core.Path.{◌≡◌}
use Prim.Native.Nat.{◌≤◌}
use lib.ListN.{length}
use Rattle.routines_counted.specs.Nodes.{PrunedIs, LaidAll}
use Rattle.routines_counted.proofs.pruned.prune_all.Given as goal

abbrev pub invariant-loop-v : goal.invariant-loop-v
invariant-loop-v l = (l.v ≤ length l.marks) × (length l.pruned ≡ length l.initial.pruned) × LaidAll (PrunedIs l.words l.counts l.masks l.bases l.lives) l.counts l.masks l.bases l.marks l.v l.pruned

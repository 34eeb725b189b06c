-- `routines_counted::pruned::prune_place` meets its contract.
use mathlib.Core.Path.{◌≡◌}
use Prim.Native.Nat.{◌≤◌}
use lib.ListN.{get_or}
use Rattle.counts.specs.Radix as radix
use Rattle.routines_counted.specs.Counting.{counts_of}
use Rattle.routines_counted.specs.Nodes.{PrunedIs, LaysTo}
use Rattle.routines_counted.proofs.pruned.prune_place.Given as goal

abbrev pub invariant-loop-d : goal.invariant-loop-d
invariant-loop-d l = (l.d ≤ l.size) × (l.size ≡ radix.size (counts_of l.counts) (get_or l.masks l.v 0)) × LaysTo (PrunedIs l.words l.counts l.masks l.bases l.lives l.v) (get_or l.bases l.v 0) l.d l.initial.pruned l.pruned

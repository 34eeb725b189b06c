-- `routines_counted::bases::lay_bases` meets its contract.
use mathlib.Core.Path.{◌≡◌}
use Prim.Native.Nat.{◌≤◌}
use lib.ListN.{length}
use Rattle.routines_counted.specs.Counting.{counts_of}
use Rattle.routines_counted.specs.Bases.{nodes_before, BasesTo}
use Rattle.routines_counted.proofs.bases.lay_bases.Given as goal

abbrev pub invariant-loop-v : goal.invariant-loop-v
invariant-loop-v l = (l.v ≤ length l.marks) × (length l.bases ≡ length l.initial.bases) × (l.total ≤ 32768) × (l.total ≡ nodes_before (counts_of l.counts) l.masks l.marks l.v) × BasesTo (counts_of l.counts) l.masks l.marks l.v l.bases

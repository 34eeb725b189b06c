-- `routines_counted::nodes::link_all` meets its contract.
use mathlib.Core.Path.{◌≡◌}
use Prim.Native.Nat.{◌≤◌}
use lib.ListN.{length}
use Rattle.routines_counted.specs.Nodes.{LinkedIs, LaidAll}
use Rattle.routines_counted.proofs.nodes.link_all.Given as goal

abbrev pub invariant-loop-v : goal.invariant-loop-v
invariant-loop-v l = (l.v ≤ length l.marks) × (length l.linked ≡ length l.initial.linked) × LaidAll (LinkedIs l.words l.counts l.masks l.bases) l.counts l.masks l.bases l.marks l.v l.linked

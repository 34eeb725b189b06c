-- What is marked loses SF, and what waits has room.
use mathlib.Core.Path.{◌≡◌}
use Prim.Native.Nat.{◌≤◌}
use lib.ListN.{length}
use Rattle.routines_known.specs.Marking.{flow_on, AllLose}
use Rattle.routines_known.proofs.spread.Given as goal

abbrev pub invariant-loop : goal.invariant-loop
invariant-loop l = (length l.marks ≡ length l.initial.marks) × (length l.stack ≡ length l.initial.stack) × AllLose (flow_on l.words) l.marks × (l.spot.top ≤ length l.stack)

-- What is marked loses SF, and what waits has room.
use mathlib.Core.Path.{◌≡◌}
use Prim.Native.Nat.{◌≤◌}
use lib.ListN.{length}
use Rattle.routines_known.specs.Marking.{flow_on, AllLose}
use Rattle.routines_known.proofs.begin.Given as goal

abbrev pub invariant-loop-v : goal.invariant-loop-v
invariant-loop-v l = (length l.marks ≡ length l.initial.marks) × (length l.first ≡ length l.initial.first) × (length l.link ≡ length l.initial.link) × (length l.stack ≡ length l.initial.stack) × AllLose (flow_on l.words) l.marks × (l.top ≤ length l.stack)

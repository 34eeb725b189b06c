-- What is marked loses SF; a sweep that marks nothing leaves all idle, and any other marks more.
use mathlib.Core.Path.{◌≡◌}
use mathlib.Core.Bool.{Bool, true, false}
use Prim.Native.Nat.{ℕ, ◌+◌}
use lib.ListN.{length}
use Rattle.graph_search.specs.Marks.{zeros}
use Rattle.routines_known.specs.Marking.{flow_on, AllLose, IdleTo}
use Rattle.routines_known.proofs.mark_losing.Given as goal

abbrev bit : Bool → ℕ
bit true = 1
bit false = 0

abbrev pub invariant-loop-changed : goal.invariant-loop-changed
invariant-loop-changed l = (length l.marks ≡ length l.initial.marks) × AllLose (flow_on l.words) l.marks × (l.changed ≡ false → IdleTo (flow_on l.words) l.marks (length l.marks))

abbrev pub decreases-loop-changed : goal.decreases-loop-changed
decreases-loop-changed l = zeros l.marks + bit l.changed

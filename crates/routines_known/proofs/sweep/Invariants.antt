-- The numbers that are passed are settled.
use mathlib.Core.Path.{◌≡◌}
use lib.ListN.{length}
use Rattle.routines_known.specs.Marking.{flow_on, Swept}
use Rattle.routines_known.proofs.sweep.Given as goal

abbrev pub invariant-loop-v : goal.invariant-loop-v
invariant-loop-v l = (length l.marks ≡ length l.initial.marks) × Swept (flow_on l.words) l.initial.marks l.v l.marks l.changed

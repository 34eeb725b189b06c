-- What is passed is marked in all.
use mathlib.Core.Path.{◌≡◌}
use lib.ListN.{length}
use Rattle.routines_counted.specs.Overs.{JoinedTo}
use Rattle.routines_counted.proofs.reached.join.Given as goal

abbrev pub invariant-loop-v : goal.invariant-loop-v
invariant-loop-v l = (length l.all ≡ length l.initial.all) × JoinedTo l.found l.initial.all l.v l.all

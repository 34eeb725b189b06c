-- The words that are passed are chosen.
use Rattle.routines_known.specs.Choosing.{ChosenTo}
use Rattle.routines_known.proofs.choose.Given as goal

abbrev pub invariant-loop-v : goal.invariant-loop-v
invariant-loop-v l = ChosenTo l.initial.words l.marks l.v l.words

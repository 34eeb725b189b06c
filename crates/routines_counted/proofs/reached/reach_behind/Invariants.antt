-- What is reached from the places that are passed is marked.
use mathlib.Core.Path.{◌≡◌}
use lib.ListN.{length}
use Rattle.routines_counted.specs.Overs.{steps_in, Starts, BehindTo}
use Rattle.routines_counted.proofs.reached.reach_behind.Given as goal

abbrev pub invariant-loop-s : goal.invariant-loop-s
invariant-loop-s l = (length l.found ≡ length l.initial.found) × (length l.queue ≡ length l.initial.queue) × (length l.behind ≡ length l.initial.behind) × BehindTo (steps_in l.steps.words.now) (Starts l.steps.words.now l.reached l.at) l.s l.behind

-- No rank rises from the part of the queue that is passed.
use Rattle.routines_joined.specs.Ranks.{NeverRises}
use Rattle.routines_joined.specs.Words.{joined_at}
use Rattle.routines_joined.proofs.joined.Joined.never_rises.Given as goal

abbrev pub invariant-loop-x : goal.invariant-loop-x
invariant-loop-x l = NeverRises (joined_at l.self.words.now l.self.map.now) l.rank l.queue l.x-index

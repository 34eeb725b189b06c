-- The lowest key of the part of the queue that is passed.
use Rattle.graph.specs.Graph.{Excluded}
use Rattle.routines_joined.specs.Words.{joined_at, LowestKey}
use Rattle.routines_joined.proofs.joined.Joined.lowest_excluded.Given as goal

abbrev pub invariant-loop-x : goal.invariant-loop-x
invariant-loop-x l = LowestKey l.self.words.now (Excluded (joined_at l.self.words.now l.self.map.now)) l.queue l.x-index l.low

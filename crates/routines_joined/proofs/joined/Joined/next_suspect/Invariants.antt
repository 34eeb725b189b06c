-- The lowest suspect of the part of the queue that is passed.
use Rattle.graph.specs.Graph.{ReachPlus}
use Rattle.routines_joined.specs.Words.{joined_at}
use Rattle.routines_joined.specs.Suspects.{Suspect}
use Rattle.routines_joined.proofs.joined.Joined.next_suspect.Given as goal

abbrev pub invariant-loop-x : goal.invariant-loop-x
invariant-loop-x l = Suspect l.self.words.now (λ y. ReachPlus (joined_at l.self.words.now l.self.map.now) y y) l.queue l.x-index l.floor l.best

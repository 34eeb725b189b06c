-- Those of the queue that come back to themselves have their keys from floor on.
use Rattle.std.proofs.Common.{◌≡◌, ℕ, ◌-◌, ◌<◌, ◌≤◌, length, get_or}
use Rattle.graph.specs.Graph.{ReachPlus}
use Rattle.routines_joined.specs.Words.{joined_at, key_at}
use Rattle.routines_joined.proofs.joined.Joined.lowest_loop.Given as goal

abbrev pub invariant-loop-x : goal.invariant-loop-x
invariant-loop-x l = ((i : ℕ) → i < length l.queue → ReachPlus (joined_at l.self.words.now l.self.map.now) (get_or l.queue i 0) (get_or l.queue i 0) → l.floor ≤ key_at l.self.words.now (get_or l.queue i 0)) × (length l.marks ≡ length l.rank) × (length l.line ≡ length l.rank)

abbrev pub decreases-loop-x : goal.decreases-loop-x
decreases-loop-x l = 34816 - l.floor

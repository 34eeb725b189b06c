-- `graph_search::reach` meets its contract: what stands before the head of the queue has its successors marked; the head comes to the end, since no more can be queued than there are places.
use Rattle.std.proofs.Common.{◌≡◌, ◌-◌, length}
use Rattle.graph_search.specs.Marks.{Room}
use Rattle.graph_search.specs.Search.{Search}
use Rattle.graph_search.proofs.reach.Given as goal

abbrev pub invariant-loop-head : goal.invariant-loop-head
invariant-loop-head g l = (length l.marks ≡ length l.initial.marks) × (length l.queue ≡ length l.initial.queue) × Room l.marks l.queue l.count × Search (g.G.Successors.graph l.graph) l.s l.marks l.queue l.count l.head

abbrev pub decreases-loop-head : goal.decreases-loop-head
decreases-loop-head g l = length l.marks - l.head

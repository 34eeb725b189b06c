-- `graph_search::visit` meets its contract: the successors are marked, next before other.
use Rattle.graph_search.proofs.Search.{visited-both}
use Rattle.graph_search.proofs.visit.Goals as goal

pub returns : goal.returns
returns g c = visited-both c.in-Some.ensures.on (rw c.in-Some.ensures.next at c.mark-more.ensures) (rw c.in-Some.ensures.other at c.mark.ensures)

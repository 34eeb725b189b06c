-- `graph_search::lowest` meets its contract: the lowest of the part of the queue that is passed.
use Rattle.graph_search.proofs.LowestOf.{lowest-more}
use Rattle.graph_search.proofs.lowest.Goals as goal

pub loop-v-preserved : goal.loop-v-preserved
loop-v-preserved c = lowest-more c.loop-v.invariant c.lower-low.ensures

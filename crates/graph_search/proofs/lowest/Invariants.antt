-- `graph_search::lowest` meets its contract: the lowest of the part of the queue that is passed.
use Rattle.graph_search.specs.Lowest.{Outside, Lowest}
use Rattle.graph_search.proofs.lowest.Given as goal

abbrev pub invariant-loop-v : goal.invariant-loop-v
invariant-loop-v l = Lowest (Outside l.kind) l.queue l.v-index l.low

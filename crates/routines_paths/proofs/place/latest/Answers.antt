-- `routines_paths::place::latest` meets its contract.
use Rattle.graph_search.proofs.Zeros.{wide16}
use Rattle.routines_paths.proofs.place.latest.Goals as goal

pub overflow_cast-result : goal.overflow_cast-result
overflow_cast-result c = wide16 (c.type_inv.stack _)

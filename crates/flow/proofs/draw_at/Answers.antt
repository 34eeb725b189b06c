-- `flow::draw_at` meets its contract.
use mathlib.Core.Path.{refl}
use Rattle.std.proofs.Common.{rules}
use Rattle.graph_search.proofs.Zeros.{blank_zeros}
use Rattle.flow.proofs.draw_at.Goals as goal

pub explore-requires : goal.explore-requires
explore-requires c = (search rules, search rules, blank_zeros 16384, refl, blank_zeros 16384, refl)

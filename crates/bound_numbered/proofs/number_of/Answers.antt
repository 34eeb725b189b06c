-- `bound_numbered::number_of` meets its contract.
use native.Mathlib.Omega.{arith}
use Rattle.graph_search.proofs.Zeros.{wide16}
use Rattle.routines_numbered.specs.Packed.{map_in}
use Rattle.bound_numbered.proofs.number_of.Goals as goal

pub overflow_cast-result : goal.overflow_cast-result
overflow_cast-result c = wide16 (c.type_inv.map _)

pub overflow_sub-result : goal.overflow_sub-result
unfolding map_in
overflow_sub-result c = omega (arith, c.requires.1)

pub returns : goal.returns
unfolding map_in
returns c = omega (arith, c.requires.1)

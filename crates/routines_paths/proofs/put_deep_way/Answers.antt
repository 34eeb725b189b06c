-- `routines_paths::put_deep_way` meets its contract.
use native.Mathlib.Omega.{arith}
use Rattle.graph_search.proofs.Zeros.{blank_zeros, wide16}
use Rattle.routines_paths.proofs.deepest.Moves.{working_start}
use Rattle.routines_paths.proofs.put_deep_way.Goals as goal

pub overflow_cast-goal : goal.overflow_cast-goal
overflow_cast-goal c = wide16 (c.type_inv.dep _)

pub write_deepest-requires : goal.write_deepest-requires
write_deepest-requires c =
    let pre = c.requires in
    (pre.0, pre.1, working_start (omega arith) (omega arith) pre.1 pre.0.few (blank_zeros 32768) (blank_zeros 32769), pre.2)

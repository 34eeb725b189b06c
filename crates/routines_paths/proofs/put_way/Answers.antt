-- `routines_paths::put_way` meets its contract.
use native.Mathlib.Omega.{arith}
use Rattle.graph_search.proofs.Zeros.{blank_zeros, marked_lt, within_blank}
use Rattle.routines_paths.proofs.put_way.Goals as goal

pub write_path-requires : goal.write_path-requires
write_path-requires c =
    let pre = c.requires in
    (pre.0, pre.1, pre.2, within_blank (omega (arith, marked_lt c.args.d.now 0 pre.2)) (blank_zeros 32768), pre.3)

-- `routines_paths::way_len` meets its contract.
use native.Mathlib.Omega.{arith}
use Rattle.graph_search.proofs.Zeros.{blank_zeros, marked_lt, within_blank}
use Rattle.routines_paths.proofs.way_len.Goals as goal

pub path_len-requires : goal.path_len-requires
path_len-requires c =
    let pre = c.requires in
    (pre.0, pre.1, pre.2, within_blank (omega (arith, marked_lt c.args.d.now 0 pre.2)) (blank_zeros 32768), omega (arith, pre.3))

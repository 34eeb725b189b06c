-- `routines_sums::sums` meets its contract.
use native.Mathlib.Omega.{arith}
use Rattle.graph_search.proofs.Zeros.{within_blank}
use Rattle.routines_sums.proofs.Settling.{dist_blank}
use Rattle.routines_sums.proofs.sums.Goals as goal

pub walk-requires : goal.walk-requires
walk-requires c =
    let pre = c.requires in
    (pre.0, dist_blank pre.2 pre.3, pre.4, pre.1, pre.5, pre.6, within_blank (omega (arith, pre.1)) pre.7)

-- `routines_paths::deepest::enter` meets its contract.
use mathlib.Core.Path.{refl}
use native.Mathlib.Omega.{arith}
use Rattle.std.proofs.Common.{rules, get_or}
use mir.Val.{Fits}
use mir.Syntax.{w32}
use Rattle.graph_search.proofs.Zeros.{wide16}
use Rattle.routines_paths.proofs.Open.{open_push}
use Rattle.routines_paths.proofs.deepest.Moves.{working_push, wide32, sum_fits, most_fits}
use Rattle.routines_paths.proofs.deepest.enter.Goals as goal

pub overflow_cast-dep : goal.overflow_cast-dep
overflow_cast-dep c = wide16 (c.type_inv.dep _)

pub overflow_add-top : goal.overflow_add-top
overflow_add-top c =
    let pre = c.requires in
    sum_fits _ _ (omega (arith, pre.1, pre.0.small)) (c.type_inv.dep c.args.way.second)

pub overflow_cast-pend : goal.overflow_cast-pend
overflow_cast-pend c = wide32 (c.type_inv.pend _)

pub overflow_cast-pend-2 : goal.overflow_cast-pend-2
overflow_cast-pend-2 c =
    let pre = c.requires in
    let args = c.args in
    let pended : Fits w32 (get_or args.pend.now args.here.top 0) = search rules in
    most_fits _ _ _ _ (omega (arith, pre.1, pre.0.small)) (c.type_inv.dep args.way.second) pended c.max-most.ensures

pub returns : goal.returns
returns c =
    let pre = c.requires in
    (refl, c.max.ensures, open_push _ _ _ pre.1, working_push _ pre.0 pre.1 pre.2 c.max-most.ensures)

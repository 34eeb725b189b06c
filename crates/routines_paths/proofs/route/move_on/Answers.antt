-- `routines_paths::route::move_on` meets its contract.
use native.Mathlib.Omega.{arith}
use Rattle.graph_search.proofs.Zeros.{within_set}
use Rattle.routines_sums.proofs.Settling.{way-lt}
use Rattle.routines_paths.proofs.Open.{third, fits16}
use Rattle.routines_paths.proofs.route.Moves.{moved_on, moved_in, moved_back}
use Rattle.routines_paths.proofs.route.move_on.Goals as goal

pub greater-requires : goal.greater-requires
greater-requires c =
    let pre = c.requires in
    way-lt pre.0 _ pre.1 c.way_of-way.ensures

pub returns-then-way-eq1 : goal.returns-then-way-eq1
returns-then-way-eq1 c = (moved_on _ c.way_of-way.ensures _ c.if-way-eq1.true c.greater.ensures, c.requires.3)

pub overflow_cast-stack : goal.overflow_cast-stack
overflow_cast-stack c =
    let pre = c.requires in
    let way = c.way_of-way.ensures in
    let lt = way-lt pre.0 _ pre.1 way in
    fits16 lt.1 pre.0.few

pub returns-then-way-eq3 : goal.returns-then-way-eq3
returns-then-way-eq3 c =
    let pre = c.requires in
    let way = c.way_of-way.ensures in
    let lt = way-lt pre.0 _ pre.1 way in
    (moved_in _ way _ _ c.if-way-eq3.true pre.2, within_set _ _ pre.2 lt.1 pre.3)

pub latest-requires : goal.latest-requires
latest-requires c =
    let pre = c.requires in
    let end = third pre.4 c.way_of-way.ensures.kind c.if-way-eq1.false c.if-way-eq3.false in
    (end.1, pre.2)

pub overflow_sub-result : goal.overflow_sub-result
overflow_sub-result c =
    let pre = c.requires in
    let end = third pre.4 c.way_of-way.ensures.kind c.if-way-eq1.false c.if-way-eq3.false in
    omega (arith, end.1)

pub returns : goal.returns
returns c =
    let pre = c.requires in
    let end = third pre.4 c.way_of-way.ensures.kind c.if-way-eq1.false c.if-way-eq3.false in
    (rw c.latest.ensures (moved_back _ _ end.0 end.1), pre.3)

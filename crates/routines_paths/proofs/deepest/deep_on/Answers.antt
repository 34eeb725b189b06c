-- `routines_paths::deepest::deep_on` meets its contract.
use mathlib.Core.Path.{refl}
use native.Mathlib.Omega.{arith}
use Rattle.routines_sums.proofs.Settling.{way-lt}
use Rattle.routines_paths.proofs.Open.{third}
use Rattle.routines_paths.proofs.deepest.Moves.{turned, turned_lt, entered, moved_back, working_pop}
use Rattle.routines_paths.proofs.deepest.deep_on.Goals as goal

pub turn-requires : goal.turn-requires
turn-requires c =
    let pre = c.requires in
    let way = c.way_of-way.ensures in
    let lt = way-lt pre.0 _ pre.1 way in
    (omega (arith, pre.2, pre.3.beside), omega (arith, pre.2, pre.3.small), lt.0)

pub returns-then-way-eq1 : goal.returns-then-way-eq1
returns-then-way-eq1 c =
    let pre = c.requires in
    let way = c.way_of-way.ensures in
    let lt = way-lt pre.0 _ pre.1 way in
    (turned way pre.3.pended c.if-way-eq1.true refl c.turn.ensures, pre.3, turned_lt lt.0 lt.1 c.turn.ensures)

pub enter-requires : goal.enter-requires
enter-requires c =
    let pre = c.requires in
    let way = c.way_of-way.ensures in
    let lt = way-lt pre.0 _ pre.1 way in
    (pre.3, pre.2, lt.1)

pub returns-then-way-eq3 : goal.returns-then-way-eq3
returns-then-way-eq3 c =
    let pre = c.requires in
    let way = c.way_of-way.ensures in
    let lt = way-lt pre.0 _ pre.1 way in
    let e = c.enter.ensures in
    (entered way _ _ c.if-way-eq3.true e.0 e.1 e.2, e.3, rw e.0 lt.0)

pub latest-requires : goal.latest-requires
latest-requires c =
    let pre = c.requires in
    let end = third pre.4 c.way_of-way.ensures.kind c.if-way-eq1.false c.if-way-eq3.false in
    (end.1, pre.2)

pub overflow_sub-result : goal.overflow_sub-result
overflow_sub-result c =
    let pre = c.requires in
    let end = third pre.4 c.way_of-way.ensures.kind c.if-way-eq1.false c.if-way-eq3.false in
    omega (arith, end.1)

pub returns : goal.returns
returns c =
    let pre = c.requires in
    let end = third pre.4 c.way_of-way.ensures.kind c.if-way-eq1.false c.if-way-eq3.false in
    let e = c.latest.ensures in
    (rw e (moved_back _ end.0 end.1), working_pop (omega arith) pre.3, rw e (pre.3.stacked.at _))

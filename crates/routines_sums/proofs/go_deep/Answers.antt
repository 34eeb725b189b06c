-- `routines_sums::go_deep` meets its contract.
use native.Mathlib.Omega.{arith}
use lib.ListN.{length-set}
use Rattle.graph_search.proofs.Zeros.{within_set}
use Rattle.routines_sums.proofs.Settling.{either_lt, way-lt}
use Rattle.routines_sums.proofs.go_deep.Goals as goal

pub bounds-stage-w : goal.bounds-stage-w
bounds-stage-w c =
    let l = way-lt c.requires.0 _ c.requires.3 c.way_of-way.ensures in
    let h = either_lt l.0 l.1 c.followed-w.ensures in
    simp length-set (omega (arith, c.requires.4, h))

pub offset_bounds-d-w : goal.offset_bounds-d-w
offset_bounds-d-w c =
    let l = way-lt c.requires.0 _ c.requires.3 c.way_of-way.ensures in
    let h = either_lt l.0 l.1 c.followed-w.ensures in
    omega (arith, c.requires.0.few, h)

pub bounds-d-w : goal.bounds-d-w
bounds-d-w c =
    let l = way-lt c.requires.0 _ c.requires.3 c.way_of-way.ensures in
    let h = either_lt l.0 l.1 c.followed-w.ensures in
    h

pub offset_bounds-back-w : goal.offset_bounds-back-w
offset_bounds-back-w c =
    let l = way-lt c.requires.0 _ c.requires.3 c.way_of-way.ensures in
    let h = either_lt l.0 l.1 c.followed-w.ensures in
    omega (arith, c.requires.0.few, h)

pub bounds-back-w : goal.bounds-back-w
bounds-back-w c =
    let l = way-lt c.requires.0 _ c.requires.3 c.way_of-way.ensures in
    let h = either_lt l.0 l.1 c.followed-w.ensures in
    omega (arith, c.requires.5, h)

pub returns : goal.returns
returns c =
    let l = way-lt c.requires.0 _ c.requires.3 c.way_of-way.ensures in
    let h = either_lt l.0 l.1 c.followed-w.ensures in
    (c.requires.1, h, within_set _ _ (omega (arith, c.requires.5, h)) c.requires.3 c.requires.6)

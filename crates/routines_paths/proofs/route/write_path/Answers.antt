-- `routines_paths::route::write_path` meets its contract: the bytes of the places that are passed stand in the buffer, and what is left to spend falls.
use mathlib.Core.Path.{refl, ◌∙◌}
use native.Mathlib.Omega.{arith}
use Rattle.routines_paths.specs.Open.{open_of}
use Rattle.routines_paths.proofs.Open.{open_length, none_open}
use Rattle.routines_paths.proofs.route.Moves.{may_move}
use Rattle.routines_paths.proofs.route.Ways.{moved, writing_start, writing-room, writing-stack, writing-lt, writing_more, writing_end}
use Rattle.routines_paths.proofs.route.write_path.Goals as goal

pub loop-path-init : goal.loop-path-init
loop-path-init c =
    let pre = c.requires in
    (refl, refl, pre.3, unfold open_of in writing_start _ pre.2 pre.4)

pub more-requires : goal.more-requires
more-requires c =
    let pre = c.requires in
    let inv = c.loop-path.invariant in
    omega (arith, pre.0.words, pre.0.few, writing-lt inv.3)

pub put-requires : goal.put-requires
put-requires c =
    let pre = c.requires in
    let inv = c.loop-path.invariant in
    (omega (arith, pre.0.words, pre.0.few, writing-lt inv.3), omega (arith, inv.0, writing-room inv.3))

pub move_on-here-requires : goal.move_on-here-requires
move_on-here-requires c =
    let pre = c.requires in
    let the-loop = c.loop-path in
    let inv = the-loop.invariant in
    (pre.0, writing-lt inv.3, omega (arith, inv.1, writing-stack inv.3, open_length the-loop.stack the-loop.here.top), inv.2, may_move pre.1 inv.3.has (c.more.ensures.goes_on c.loop-path-test.true))

pub overflow_add-at : goal.overflow_add-at
overflow_add-at c =
    let inv = c.loop-path.invariant in
    omega (arith, writing-room inv.3, c.well_formed.1.1.1.0.0)

pub loop-path-smaller : goal.loop-path-smaller
loop-path-smaller c =
    let pre = c.requires in
    let inv = c.loop-path.invariant in
    (moved pre.1 inv.3.has inv.3.positive c.move_on-here.ensures.0).less

pub loop-path-preserved : goal.loop-path-preserved
loop-path-preserved c =
    let pre = c.requires in
    let inv = c.loop-path.invariant in
    let m = c.move_on-here in
    let put = c.put in
    (put.auto.path ∙ inv.0, m.auto.stack ∙ inv.1, m.ensures.1, writing_more inv.3 pre.1 m.ensures.0 put.ensures)

pub put-requires-2 : goal.put-requires-2
put-requires-2 c =
    let pre = c.requires in
    let inv = c.loop-path.invariant in
    (omega (arith, pre.0.words, pre.0.few, writing-lt inv.3), omega (arith, inv.0, writing-room inv.3))

pub shape_of-stack : goal.shape_of-stack
shape_of-stack c = c.loop-path.invariant.1

pub shape_of-path : goal.shape_of-path
shape_of-path c = c.put-2.auto.path ∙ c.loop-path.invariant.0

pub returns : goal.returns
returns c =
    let over = c.more.ensures.over c.loop-path-test.false in
    writing_end c.loop-path.invariant.3 (none_open _ over.1) over.0 c.put-2.ensures

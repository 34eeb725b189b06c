-- `routines_paths::route::path_len` meets its contract: the places that are passed and the way from the present one make up the way; what is left to spend falls, so that it ends.
use mathlib.Core.Path.{refl, ◌∙◌}
use native.Mathlib.Omega.{arith}
use Rattle.routines_paths.specs.Open.{open_of}
use Rattle.routines_paths.proofs.Open.{open_length, none_open}
use Rattle.routines_paths.proofs.route.Moves.{may_move}
use Rattle.routines_paths.proofs.route.Ways.{moved}
use Rattle.routines_paths.proofs.route.Some.{along_start, along_more, along_end, along_stack, along_few, along_lt}
use Rattle.routines_paths.proofs.route.path_len.Goals as goal

pub loop-here-init : goal.loop-here-init
loop-here-init c =
    let pre = c.requires in
    (refl, pre.3, unfold open_of in along_start _ pre.1 pre.2)

pub more-requires : goal.more-requires
more-requires c =
    let pre = c.requires in
    let inv = c.loop-here.invariant in
    omega (arith, pre.0.words, pre.0.few, along_lt inv.2)

pub move_on-here-requires : goal.move_on-here-requires
move_on-here-requires c =
    let pre = c.requires in
    let the-loop = c.loop-here in
    let inv = the-loop.invariant in
    (pre.0, along_lt inv.2, omega (arith, inv.0, along_stack _ inv.2 pre.4, open_length the-loop.stack the-loop.here.top), inv.1, may_move pre.1 inv.2.has (c.more.ensures.goes_on c.loop-here-test.true))

pub overflow_add-n : goal.overflow_add-n
overflow_add-n c =
    let inv = c.loop-here.invariant in
    omega (arith, along_few inv.2, c.type_inv.d 0)

pub loop-here-smaller : goal.loop-here-smaller
loop-here-smaller c =
    let pre = c.requires in
    let inv = c.loop-here.invariant in
    (moved pre.1 inv.2.has inv.2.positive c.move_on-here.ensures.0).less

pub loop-here-preserved : goal.loop-here-preserved
loop-here-preserved c =
    let pre = c.requires in
    let inv = c.loop-here.invariant in
    let m = c.move_on-here in
    (m.auto.stack ∙ inv.0, m.ensures.1, along_more pre.1 inv.2 m.ensures.0)

pub shape_of-stack : goal.shape_of-stack
shape_of-stack c = c.loop-here.invariant.0

pub returns : goal.returns
returns c =
    let over = c.more.ensures.over c.loop-here-test.false in
    along_end c.loop-here.invariant.2 (none_open _ over.1) over.0

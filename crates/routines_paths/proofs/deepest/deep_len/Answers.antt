-- `routines_paths::deepest::deep_len` meets its contract: the places that are passed and the way from the present one make up the way.
use mathlib.Core.Path.{refl, ◌∙◌}
use native.Mathlib.Omega.{arith}
use Rattle.routines_paths.specs.Open.{open_of}
use Rattle.routines_paths.proofs.Open.{open_length, none_open}
use Rattle.routines_paths.proofs.deepest.Ways.{route_goes}
use Rattle.routines_paths.proofs.deepest.Along.{along_start, along_few, along_stack, along_more, along_end}
use Rattle.routines_paths.proofs.deepest.deep_len.Goals as goal

pub loop-here-init : goal.loop-here-init
loop-here-init c =
    let pre = c.requires in
    (refl, refl, pre.2, pre.1, unfold open_of in along_start pre.3)

pub more-requires : goal.more-requires
more-requires c =
    let pre = c.requires in
    let inv = c.loop-here.invariant in
    omega (arith, pre.0.words, pre.0.few, inv.3)

pub deep_on-here-requires : goal.deep_on-here-requires
deep_on-here-requires c =
    let pre = c.requires in
    let the-loop = c.loop-here in
    let inv = the-loop.invariant in
    (pre.0, inv.3, omega (arith, inv.0, along_stack inv.4, open_length the-loop.stack the-loop.here.top), inv.2, route_goes inv.4.rest_is (c.more.ensures.goes_on c.loop-here-test.true))

pub overflow_add-n : goal.overflow_add-n
overflow_add-n c =
    let pre = c.requires in
    let inv = c.loop-here.invariant in
    omega (arith, along_few inv.4, inv.4.few, pre.2.small)

pub loop-here-smaller : goal.loop-here-smaller
loop-here-smaller c =
    let inv = c.loop-here.invariant in
    omega (arith, along_few inv.4, inv.4.few)

pub loop-here-preserved : goal.loop-here-preserved
loop-here-preserved c =
    let inv = c.loop-here.invariant in
    let m = c.deep_on-here in
    (m.auto.stack ∙ inv.0, m.auto.pend ∙ inv.1, m.ensures.1, m.ensures.2, along_more inv.4 m.ensures.0)

pub overflow_add-result : goal.overflow_add-result
overflow_add-result c =
    let pre = c.requires in
    let inv = c.loop-here.invariant in
    omega (arith, along_few inv.4, inv.4.few, pre.2.small)

pub shape_of-stack : goal.shape_of-stack
shape_of-stack c = c.loop-here.invariant.0

pub shape_of-pend : goal.shape_of-pend
shape_of-pend c = c.loop-here.invariant.1

pub returns : goal.returns
returns c =
    let over = c.more.ensures.over c.loop-here-test.false in
    along_end c.loop-here.invariant.4 (none_open _ over.1) over.0

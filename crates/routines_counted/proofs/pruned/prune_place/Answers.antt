-- `routines_counted::pruned::prune_place` meets its contract.
use mathlib.Core.Path.{◌∙◌}
use native.Mathlib.Omega.{arith}
use Rattle.routines_counted.proofs.Counting.{size_exact}
use Rattle.routines_counted.proofs.Laying.{lays-none, lays_more, lays-end}
use Rattle.routines_counted.proofs.pruned.prune_place.Goals as goal

pub offset_bounds-masks-v : goal.offset_bounds-masks-v
offset_bounds-masks-v c =
    let pre = c.requires in
    let place = pre.0.places c.args.v pre.1 in
    omega (arith, place.small)

pub bounds-masks-v : goal.bounds-masks-v
bounds-masks-v c =
    let pre = c.requires in
    let place = pre.0.places c.args.v pre.1 in
    omega (arith, place.mask)

pub size_of-size-requires : goal.size_of-size-requires
size_of-size-requires c =
    let pre = c.requires in
    let place = pre.0.places c.args.v pre.1 in
    place.few

pub loop-d-init : goal.loop-d-init
loop-d-init c =
    let pre = c.requires in
    let place = pre.0.places c.args.v pre.1 in
    (omega arith, size_exact _ _ _ (omega (arith, place.room)) c.size_of-size.ensures, lays-none _ _ _)

pub node_of-node-requires : goal.node_of-node-requires
node_of-node-requires c =
    let pre = c.requires in
    let place = pre.0.places c.args.v pre.1 in
    (place.base, place.small, omega (arith, place.room, c.loop-d.invariant.1, c.loop-d-test.true))

pub pruned_word-requires : goal.pruned_word-requires
pruned_word-requires c =
    let pre = c.requires in
    (record { numbered = pre.0; place = pre.1; number = omega (arith, c.loop-d.invariant.1, c.loop-d-test.true) }, pre.2)

pub offset_bounds-pruned-node : goal.offset_bounds-pruned-node
offset_bounds-pruned-node c =
    let pre = c.requires in
    let place = pre.0.places c.args.v pre.1 in
    let the-loop = c.loop-d in
    omega (arith, c.node_of-node.ensures, place.room, the-loop.invariant.1, c.loop-d-test.true)

pub bounds-pruned-node : goal.bounds-pruned-node
bounds-pruned-node c =
    let pre = c.requires in
    let place = pre.0.places c.args.v pre.1 in
    let the-loop = c.loop-d in
    omega (arith, c.node_of-node.ensures, place.room, the-loop.invariant.1, c.loop-d-test.true, pre.3, the-loop.invariant.2.len)

pub loop-d-preserved : goal.loop-d-preserved
loop-d-preserved c =
    let pre = c.requires in
    let place = pre.0.places c.args.v pre.1 in
    let the-loop = c.loop-d in
    (omega (arith, c.loop-d-test.true), the-loop.invariant.1, lays_more _ _ _ _ _ _ _ the-loop.invariant.2 c.node_of-node.ensures (omega (arith, c.node_of-node.ensures, place.room, the-loop.invariant.1, c.loop-d-test.true, pre.3, the-loop.invariant.2.len)) c.pruned_word.ensures)

pub shape_of-pruned : goal.shape_of-pruned
shape_of-pruned c = c.loop-d.invariant.2.len

pub returns : goal.returns
returns c =
    let the-loop = c.loop-d in
    lays-end _ _ _ _ _ _ (omega (arith, c.loop-d-test.false, the-loop.invariant.0) ∙ the-loop.invariant.1) the-loop.invariant.2

-- `routines_counted::pruned::prune_all` meets its contract.
use mathlib.Core.Path.{refl, ◌∙◌}
use native.Mathlib.Omega.{arith}
use Rattle.routines_counted.proofs.Laying.{all_none, all_end}
use Rattle.routines_counted.proofs.pruned.prune_all.Goals as goal

pub loop-v-init : goal.loop-v-init
loop-v-init c = (omega arith, refl, all_none _ _ _ _ _ _)

pub prune_marked-requires : goal.prune_marked-requires
prune_marked-requires c =
    let pre = c.requires in
    let the-loop = c.loop-v in
    (pre.0, c.loop-v-test.true, pre.1, omega (arith, pre.2, the-loop.invariant.1), pre.3, the-loop.invariant.2)

pub loop-v-preserved : goal.loop-v-preserved
loop-v-preserved c =
    let the-loop = c.loop-v in
    (omega (arith, c.loop-v-test.true), c.prune_marked.auto.pruned ∙ the-loop.invariant.1, c.prune_marked.ensures)

pub shape_of-pruned : goal.shape_of-pruned
shape_of-pruned c = c.loop-v.invariant.1

pub returns : goal.returns
returns c =
    let the-loop = c.loop-v in
    all_end _ _ _ _ _ _ _ _ (omega (arith, c.loop-v-test.false, the-loop.invariant.0)) the-loop.invariant.2

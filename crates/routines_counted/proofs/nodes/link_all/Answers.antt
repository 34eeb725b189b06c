-- `routines_counted::nodes::link_all` meets its contract.
use mathlib.Core.Path.{refl, ◌∙◌}
use native.Mathlib.Omega.{arith}
use Rattle.routines_counted.proofs.Laying.{all_none, all_end}
use Rattle.routines_counted.proofs.nodes.link_all.Goals as goal

pub loop-v-init : goal.loop-v-init
loop-v-init c = (omega arith, refl, all_none _ _ _ _ _ _)

pub link_marked-requires : goal.link_marked-requires
link_marked-requires c =
    let pre = c.requires in
    let the-loop = c.loop-v in
    (pre.0, c.loop-v-test.true, omega (arith, pre.1, the-loop.invariant.1), pre.2, the-loop.invariant.2)

pub loop-v-preserved : goal.loop-v-preserved
loop-v-preserved c =
    let the-loop = c.loop-v in
    (omega (arith, c.loop-v-test.true), c.link_marked.auto.linked ∙ the-loop.invariant.1, c.link_marked.ensures)

pub shape_of-linked : goal.shape_of-linked
shape_of-linked c = c.loop-v.invariant.1

pub returns : goal.returns
returns c =
    let the-loop = c.loop-v in
    all_end _ _ _ _ _ _ _ _ (omega (arith, c.loop-v-test.false, the-loop.invariant.0)) the-loop.invariant.2

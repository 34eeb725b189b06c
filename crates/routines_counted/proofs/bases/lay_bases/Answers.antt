-- `routines_counted::bases::lay_bases` meets its contract.
use mathlib.Core.Path.{refl, ◌∙◌}
use native.Mathlib.Omega.{arith}
use lib.ListN.{length-set}
use Rattle.routines_counted.specs.Counting.{counts_of}
use Rattle.routines_counted.proofs.Basing.{start_none, bases-none, bases-more, based-over, based-all}
use Rattle.routines_counted.proofs.bases.lay_bases.Goals as goal

pub loop-v-init : goal.loop-v-init
loop-v-init c = (omega arith, refl, omega arith, start_none _ _ _, bases-none _ _ _ _)

pub base_of-requires : goal.base_of-requires
base_of-requires c =
    let the-loop = c.loop-v in
    (c.loop-v-test.true, the-loop.invariant.2)

pub offset_bounds-bases-v : goal.offset_bounds-bases-v
offset_bounds-bases-v c = omega (arith, c.loop-v-test.true, c.requires.3)

pub bounds-bases-v : goal.bounds-bases-v
bounds-bases-v c =
    let the-loop = c.loop-v in
    omega (arith, c.loop-v-test.true, c.requires.2, the-loop.invariant.1)

pub base_after-total-requires : goal.base_after-total-requires
base_after-total-requires c =
    let the-loop = c.loop-v in
    let pre = c.requires in
    (pre.0, omega (arith, c.loop-v-test.true, pre.1), c.loop-v-test.true, pre.3, the-loop.invariant.2, the-loop.invariant.3)

pub shape_of-bases-then-total-gt-MOST_TURNS : goal.shape_of-bases-then-total-gt-MOST_TURNS
shape_of-bases-then-total-gt-MOST_TURNS c =
    let the-loop = c.loop-v in
    length-set the-loop.bases the-loop.v _ ∙ the-loop.invariant.1

pub returns-then-total-gt-MOST_TURNS : goal.returns-then-total-gt-MOST_TURNS
returns-then-total-gt-MOST_TURNS c =
    let args = c.args in
    based-over (counts_of args.counts.now) args.masks.now args.marks.now _ _ _ c.loop-v-test.true c.base_after-total.ensures c.if-total-gt-MOST_TURNS.true

pub loop-v-preserved : goal.loop-v-preserved
loop-v-preserved c =
    let args = c.args in
    let the-loop = c.loop-v in
    let inv = the-loop.invariant in
    let few = c.if-total-gt-MOST_TURNS.false in
    (omega (arith, c.loop-v-test.true), length-set the-loop.bases the-loop.v _ ∙ inv.1, omega (arith, few), c.base_after-total.ensures.0 (omega (arith, few)), bases-more (counts_of args.counts.now) args.masks.now args.marks.now _ _ _ _ (omega (arith, c.loop-v-test.true, c.requires.2, inv.1)) inv.3 c.base_of.ensures inv.4)

pub shape_of-bases : goal.shape_of-bases
shape_of-bases c = c.loop-v.invariant.1

pub returns : goal.returns
returns c =
    let args = c.args in
    let the-loop = c.loop-v in
    let inv = the-loop.invariant in
    based-all (counts_of args.counts.now) args.masks.now args.marks.now _ _ _ (omega (arith, c.loop-v-test.false, inv.0)) inv.2 inv.3 inv.4

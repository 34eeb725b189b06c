-- `routines_counted::moved_to` meets its contract.
use mathlib.Core.Path.{ap, ◌∙◌}
use Prim.Native.Nat.{ℕ}
use native.Mathlib.Omega.{arith}
use lib.ListN.{get_or}
use Rattle.counts.specs.Radix.{stepped}
use Rattle.routines_counted.specs.Counting.{count_of}
use Rattle.routines_counted.proofs.Counting.{moves_none, moves_more, moves_not, moves_end, scale_le, first_le}
use Rattle.routines_counted.proofs.moved_to.Goals as goal

pub loop-count-init : goal.loop-count-init
loop-count-init c = (omega arith, moves_none _ _ _ _ _)

pub step_to-n-requires : goal.step_to-n-requires
step_to-n-requires c =
    let the-loop = c.loop-count in
    let fits = (c.type_inv.counts the-loop.count-index).fits in
    omega (arith, c.first_in.ensures, first_le (get_or c.args.counts.now the-loop.count-index 0) the-loop.m the-loop.left, fits)

pub returns-then-count-n : goal.returns-then-count-n
returns-then-count-n c =
    let the-loop = c.loop-count in
    moves_not _ _ _ _ _ _ _ _ _ _ _ _ c.loop-count-test.true the-loop.invariant.1 (c.step_to-n.ensures ∙ ap (λ (z : ℕ). stepped (count_of (get_or c.args.counts.now the-loop.count-index 0)) c.args.address z) c.first_in.ensures) c.if-count-n.true

pub with_digit-r-requires : goal.with_digit-r-requires
with_digit-r-requires c =
    let the-loop = c.loop-count in
    let pre = c.requires in
    let fits = (c.type_inv.counts the-loop.count-index).fits in
    (the-loop.invariant.1.below, scale_le _ _ _ _ _ _ _ _ _ _ _ pre.1 the-loop.invariant.1, omega (arith, c.if-count-n.false, fits))

pub loop-count-preserved : goal.loop-count-preserved
loop-count-preserved c =
    let the-loop = c.loop-count in
    let test = c.loop-count-test in
    let pre = c.requires in
    let inv = the-loop.invariant.1 in
    let few = scale_le _ _ _ _ _ _ _ _ _ _ _ pre.1 inv in
    let n = (c.step_to-n.ensures ∙ ap (λ (z : ℕ). stepped (count_of (get_or c.args.counts.now the-loop.count-index 0)) c.args.address z) c.first_in.ensures) in
    (omega (arith, test.true), moves_more _ _ _ _ _ _ _ _ _ _ _ _ _ _ _ test.true inv few n (omega (arith, c.if-count-n.false)) c.with_digit-r.ensures c.times-scale.ensures c.rest_in-left.ensures)

pub returns : goal.returns
returns c =
    let the-loop = c.loop-count in
    let pre = c.requires in
    moves_end _ _ _ _ _ _ _ _ _ _ _ (omega (arith, c.loop-count-test.false, the-loop.invariant.0)) pre.1 the-loop.invariant.1

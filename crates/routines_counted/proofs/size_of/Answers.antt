-- `routines_counted::size_of` meets its contract.
use native.Mathlib.Omega.{arith}
use Rattle.routines_counted.proofs.Counting.{sizes_none, sizes_more, sizes_end}
use Rattle.routines_counted.proofs.size_of.Goals as goal

pub loop-count-init : goal.loop-count-init
loop-count-init c = (omega arith, sizes_none _ _)

pub loop-count-preserved : goal.loop-count-preserved
loop-count-preserved c =
    let test = c.loop-count-test in
    let the-loop = c.loop-count in
    (omega (arith, test.true), sizes_more _ _ _ _ _ _ test.true the-loop.invariant.1 c.times-s.ensures)

pub returns : goal.returns
returns c =
    let the-loop = c.loop-count in
    sizes_end _ _ _ _ _ (omega (arith, c.loop-count-test.false, the-loop.invariant.0)) the-loop.invariant.1

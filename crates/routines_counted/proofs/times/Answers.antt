-- `routines_counted::times` meets its contract.
use mathlib.Core.Path.{refl}
use native.Mathlib.Omega.{arith}
use Rattle.routines_counted.proofs.Counting.{times_not, times_so, product_fits}
use borrow.Author.Rules.{rules}
use Rattle.routines_counted.proofs.times.Goals as goal

pub returns-then-mask-eq0 : goal.returns-then-mask-eq0
returns-then-mask-eq0 c = times_not _ _ _ c.if-mask-eq0.true

pub overflow_mul-result : goal.overflow_mul-result
overflow_mul-result c =
    let small = c.if-s-gt-MOST_TURNS.false in
    let args = c.args in
    omega (arith, product_fits args.s args.count (omega (arith, small)) (search rules))

pub returns : goal.returns
returns c = times_so _ _ _ _ (omega (arith, c.if-s-gt-MOST_TURNS.false)) c.if-mask-eq0.false refl

-- `routines_counted::with_digit` meets its contract.
use native.Mathlib.Omega.{arith}
use Rattle.routines_counted.proofs.Counting.{digit_none, digit_some, digit_fits}
use Rattle.routines_counted.proofs.with_digit.Goals as goal

pub returns-then-mask-eq0 : goal.returns-then-mask-eq0
returns-then-mask-eq0 c = digit_none _ _ _ _ c.if-mask-eq0.true

pub overflow_mul-result : goal.overflow_mul-result
overflow_mul-result c =
    let args = c.args in
    let pre = c.requires in
    omega (arith, digit_fits args.scale args.n pre.1 pre.2)

pub overflow_add-result : goal.overflow_add-result
overflow_add-result c =
    let args = c.args in
    let pre = c.requires in
    omega (arith, digit_fits args.scale args.n pre.1 pre.2, pre.0, pre.1)

pub returns : goal.returns
returns c = digit_some _ _ _ _ c.if-mask-eq0.false

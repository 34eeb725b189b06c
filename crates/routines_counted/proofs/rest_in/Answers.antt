-- `routines_counted::rest_in` meets its contract.
use Rattle.routines_counted.proofs.Counting.{rest_none, rest_some}
use Rattle.routines_counted.proofs.rest_in.Goals as goal

pub returns-then-mask-eq0 : goal.returns-then-mask-eq0
returns-then-mask-eq0 c = rest_none _ _ _ c.if-mask-eq0.true

pub returns : goal.returns
returns c = rest_some _ _ _ c.if-mask-eq0.false

-- `routines_counted::first_in` meets its contract.
use Rattle.routines_counted.proofs.Counting.{first_none, first_some}
use Rattle.routines_counted.proofs.first_in.Goals as goal

pub returns-then-mask-eq0 : goal.returns-then-mask-eq0
returns-then-mask-eq0 c = first_none _ _ _ c.if-mask-eq0.true

pub returns : goal.returns
returns c = first_some _ _ _ c.if-mask-eq0.false

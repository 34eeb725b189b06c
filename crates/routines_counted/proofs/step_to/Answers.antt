-- `routines_counted::step_to` meets its contract.
use Rattle.routines_counted.proofs.Counting.{step_there, step_elsewhere}
use Rattle.routines_counted.proofs.step_to.Goals as goal

pub returns-then-count-address : goal.returns-then-count-address
returns-then-count-address c = step_there _ _ _ c.if-count-address.true

pub returns : goal.returns
returns c = step_elsewhere _ _ _ c.if-count-address.false

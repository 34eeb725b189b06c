-- `bound_calls::fork` meets its contract.
use Rattle.bound_calls.proofs.fork.Goals as goal

pub returns-then-known : goal.returns-then-known
returns-then-known c = rw (c.onward.ensures, c.if-known.true)

pub returns-else-known : goal.returns-else-known
returns-else-known c = rw (c.onward-else-known.ensures, c.if-known.false)

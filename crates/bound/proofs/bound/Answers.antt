-- `bound::bound` meets its contract.
use Rattle.bound.proofs.bound.Goals as goal

pub returns : goal.returns
returns c = rw (← c.p3_given.ensures) c.bound_shown.ensures

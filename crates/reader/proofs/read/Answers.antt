-- `reader::read` meets its contract.
use Rattle.reader.proofs.read.Goals as goal

pub returns : goal.returns
returns c = rw (← c.p3_given.ensures) c.read_shown.ensures

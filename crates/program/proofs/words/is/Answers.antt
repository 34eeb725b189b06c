-- `program::words::is` meets its contract.
use Rattle.text.proofs.words.Same.{same_is}
use Rattle.program.proofs.words.is.Goals as goal

pub returns : goal.returns
returns c = same_is c.same.ensures

-- `sha256::add_each` meets its contract.
use Rattle.sha256.specs.Sha256.{added}
use Rattle.sha256.proofs.add_each.Goals as goal

pub returns : goal.returns
unfolding added
returns c = cc

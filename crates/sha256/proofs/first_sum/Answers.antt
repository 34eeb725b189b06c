-- `sha256::first_sum` meets its contract.
use Rattle.sha256.specs.Sha256.{first_sum}
use Rattle.sha256.proofs.first_sum.Goals as goal

pub returns : goal.returns
unfolding first_sum
returns c = cc

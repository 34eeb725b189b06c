-- `sha256::second_sum` meets its contract.
use Rattle.sha256.specs.Sha256.{second_sum}
use Rattle.sha256.proofs.second_sum.Goals as goal

pub returns : goal.returns
unfolding second_sum
returns c = cc

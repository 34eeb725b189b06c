-- `sha256::one_round` meets its contract.
use Rattle.sha256.specs.Sha256.{round}
use Rattle.sha256.proofs.one_round.Goals as goal

pub returns : goal.returns
unfolding round
returns c = cc

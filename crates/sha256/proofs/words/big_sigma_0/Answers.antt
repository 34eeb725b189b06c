-- `sha256::words::big_sigma_0` meets its contract.
use Rattle.sha256.specs.Sha256.{big_sigma0}
use Rattle.sha256.proofs.words.big_sigma_0.Goals as goal

pub returns : goal.returns
unfolding big_sigma0
returns c = cc

-- `sha256::words::small_sigma_0` meets its contract.
use Rattle.sha256.specs.Sha256.{small_sigma0}
use Rattle.sha256.proofs.words.small_sigma_0.Goals as goal

pub returns : goal.returns
unfolding small_sigma0
returns c = cc

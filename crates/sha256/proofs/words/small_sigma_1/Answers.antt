-- `sha256::words::small_sigma_1` meets its contract.
use Rattle.sha256.specs.Sha256.{small_sigma1}
use Rattle.sha256.proofs.words.small_sigma_1.Goals as goal

pub returns : goal.returns
unfolding small_sigma1
returns c = cc

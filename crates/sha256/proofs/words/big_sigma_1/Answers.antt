-- `sha256::words::big_sigma_1` meets its contract.
use Rattle.sha256.specs.Sha256.{big_sigma1}
use Rattle.sha256.proofs.words.big_sigma_1.Goals as goal

pub returns : goal.returns
unfolding big_sigma1
returns c = cc

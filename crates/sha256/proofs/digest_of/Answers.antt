-- `sha256::digest_of` meets its contract.
use Rattle.sha256.specs.Sha256.{digest_of}
use Rattle.sha256.proofs.digest_of.Goals as goal

pub returns : goal.returns
unfolding digest_of
returns c = cc

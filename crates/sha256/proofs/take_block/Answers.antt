-- `sha256::take_block` meets its contract.
use Rattle.sha256.specs.Sha256.{after_block}
use Rattle.sha256.proofs.take_block.Goals as goal

pub returns : goal.returns
unfolding after_block
returns c = cc

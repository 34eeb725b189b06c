-- `sha256::words::choice` meets its contract.
use Rattle.std.proofs.Common.{refl}
use Rattle.sha256.specs.Sha256.{ch}
use Rattle.sha256.proofs.words.choice.Goals as goal

pub returns : goal.returns
unfolding ch
returns c = refl

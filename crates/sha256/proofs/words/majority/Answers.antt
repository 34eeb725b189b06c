-- `sha256::words::majority` meets its contract.
use Rattle.std.proofs.Common.{refl}
use Rattle.sha256.specs.Sha256.{maj}
use Rattle.sha256.proofs.words.majority.Goals as goal

pub returns : goal.returns
unfolding maj
returns c = refl

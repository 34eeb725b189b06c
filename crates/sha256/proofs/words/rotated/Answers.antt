-- `sha256::words::rotated` meets its contract.
use Rattle.std.proofs.Common.{refl}
use Rattle.sha256.specs.Sha256.{rotr}
use Rattle.sha256.proofs.words.rotated.Goals as goal

pub returns : goal.returns
unfolding rotr
returns c = refl

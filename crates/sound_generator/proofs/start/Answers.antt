-- `sound_generator::start` meets its contract.
use mathlib.Core.Path.{refl}
use Rattle.sound_generator.specs.Sound.{start_state}
use Rattle.sound_generator.proofs.start.Goals as goal

pub returns : goal.returns
unfolding start_state
returns c = refl

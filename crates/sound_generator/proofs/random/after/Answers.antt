-- `sound_generator::random::after` meets its contract.
use mathlib.Core.Path.{◌∙◌}
use Rattle.sound_generator.proofs.random.Period.{after_rest}
use Rattle.sound_generator.proofs.random.after.Goals as goal

pub returns : goal.returns
returns c = c.one_by_one.ensures ∙ after_rest _ _ c.requires

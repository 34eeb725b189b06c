-- `sound_generator::random::with_next` meets its contract.
use Rattle.sound_generator.proofs.random.Period.{next_code}
use Rattle.sound_generator.proofs.random.with_next.Goals as goal

pub returns : goal.returns
returns c = next_code _ c.requires.nine

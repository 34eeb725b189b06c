-- `sound_generator::advance::jump` meets its contract.
use mathlib.Core.Path.{sym}
use Rattle.sound_generator.proofs.advance.Jumping.{jumps}
use Rattle.sound_generator.proofs.advance.jump.Goals as goal

pub returns : goal.returns
returns c = rw (c.after.ensures, c.flipped.ensures, c.from.ensures, c.from-period.ensures) (sym (jumps c.args.n c.args.s c.requires.0.count c.requires.2))

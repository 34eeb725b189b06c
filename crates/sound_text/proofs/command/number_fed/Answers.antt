-- `sound_text::command::number_fed` meets its contract.
use native.Mathlib.Decide.{dec_lt}
use native.Mathlib.Omega.{arith}
use Rattle.sound_text.proofs.command.Entering.{digit-fed, other-fed, digit-is, digit-not}
use Rattle.sound_text.proofs.command.number_fed.Goals as goal

pub returns-in-48-to-57 : goal.returns-in-48-to-57
returns-in-48-to-57 c = rw (c.min.ensures, c.from.ensures) (digit-fed (omega arith) c.requires.0 c.requires.1 (digit-is c.args.c (omega arith) (omega arith)))

pub returns-in_default : goal.returns-in_default
returns-in_default c = other-fed (omega arith) c.requires.0 c.requires.1 (digit-not c.args.c (λ g h. omega arith) (dec_lt c.args.c 48))

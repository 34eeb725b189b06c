-- `sound_text::command::enter` meets its contract.
use borrow.Author.Tests.{eq-eqb}
use native.Mathlib.Omega.{arith}
use Rattle.sound_text.proofs.command.Entering.{blank-fed}
use Rattle.sound_text.proofs.command.enter.Goals as goal

pub returns-then-c-eq32 : goal.returns-then-c-eq32
returns-then-c-eq32 c = blank-fed (omega arith) c.requires c.if-e.false (eq-eqb c.args.c 32 c.if-c-eq32.true)

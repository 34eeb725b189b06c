-- `sound_generator::advance::flipped` meets its contract.
use borrow.Author.Tests.{eq-eqb, ne_eqb}
use Rattle.sound_generator.proofs.advance.Jumping.{flipped_by_parity}
use Rattle.sound_generator.proofs.advance.flipped.Goals as goal

pub returns-then-toggles-eq1 : goal.returns-then-toggles-eq1
returns-then-toggles-eq1 c = rw (flipped_by_parity c.args.toggles c.args.tone, eq-eqb _ _ c.if-toggles-eq1.true)

pub returns-else-toggles-eq1 : goal.returns-else-toggles-eq1
returns-else-toggles-eq1 c = rw (flipped_by_parity c.args.toggles c.args.tone, ne_eqb _ _ c.if-toggles-eq1.false)

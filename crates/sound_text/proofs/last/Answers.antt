-- `sound_text::last` meets its contract.
use Rattle.sound_text.proofs.Feeding.{last-told, nothing-told}
use Rattle.sound_text.proofs.last.Goals as goal

pub returns-then-is_begun : goal.returns-then-is_begun
returns-then-is_begun g c = last-told c.args.s c.is_begun.ensures c.args.out.now c.if-is_begun.true c.command_of.ensures c.perform.ensures c.tell.ensures.text

pub returns-else-is_begun : goal.returns-else-is_begun
returns-else-is_begun g c = nothing-told c.args.s c.is_begun.ensures c.args.out.now c.if-is_begun.false

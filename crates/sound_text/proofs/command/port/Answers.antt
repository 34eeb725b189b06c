-- `sound_text::command::port` meets its contract.
use mathlib.Core.Path.{sym, ◌∙◌}
use Rattle.sound_text.specs.Commands.{port}
use Rattle.text.proofs.words.Same.{same_is}
use Rattle.sound_text.proofs.command.port.Goals as goal

pub returns-then-same : goal.returns-then-same
unfolding port
returns-then-same c = rw (sym (same_is c.same.ensures) ∙ c.if-same.true)

pub returns-then-same-2 : goal.returns-then-same-2
unfolding port
returns-then-same-2 c = rw (sym (same_is c.same.ensures) ∙ c.if-same.false, sym (same_is c.same-else-same.ensures) ∙ c.if-same-2.true)

pub returns-then-same-3 : goal.returns-then-same-3
unfolding port
returns-then-same-3 c = rw (sym (same_is c.same.ensures) ∙ c.if-same.false, sym (same_is c.same-else-same.ensures) ∙ c.if-same-2.false, sym (same_is c.same-else-same-2.ensures) ∙ c.if-same-3.true)

pub returns-else-same-3 : goal.returns-else-same-3
unfolding port
returns-else-same-3 c = rw (sym (same_is c.same.ensures) ∙ c.if-same.false, sym (same_is c.same-else-same.ensures) ∙ c.if-same-2.false, sym (same_is c.same-else-same-2.ensures) ∙ c.if-same-3.false)

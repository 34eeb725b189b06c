-- `sound_text::command::numbered` meets its contract.
use mathlib.Core.Path.{sym, ◌∙◌}
use borrow.Author.Tests.{le-leb, lt-leb}
use Rattle.sound_text.specs.Commands.{numbered}
use Rattle.text.proofs.words.Same.{same_is}
use Rattle.sound_text.proofs.command.numbered.Goals as goal

pub returns-then-same : goal.returns-then-same
unfolding numbered
returns-then-same c = rw (sym (same_is c.same.ensures) ∙ c.if-same.true)

pub returns-then-n-le-MOST_OF_A_PORT : goal.returns-then-n-le-MOST_OF_A_PORT
unfolding numbered
returns-then-n-le-MOST_OF_A_PORT c = rw (sym (same_is c.same.ensures) ∙ c.if-same.false, le-leb _ _ c.if-n-le-MOST_OF_A_PORT.true) c.port.ensures

pub returns-else-n-le-MOST_OF_A_PORT : goal.returns-else-n-le-MOST_OF_A_PORT
unfolding numbered
returns-else-n-le-MOST_OF_A_PORT c = rw (sym (same_is c.same.ensures) ∙ c.if-same.false, lt-leb _ _ c.if-n-le-MOST_OF_A_PORT.false)

-- `sound_text::command::word_fed` meets its contract.
use native.Mathlib.Omega.{arith}
use borrow.Author.Rules.{rules}
use Rattle.sound_text.proofs.command.Entering.{word_kept, word-full}
use Rattle.sound_text.proofs.command.word_fed.Goals as goal

pub returns-then-at-ge-LONGEST : goal.returns-then-at-ge-LONGEST
returns-then-at-ge-LONGEST c = word-full (omega arith) c.requires.0 c.requires.1 c.requires.2 c.if-at-ge-LONGEST.true

pub returns : goal.returns
returns c = word_kept (omega arith) c.requires.0 c.requires.1 c.requires.2 c.if-at-ge-LONGEST.false (search rules)

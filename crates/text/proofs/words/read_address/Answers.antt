-- `text::words::read_address` meets its contract.
use native.Mathlib.Omega.{arith}
use borrow.Author.Tests.{lt-leb}
use lib.ListN.{length}
use Rattle.std.proofs.lemmas.Grind.{common_steps}
use Rattle.text.specs.Words.{word_address}
use Rattle.text.proofs.words.Values.{address_of_lem}
use Rattle.text.proofs.words.read_address.Goals as goal

pub returns-then-word-gt4 : goal.returns-then-word-gt4
unfolding word_address
returns-then-word-gt4 c = rw (lt-leb (length c.args.word.now) 4 c.if-word-gt4.true)

pub returns-in_err-value : goal.returns-in_err-value
returns-in_err-value c = rw (c.from_residual.ensures, ← address_of_lem c.args.word.now (omega arith), ← c.in_err-value.ensures.value)

pub returns : goal.returns
returns c = rw (c.then_some.ensures, ← address_of_lem c.args.word.now (omega arith), ← c.in_ok-value.ensures.value) (grind (arith, common_steps))

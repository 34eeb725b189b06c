-- `text::text::Text::number` meets its contract.
use mathlib.Core.List.{append_assoc, append-nil}
use native.Mathlib.Omega.{arith}
use Rattle.text.proofs.digits.Numbers.{digits_none, digits_then}
use Rattle.text.proofs.text.Text.+number.Goals as goal

pub returns-then-places-gt0-clause-text : goal.returns-then-places-gt0-clause-text
returns-then-places-gt0-clause-text g t c = rw (c.put.ensures.text, c.number.ensures.text, c.digit.ensures, append_assoc, digits_then c.args.base c.args.places c.args.v (omega arith))

pub returns-else-places-gt0-clause-text : goal.returns-else-places-gt0-clause-text
returns-else-places-gt0-clause-text g t c = rw (digits_none c.args.base c.args.places c.args.v (omega arith), append-nil)

-- `sheet_text::sheet_text` meets its contract: its table is the one of the sheet's lines.
use borrow.Author.Rules.{rules}
use Rattle.std.specs.Prelude.{map}
use Rattle.text.proofs.Lent.{lent_at}
use Rattle.text.specs.Digits.{digit, in_base, places_of}
use Rattle.sheet_text.specs.Lines.{sheet_text}
use Rattle.sheet_text.specs.declared.TheConstants.{TEXTS}
use Rattle.sheet_text.proofs.Table.{text_at, length_at, no_text}
use Rattle.sheet_text.proofs.sheet_text.Goals as goal

pub returns-then-n-le121-clause-text : goal.returns-then-n-le121-clause-text
unfolding sheet_text digit in_base places_of
returns-then-n-le121-clause-text c = rw lent_at (text_at (map (λ m. m.now) TEXTS) tt c.args.n c.if-n-le121.true)

pub returns-then-n-le121-clause-upper_bound : goal.returns-then-n-le121-clause-upper_bound
unfolding sheet_text digit in_base places_of
returns-then-n-le121-clause-upper_bound c = rw lent_at (length_at (map (λ m. m.now) TEXTS) tt c.args.n c.if-n-le121.true)

pub returns-else-n-le121-clause-text : goal.returns-else-n-le121-clause-text
returns-else-n-le121-clause-text c = rw (no_text c.args.n c.if-n-le121.false (search rules))

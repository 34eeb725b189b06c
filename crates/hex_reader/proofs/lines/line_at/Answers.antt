-- `hex_reader::lines::line_at` meets its contract.
use mathlib.Core.Path.{refl}
use Rattle.hex_reader.proofs.lines.Splits.{at_end_lem, at-LF}
use Rattle.hex_reader.proofs.lines.line_at.Goals as goal

pub returns-then-lf-text : goal.returns-then-lf-text
returns-then-lf-text c = at_end_lem c.args.text.now c.args.at c.line_end-lf.result c.requires c.line_end-lf.ensures.value _ c.if-lf-text.true refl refl

pub returns : goal.returns
returns c = at-LF c.args.text.now c.args.at c.line_end-lf.result c.requires c.line_end-lf.ensures.value _ c.line_end-lf.ensures.upper_bound c.if-lf-text.false c.without_cr.ensures refl

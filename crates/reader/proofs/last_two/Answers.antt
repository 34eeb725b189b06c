-- `reader::last_two` meets its contract.
use mathlib.Core.Path.{◌∙◌}
use borrow.Author.Tests.{eq-eqb, ne_eqb}
use Rattle.reader.proofs.Lasts.{two-enough, two_past}
use borrow.Author.Rules.{rules}
use Rattle.reader.proofs.last_two.Goals as goal

pub returns-then-cost-lt3 : goal.returns-then-cost-lt3
returns-then-cost-lt3 c = c.decode.ensures ∙ two-enough _ _ _ (search rules) (c.timing-cost.ensures.timed_from, c.timing-cost.ensures.none_from) _ c.if-cost-lt3.true

pub returns-then-b1-eq12 : goal.returns-then-b1-eq12
returns-then-b1-eq12 c = rw (eq-eqb _ _ c.if-b1-eq12.true) at (two_past _ _ _ (search rules) (c.timing-cost.ensures.timed_from, c.timing-cost.ensures.none_from) c.args.b1 (search rules) c.if-cost-lt3.false)

pub returns-else-b1-eq12 : goal.returns-else-b1-eq12
returns-else-b1-eq12 c = rw (ne_eqb _ _ c.if-b1-eq12.false) at (two_past _ _ _ (search rules) (c.timing-cost.ensures.timed_from, c.timing-cost.ensures.none_from) c.args.b1 (search rules) c.if-cost-lt3.false)

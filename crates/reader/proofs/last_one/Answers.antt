-- `reader::last_one` meets its contract.
use mathlib.Core.Path.{◌∙◌}
use Rattle.reader.proofs.Lasts.{one-enough, one-past}
use native.Mathlib.Omega.{arith}
use borrow.Author.Rules.{rules}
use Rattle.reader.proofs.last_one.Goals as goal

pub returns-then-cost-lt2 : goal.returns-then-cost-lt2
returns-then-cost-lt2 c = c.decode.ensures ∙ one-enough _ _ _ (search rules) (c.timing-cost.ensures.timed_from, c.timing-cost.ensures.none_from) (omega arith)

pub returns-else-cost-lt2 : goal.returns-else-cost-lt2
returns-else-cost-lt2 c = one-past _ _ _ (search rules) (c.timing-cost.ensures.timed_from, c.timing-cost.ensures.none_from) (omega arith)

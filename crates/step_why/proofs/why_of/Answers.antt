-- `step_why::why_of` meets its contract.
use mathlib.Core.Path.{sym, ◌∙◌}
use Rattle.step_why.proofs.Reasons.{of-seen, of-waiting, seen_ints}
use Rattle.step_why.proofs.why_of.Goals as goal

pub why_seen-requires : goal.why_seen-requires
why_seen-requires c = seen_ints _ _ _ _ c.seen.ensures c.requires.0 c.requires.1

pub returns-then-is_running : goal.returns-then-is_running
returns-then-is_running c = c.why_seen.ensures ∙ of-seen _ _ _ _ c.seen.ensures (sym c.is_running.ensures ∙ c.if-is_running.true)

pub returns-else-is_running : goal.returns-else-is_running
returns-else-is_running c = of-waiting _ _ _ (sym c.is_running.ensures ∙ c.if-is_running.false)

-- `step_act::accept` meets its contract.
use mathlib.Core.Path.{sym, ◌∙◌}
use Rattle.step_act.proofs.Acting.{refuses, accepts}
use Rattle.step_act.proofs.accept.Goals as goal

pub returns-then-can_push : goal.returns-then-can_push
returns-then-can_push c = accepts _ _ _ _ _ (sym c.can_push.ensures ∙ c.if-can_push.true) (rw (← c.held.ensures, ← c.accept.ensures) c.moved_on.ensures)

pub returns-else-can_push : goal.returns-else-can_push
returns-else-can_push c = refuses _ _ _ (sym c.can_push.ensures ∙ c.if-can_push.false)

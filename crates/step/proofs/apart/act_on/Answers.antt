-- `step::apart::act_on` meets its contract.
use mathlib.Core.Path.{sym, ◌∙◌}
use borrow.Author.Tests.{not-true}
use Rattle.laws.proofs.Choices.{both_false}
use Rattle.step.proofs.apart.Answering.{idles, acts}
use Rattle.step.proofs.apart.act_on.Goals as goal
use Rattle.step.proofs.apart.act_on.Goals.{else-is_running-via-then-is_running+else-not-m, else-is_running-via-else-is_running}

pub returns-then-not-m : goal.returns-then-not-m
returns-then-not-m c = rw c.acted.ensures (acts _ _ _ _ _ _ (sym c.is_running.ensures ∙ c.if-is_running.true) (not-true _ c.if-not-m.true) c.act.ensures)

pub returns-else-is_running : goal.returns-else-is_running
returns-else-is_running c =
    elim c.else-is_running.branch [
      | else-is_running-via-then-is_running+else-not-m w ↦ idles _ _ _ _ (rw w.if-not-m.false (both_false _))
      | else-is_running-via-else-is_running w ↦ idles _ _ _ _ (rw (← c.is_running.ensures, w.if-is_running.false))
    ]

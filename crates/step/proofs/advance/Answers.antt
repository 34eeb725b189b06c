-- `step::advance` meets its contract.
use mathlib.Core.Path.{sym, ◌∙◌}
use Rattle.step.proofs.Stepping.{seen_runs, runs, waits}
use Rattle.step.proofs.advance.Goals as goal

pub act-requires : goal.act-requires
act-requires c =
    let pre = c.requires in
    (seen_runs _ _ _ _ c.seen-core.ensures (sym c.is_running.ensures ∙ c.if-is_running.true) pre.0 pre.3, pre.1)

pub returns-then-is_running : goal.returns-then-is_running
returns-then-is_running c = rw c.acted.ensures (runs _ _ _ _ _ _ c.seen-core.ensures (sym c.is_running.ensures ∙ c.if-is_running.true) _ _ c.act.ensures)

pub returns-else-is_running : goal.returns-else-is_running
returns-else-is_running c = waits _ _ _ _ _ _ c.waited-cycles.ensures (sym c.is_running.ensures ∙ c.if-is_running.false)

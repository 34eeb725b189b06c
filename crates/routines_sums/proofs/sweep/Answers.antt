-- `routines_sums::sweep` meets its contract.
use mathlib.Core.Path.{◌∙◌}
use Rattle.routines_sums.proofs.Settling.{swept_changed, swept_kept}
use Rattle.routines_sums.proofs.sweep.Goals as goal
use Rattle.routines_sums.proofs.sweep.Goals.{then-settle, else-settle}

pub loop-v-preserved : goal.loop-v-preserved
loop-v-preserved c =
    let inv = c.loop-v.invariant in
    let settle = c.settle in (
      settle.auto.d ∙ inv.0,
      settle.auto.dep ∙ inv.1,
      elim c.if-settle.branch [
        | then-settle w ↦ rw (w.changed-is, w.if-settle.true) (swept_changed inv.2 (rw w.if-settle.true at settle.ensures))
        | else-settle w ↦ rw w.changed-is (swept_kept inv.2 (rw w.if-settle.false at settle.ensures))
      ],
    )

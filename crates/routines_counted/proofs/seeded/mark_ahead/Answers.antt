-- `routines_counted::seeded::mark_ahead` meets its contract.
use mathlib.Core.Path.{◌∙◌, sym}
use native.Mathlib.Omega.{arith}
use Rattle.routines_counted.proofs.Stepping.{sized_at}
use Rattle.routines_counted.proofs.Searching.{seeded-sized, ahead-is, idle_at}
use Rattle.routines_counted.proofs.seeded.mark_ahead.Goals as goal

pub mark_losing-requires : goal.mark_losing-requires
mark_losing-requires c =
    let pre = c.requires in
    let lay = c.lay_seeded in
    (sized_at (c.clear.auto.marks ∙ pre.0) (seeded-sized c.args.steps.now.sized lay.ensures (omega (arith, lay.auto.seeded, pre.1)) (omega (arith, pre.0, pre.2))), c.clear.ensures)

pub returns : goal.returns
returns c =
    let pre = c.requires in
    let lay = c.lay_seeded in
    let losing = c.mark_losing in
    rw pre.0 (ahead-is c.args.steps.now.sized lay.ensures (omega (arith, lay.auto.seeded, pre.1)) losing.ensures.0 (idle_at (sym (losing.auto.marks ∙ c.clear.auto.marks ∙ pre.0)) losing.ensures.1))

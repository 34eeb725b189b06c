-- `routines_counted::masks::weigh_at` meets its contract.
use mathlib.Core.Path.{◌∙◌}
use Rattle.routines_counted.proofs.Stepping.{sized_at}
use Rattle.routines_counted.proofs.Masking.{weighed}
use Rattle.routines_counted.proofs.masks.weigh_at.Goals as goal

pub returns : goal.returns
returns c =
    let args = c.args in
    let same = c.reach_behind.auto.found in
    weighed args.steps.now.words.now args.reached.now _ _ args.at _ _ _ _ _ same (c.mark_ahead.auto.ahead ∙ same) (sized_at c.requires.0 args.steps.now.sized) c.reach_behind.ensures c.mark_ahead.ensures c.weigh_count.ensures

-- `routines_counted::reached::reach_start` meets its contract.
use native.Mathlib.Omega.{arith}
use Rattle.routines_counted.proofs.Joining.{behind-skip, behind_more, start-at, start-so}
use Rattle.routines_counted.proofs.reached.reach_start.Goals as goal

pub returns-then-place_of-at : goal.returns-then-place_of-at
returns-then-place_of-at c =
    let args = c.args in
    behind-skip _ _ (start-at args.steps.now.words.now args.reached.now args.at args.s _ c.place_of.ensures c.if-place_of-at.true) c.requires.3

pub returns : goal.returns
returns c =
    let args = c.args in
    let pre = c.requires in
    behind_more _ _ _ _ (start-so args.steps.now.words.now args.reached.now args.at args.s _ c.place_of.ensures c.if-reached-s-eq0.false c.if-place_of-at.false) c.reach.ensures.0 c.join.ensures (omega (arith, pre.1.behind, c.reach.auto.marks)) (omega (arith, pre.1.behind, c.reach.auto.marks, c.join.auto.all)) pre.3

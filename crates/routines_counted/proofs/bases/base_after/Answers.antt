-- `routines_counted::bases::base_after` meets its contract.
use native.Mathlib.Omega.{arith}
use Rattle.routines_counted.specs.Counting.{counts_of}
use Rattle.routines_counted.proofs.Basing.{after_none, after-large, after_more}
use Rattle.routines_counted.proofs.bases.base_after.Goals as goal

pub returns-then-marks-v-eq0 : goal.returns-then-marks-v-eq0
returns-then-marks-v-eq0 c =
    let args = c.args in
    let pre = c.requires in
    after_none (counts_of args.counts.now) args.masks.now args.marks.now args.v _ pre.5 c.if-marks-v-eq0.true

pub returns-then-size-gt-MOST_TURNS : goal.returns-then-size-gt-MOST_TURNS
returns-then-size-gt-MOST_TURNS c =
    let args = c.args in
    let pre = c.requires in
    after-large (counts_of args.counts.now) args.masks.now args.marks.now args.v _ c.if-marks-v-eq0.false c.size_of-size.ensures c.if-size-gt-MOST_TURNS.true

pub returns : goal.returns
returns c =
    let args = c.args in
    let pre = c.requires in
    after_more (counts_of args.counts.now) args.masks.now args.marks.now args.v _ _ pre.5 c.if-marks-v-eq0.false c.size_of-size.ensures (omega (arith, c.if-size-gt-MOST_TURNS.false))

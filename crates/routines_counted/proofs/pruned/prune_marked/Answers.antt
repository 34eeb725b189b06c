-- `routines_counted::pruned::prune_marked` meets its contract.
use Rattle.routines_counted.specs.Nodes.{PrunedIs}
use Rattle.routines_counted.proofs.Laying.{all_same, all_more}
use Rattle.routines_counted.proofs.pruned.prune_marked.Goals as goal

pub returns-then-marks-v-eq0 : goal.returns-then-marks-v-eq0
returns-then-marks-v-eq0 c =
    let args = c.args in
    let pre = c.requires in
    all_same (PrunedIs args.words.now args.counts.now args.masks.now args.bases.now args.lives.now) args.counts.now args.masks.now args.bases.now args.marks.now _ _ c.if-marks-v-eq0.true pre.5

pub returns : goal.returns
returns c =
    let args = c.args in
    let pre = c.requires in
    all_more (PrunedIs args.words.now args.counts.now args.masks.now args.bases.now args.lives.now) args.counts.now args.masks.now args.bases.now args.marks.now _ _ _ _ pre.1 pre.4 c.if-marks-v-eq0.false pre.5 c.prune_place.ensures

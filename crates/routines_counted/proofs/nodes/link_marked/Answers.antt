-- `routines_counted::nodes::link_marked` meets its contract.
use Rattle.routines_counted.specs.Nodes.{LinkedIs}
use Rattle.routines_counted.proofs.Laying.{all_same, all_more}
use Rattle.routines_counted.proofs.nodes.link_marked.Goals as goal

pub returns-then-marks-v-eq0 : goal.returns-then-marks-v-eq0
returns-then-marks-v-eq0 c =
    let args = c.args in
    let pre = c.requires in
    all_same (LinkedIs args.words.now args.counts.now args.masks.now args.bases.now) args.counts.now args.masks.now args.bases.now args.marks.now _ _ c.if-marks-v-eq0.true pre.4

pub returns : goal.returns
returns c =
    let args = c.args in
    let pre = c.requires in
    all_more (LinkedIs args.words.now args.counts.now args.masks.now args.bases.now) args.counts.now args.masks.now args.bases.now args.marks.now _ _ _ _ pre.1 pre.3 c.if-marks-v-eq0.false pre.4 c.link_place.ensures

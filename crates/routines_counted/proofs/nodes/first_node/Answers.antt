-- `routines_counted::nodes::first_node` meets its contract.
use Rattle.routines_counted.proofs.Leading.{address_is, first-is}
use Rattle.routines_counted.proofs.nodes.first_node.Goals as goal

pub returns : goal.returns
returns c =
    let args = c.args in
    let pre = c.requires in
    first-is args.words.now args.counts.now args.masks.now args.bases.now args.w _ _ (address_is _ _ _ c.place_of.ensures) pre.1 pre.0 c.moved_to-r.ensures

-- `routines_counted::nodes::node_to` meets its contract.
use native.Mathlib.Omega.{arith}
use Rattle.routines_counted.proofs.Leading.{address_is, node-none, node-some}
use Rattle.routines_counted.proofs.nodes.node_to.Goals as goal

pub returns-then-r-ge-MOST_TURNS : goal.returns-then-r-ge-MOST_TURNS
returns-then-r-ge-MOST_TURNS c =
    let args = c.args in
    node-none args.words.now args.counts.now args.masks.now args.bases.now args.v args.d args.w _ _ (address_is _ _ _ c.place_of.ensures) c.moved_to-r.ensures c.if-r-ge-MOST_TURNS.true

pub returns : goal.returns
returns c =
    let pre = c.requires in
    node-some _ _ _ _ _ _ _ _ _ (address_is _ _ _ c.place_of.ensures) c.moved_to-r.ensures pre.1 (omega (arith, c.if-r-ge-MOST_TURNS.false))

-- `routines_counted::pruned::pruned_fork` meets its contract.
use native.Mathlib.Omega.{arith}
use Rattle.routines_counted.proofs.Linking.{place_here, next_place, other_place}
use Rattle.routines_counted.proofs.Living.{forks_at, next_is, other_is}
use Rattle.routines_counted.proofs.pruned.pruned_fork.Goals as goal

pub offset_bounds-words-v : goal.offset_bounds-words-v
offset_bounds-words-v c = omega (arith, (place_here c.requires.0).small)

pub bounds-words-v : goal.bounds-words-v
bounds-words-v c = omega (arith, (place_here c.requires.0).word)

pub node_to-a-requires : goal.node_to-a-requires
node_to-a-requires c =
    let asked = c.requires.0 in
    (place_here asked, next_place asked c.next_of.ensures)

pub node_to-b-requires : goal.node_to-b-requires
node_to-b-requires c =
    let asked = c.requires.0 in
    (place_here asked, other_place asked c.other_of.ensures)

pub returns : goal.returns
returns c =
    let forks = c.fork_links.ensures in
    (forks_at _ _ _ _ _ _ _ _ _ _ _ (next_is _ _ _ c.next_of.ensures) (other_is _ _ _ c.other_of.ensures) c.node_to-a.ensures c.node_to-b.ensures forks.0, forks.1)

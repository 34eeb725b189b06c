-- `routines_counted::nodes::linked_fork` meets its contract.
use native.Mathlib.Omega.{arith}
use Rattle.routines_counted.proofs.Linking.{place_here, next_place, other_place, fork-linked}
use Rattle.routines_counted.proofs.nodes.linked_fork.Goals as goal

pub offset_bounds-words-v : goal.offset_bounds-words-v
offset_bounds-words-v c = omega (arith, (place_here c.requires.0).small)

pub bounds-words-v : goal.bounds-words-v
bounds-words-v c = omega (arith, (place_here c.requires.0).word)

pub led_to-requires : goal.led_to-requires
led_to-requires c =
    let asked = c.requires.0 in
    (place_here asked, next_place asked c.next_of.ensures, asked.number)

pub led_to-requires-2 : goal.led_to-requires-2
led_to-requires-2 c =
    let asked = c.requires.0 in
    (place_here asked, other_place asked c.other_of.ensures, asked.number)

pub returns : goal.returns
returns c =
    let args = c.args in
    fork-linked args.words.now args.counts.now args.masks.now args.bases.now _ _ _ _ _ _ _ c.requires.1 c.next_of.ensures c.other_of.ensures c.led_to.ensures c.led_to-2.ensures c.pack.ensures

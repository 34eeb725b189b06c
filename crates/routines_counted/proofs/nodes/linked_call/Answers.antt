-- `routines_counted::nodes::linked_call` meets its contract.
use native.Mathlib.Omega.{arith}
use Rattle.routines_counted.proofs.Linking.{place_here, next_place, into-place, call-linked, call_fits}
use Rattle.routines_counted.proofs.nodes.linked_call.Goals as goal

pub offset_bounds-words-v : goal.offset_bounds-words-v
offset_bounds-words-v c = omega (arith, (place_here c.requires.0).small)

pub bounds-words-v : goal.bounds-words-v
bounds-words-v c = omega (arith, (place_here c.requires.0).word)

pub led_to-requires : goal.led_to-requires
led_to-requires c =
    let asked = c.requires.0 in
    (place_here asked, next_place asked c.next_of.ensures, asked.number)

pub node_of-requires : goal.node_of-requires
node_of-requires c =
    let asked = c.requires.0 in
    let place = place_here asked in
    (place.base, place.small, omega (arith, place.room, asked.number))

pub first_node-requires : goal.first_node-requires
first_node-requires c =
    let asked = c.requires.0 in
    (into-place asked c.into_of.ensures, asked.numbered.given)

pub pack-requires : goal.pack-requires
pack-requires c =
    let asked = c.requires.0 in
    call_fits _ _ _ c.led_to.ensures.1 (omega (arith, c.node_of.ensures, (place_here asked).room, asked.number)) c.first_node.ensures.1

pub returns : goal.returns
returns c =
    let args = c.args in
    let asked = c.requires.0 in
    call-linked args.words.now args.counts.now args.masks.now args.bases.now _ _ _ _ _ _ _ _ (omega (arith, (place_here asked).room, asked.number)) c.requires.1 c.next_of.ensures c.into_of.ensures c.led_to.ensures c.node_of.ensures c.first_node.ensures c.pack.ensures

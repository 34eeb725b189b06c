-- `bound_numbered::read_place` meets its contract.
use native.Mathlib.Omega.{arith}
use Rattle.device.specs.Device.{in_image, rom_of}
use Rattle.routines_numbered.specs.Packed.{name_in}
use Rattle.routines_numbered.proofs.Numbering.{count_le}
use Rattle.bound_numbered.proofs.Reading.{node_good, laid-fits, reads}
use Rattle.bound_numbered.proofs.read_place.Goals as goal

pub offset_bounds-words-head : goal.offset_bounds-words-head
offset_bounds-words-head c =
    let pre-fact = c.requires in
    omega (arith, pre-fact.4, count_le _ _ _ pre-fact.1)

pub bounds-words-head : goal.bounds-words-head
bounds-words-head c =
    let pre-fact = c.requires in
    omega (arith, pre-fact.3, pre-fact.4, count_le _ _ _ pre-fact.1)

pub number_after-found-requires : goal.number_after-found-requires
number_after-found-requires c =
    let pre-fact = c.requires in
    let node-at-fact = c.node_at-x in
    let args-fact = c.args in
    let place-of-fact = c.place_of-place in
    (pre-fact.1, pre-fact.2, pre-fact.3, rw node-at-fact.ensures (node_good args-fact.d (rom_of args-fact.image.now args-fact.p3) (λ at. (c.type_inv.image (in_image args-fact.p3 at)).fits) _ (omega (arith, place-of-fact.ensures))))

pub links_of-links-requires : goal.links_of-links-requires
links_of-links-requires c =
    let number-after-fact = c.number_after-found in
    let pre-fact = c.requires in
    let node-at-fact = c.node_at-x in
    let args-fact = c.args in
    let place-of-fact = c.place_of-place in
    (omega (arith, number-after-fact.auto.map, pre-fact.2), rw node-at-fact.ensures (node_good args-fact.d (rom_of args-fact.image.now args-fact.p3) (λ at. (c.type_inv.image (in_image args-fact.p3 at)).fits) _ (omega (arith, place-of-fact.ensures))), number-after-fact.ensures.has)

pub pack-requires : goal.pack-requires
unfolding name_in
pack-requires c =
    let args-fact = c.args in
    let place-of-fact = c.place_of-place in
    let node-at-fact = c.node_at-x in
    let number-after-fact = c.number_after-found in
    let links-of-fact = c.links_of-links in
    laid-fits args-fact.d (rom_of args-fact.image.now args-fact.p3) (λ at. (c.type_inv.image (in_image args-fact.p3 at)).fits) _ _ _ _ args-fact.count args-fact.head _ _ _ _ place-of-fact.ensures node-at-fact.ensures number-after-fact.ensures links-of-fact.ensures

pub offset_bounds-words-head-2 : goal.offset_bounds-words-head-2
offset_bounds-words-head-2 c =
    let pre-fact = c.requires in
    omega (arith, pre-fact.4, count_le _ _ _ pre-fact.1)

pub bounds-words-head-2 : goal.bounds-words-head-2
bounds-words-head-2 c =
    let number-after-fact = c.number_after-found in
    let pre-fact = c.requires in
    omega (arith, number-after-fact.auto.words, pre-fact.3, pre-fact.4, count_le _ _ _ pre-fact.1)

pub returns : goal.returns
unfolding name_in
returns c =
    let pack-fact = c.pack in
    let args-fact = c.args in
    let place-of-fact = c.place_of-place in
    let node-at-fact = c.node_at-x in
    let number-after-fact = c.number_after-found in
    let links-of-fact = c.links_of-links in
    let pre-fact = c.requires in
    rw pack-fact.ensures
    (reads args-fact.d (rom_of args-fact.image.now args-fact.p3) (λ at. (c.type_inv.image (in_image args-fact.p3 at)).fits) _ _ _ _ args-fact.count args-fact.head _ _ _ _
    place-of-fact.ensures node-at-fact.ensures number-after-fact.ensures links-of-fact.ensures pre-fact.4 (omega (arith, number-after-fact.auto.words, pre-fact.3)))

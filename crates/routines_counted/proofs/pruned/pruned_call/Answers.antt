-- `routines_counted::pruned::pruned_call` meets its contract.
use mathlib.Core.Path.{refl, ap, ◌∙◌}
use native.Mathlib.Omega.{arith}
use Rattle.counts.specs.Laying.{led_to, first_node}
use Rattle.routines_counted.specs.Nodes.{numbering_of}
use Rattle.routines_counted.proofs.Linking.{place_here, next_place, into-place}
use Rattle.routines_counted.proofs.Living.{next_is, into_is}
use Rattle.routines_counted.proofs.pruned.pruned_call.Goals as goal

pub offset_bounds-words-v : goal.offset_bounds-words-v
offset_bounds-words-v c = omega (arith, (place_here c.requires).small)

pub bounds-words-v : goal.bounds-words-v
bounds-words-v c = omega (arith, (place_here c.requires).word)

pub led_to-on-requires : goal.led_to-on-requires
led_to-on-requires c =
    let asked = c.requires in
    (place_here asked, next_place asked c.next_of.ensures, asked.number)

pub first_node-requires : goal.first_node-requires
first_node-requires c =
    let asked = c.requires in
    (into-place asked c.into_of.ensures, asked.numbered.given)

pub returns : goal.returns
returns c =
    let args = c.args in
    let on = c.led_to-on.ensures in
    let first = c.first_node.ensures in
    (on.0 ∙ ap (led_to (numbering_of args.words.now args.counts.now args.masks.now args.bases.now) args.v args.d) (next_is _ _ _ c.next_of.ensures), refl, first.0 ∙ ap (first_node (numbering_of args.words.now args.counts.now args.masks.now args.bases.now)) (into_is _ _ _ c.into_of.ensures), record { next = on.1; other = on.1; into = first.1 })

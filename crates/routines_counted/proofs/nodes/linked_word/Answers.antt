-- `routines_counted::nodes::linked_word` meets its contract.
use mathlib.Core.Path.{◌∙◌}
use native.Mathlib.Omega.{arith}
use Rattle.routines_counted.proofs.Linking.{place_here, kind_here, end-linked}
use Rattle.routines_counted.proofs.nodes.linked_word.Goals as goal

pub offset_bounds-words-v : goal.offset_bounds-words-v
offset_bounds-words-v c = omega (arith, (place_here c.requires).small)

pub bounds-words-v : goal.bounds-words-v
bounds-words-v c = omega (arith, (place_here c.requires).word)

pub linked_fork-requires : goal.linked_fork-requires
linked_fork-requires c =
    let kind = c.kind_of-kind.ensures in
    (c.requires, kind_here _ _ _ kind ∙ c.if-kind-eq1.true)

pub linked_call-requires : goal.linked_call-requires
linked_call-requires c =
    let kind = c.kind_of-kind.ensures in
    (c.requires, kind_here _ _ _ kind ∙ c.if-kind-eq3.true)

pub returns : goal.returns
returns c =
    let args = c.args in
    end-linked args.words.now args.counts.now args.masks.now args.bases.now _ _ _ _ (kind_here _ _ _ c.kind_of-kind.ensures) c.if-kind-eq1.false c.if-kind-eq3.false c.pack.ensures

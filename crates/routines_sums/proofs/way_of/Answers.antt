-- `routines_sums::way_of` meets its contract.
use mathlib.Core.Path.{sym, ◌∙◌}
use Rattle.routines_numbered.specs.Packed.{node_in, nodes_in}
use Rattle.routines_sums.proofs.Settling.{way-call, way-ret, way_on}
use Rattle.routines_sums.proofs.way_of.Goals as goal

pub returns-then-kind-eq3 : goal.returns-then-kind-eq3
unfolding nodes_in node_in
returns-then-kind-eq3 c =
    let into-of = c.into_of in
    let next_of = c.next_of in
    let args = c.args in
    let kind_of = c.kind_of-kind in
    let if1 = c.if-kind-eq3 in
    rw (into-of.ensures, next_of.ensures) (way-call args.words.now args.v (sym kind_of.ensures ∙ if1.true))

pub returns-then-kind-eq4 : goal.returns-then-kind-eq4
unfolding nodes_in node_in
returns-then-kind-eq4 c =
    let next-of2 = c.next_of-then-kind-eq4 in
    let other-of = c.other_of in
    let args = c.args in
    let kind_of = c.kind_of-kind in
    let if2 = c.if-kind-eq4 in
    rw (next-of2.ensures, other-of.ensures) (way-ret args.words.now args.v (sym kind_of.ensures ∙ if2.true))

pub returns : goal.returns
unfolding nodes_in node_in
returns c =
    let kind_of = c.kind_of-kind in
    let next-of3 = c.next_of-2 in
    let other-of2 = c.other_of-2 in
    let args = c.args in
    let if1 = c.if-kind-eq3 in
    let if2 = c.if-kind-eq4 in
    rw (kind_of.ensures, next-of3.ensures, other-of2.ensures) (way_on args.words.now args.v (λ e. if1.false (kind_of.ensures ∙ e)) (λ e. if2.false (kind_of.ensures ∙ e)))

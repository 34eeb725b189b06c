-- `Joined::node` meets its contract.
use Rattle.std.proofs.Common.{◌-◌, ◌/◌, sym, refl, ◌∙◌, arith}
use Rattle.routines_numbered.specs.Packed.{node_in, nodes_in}
use Rattle.routines_joined.proofs.Nodes.{node-entry, node_call, node-on, onward, onward_kind, node_ends, node_excluded}
use Rattle.routines_joined.proofs.joined.Joined.node.Goals as goal

pub returns-then-x-lt-ENTRIES : goal.returns-then-x-lt-ENTRIES
returns-then-x-lt-ENTRIES c = rw (c.beside-start.ensures, c.first_place.ensures) (onward (node-entry _ _ _ c.if-x-lt-ENTRIES.true))

pub bounds-self-into_of : goal.bounds-self-into_of
unfolding nodes_in node_in
bounds-self-into_of c =
    let laid = c.args.self.now.laid in
    omega (arith, c.into_of.ensures, laid.words, laid.few, (laid.links ((c.args.x - 2048) / 2) (omega (arith, c.requires, c.if-x-lt-ENTRIES.false))).into)

pub returns-then-kind-eq3 : goal.returns-then-kind-eq3
unfolding nodes_in node_in
returns-then-kind-eq3 c =
    rw (c.place_of.ensures, c.into_of.ensures, c.beside-on.ensures, c.next_of.ensures)
    (onward (node_call _ _ c.args.x _ (omega (arith, c.if-x-lt-ENTRIES.false)) refl (sym c.kind_of-kind.ensures ∙ c.if-kind-eq3.true)))

pub returns-then-kind-eq1 : goal.returns-then-kind-eq1
unfolding nodes_in node_in
returns-then-kind-eq1 c =
    rw (c.beside-on.ensures, c.next_of.ensures, c.beside.ensures, c.other_of.ensures)
    (onward_kind _ _ (node-on _ _ c.args.x _ (omega (arith, c.if-x-lt-ENTRIES.false)) refl (λ e. c.if-kind-eq3.false (c.kind_of-kind.ensures ∙ e))) (sym c.kind_of-kind.ensures ∙ c.if-kind-eq1.true))

pub returns-then-kind-end_at : goal.returns-then-kind-end_at
unfolding nodes_in node_in
returns-then-kind-end_at c =
    node_ends _ _ (node-on _ _ c.args.x _ (omega (arith, c.if-x-lt-ENTRIES.false)) refl (λ e. c.if-kind-eq3.false (c.kind_of-kind.ensures ∙ e)))
    (sym c.kind_of-kind.ensures ∙ (c.if-kind-end_at.true ∙ c.end_at.ensures))

pub returns-else-kind-end_at : goal.returns-else-kind-end_at
unfolding nodes_in node_in
returns-else-kind-end_at c =
    node_excluded _ _ (node-on _ _ c.args.x _ (omega (arith, c.if-x-lt-ENTRIES.false)) refl (λ e. c.if-kind-eq3.false (c.kind_of-kind.ensures ∙ e)))
    (λ e. c.if-kind-eq1.false (c.kind_of-kind.ensures ∙ e)) (λ e. c.if-kind-eq3.false (c.kind_of-kind.ensures ∙ e))
    (λ e. c.if-kind-end_at.false (c.kind_of-kind.ensures ∙ (e ∙ sym c.end_at.ensures)))

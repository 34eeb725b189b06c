-- `row_control::returns::come_back` meets its contract.
use mathlib.Core.Path.{ap, ◌∙◌}
use mathlib.Core.List.{[], ◌∷◌}
use Rattle.laws.proofs.Among.{first}
use Rattle.row.specs.Rows.{spent}
use Rattle.record.specs.Stack.{popped, flags_returned}
use Rattle.record.proofs.Range.{can-pop}
use borrow.Author.Rules.{rules}
use Rattle.row_control.proofs.Returning.{ret, rti, stop}
use Rattle.row_control.proofs.returns.come_back.Goals as goal

pub returns-then-not-can_pop : goal.returns-then-not-can_pop
returns-then-not-can_pop c = stop _ _ _ (rw (← c.can_pop.ensures) c.if-not-can_pop.true) c.requires.1

pub pop-requires : goal.pop-requires
pop-requires c = rw c.held.ensures (c.requires.0, can-pop (rw (← c.can_pop.ensures) c.if-not-can_pop.false))

pub return_flags-requires : goal.return_flags-requires
return_flags-requires c = rw c.held-in_default.ensures (c.requires.0, can-pop (rw (← c.can_pop.ensures) c.if-not-can_pop.false))

pub returns-in-73 : goal.returns-in-73
returns-in-73 c = rw c.in-73.is (ret _ _ _ _ (rw (← c.can_pop.ensures) c.if-not-can_pop.false) (c.moved_on.ensures ∙ ap (spent 2) (c.pop.ensures ∙ ap popped c.held.ensures)))

pub returns-in_default : goal.returns-in_default
returns-in_default c = rw (first (86 ∷ 73 ∷ []) c.args.row c.requires.1 (search rules)) (rti _ _ _ _ (rw (← c.can_pop.ensures) c.if-not-can_pop.false) (c.moved_on-in_default.ensures ∙ ap (spent 2) (c.return_flags.ensures ∙ ap flags_returned c.held-in_default.ensures)))

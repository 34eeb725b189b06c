-- `row_control::calls::call` meets its contract.
use mathlib.Core.List.{[], ◌∷◌}
use native.Mathlib.Omega.{arith}
use Rattle.laws.proofs.Among.{first}
use Rattle.record.proofs.Range.{can-push}
use borrow.Author.Rules.{rules}
use Rattle.row_control.proofs.Calling.{lcall, scall, stop}
use Rattle.row_control.proofs.calls.call.Goals as goal

pub returns-then-not-can_push : goal.returns-then-not-can_push
returns-then-not-can_push c = stop _ _ _ _ (rw (← c.can_push.ensures) c.if-not-can_push.true) c.requires.2

pub called-requires : goal.called-requires
called-requires c = (c.requires.1, can-push (rw (← c.can_push.ensures) c.if-not-can_push.false), omega arith)

pub called-requires-in_default : goal.called-requires-in_default
called-requires-in_default c = (c.requires.1, can-push (rw (← c.can_push.ensures) c.if-not-can_push.false), omega arith)

pub returns-in-71 : goal.returns-in-71
returns-in-71 c = rw c.in-71.is (lcall _ _ _ _ _ (rw (← c.can_push.ensures) c.if-not-can_push.false) c.called.ensures)

pub returns-in_default : goal.returns-in_default
returns-in_default c = rw (first (72 ∷ 71 ∷ []) c.args.row c.requires.2 (search rules)) (scall _ _ _ _ _ (rw (← c.can_push.ensures) c.if-not-can_push.false) (rw (← c.short_entry.ensures.entry) c.called-in_default.ensures))

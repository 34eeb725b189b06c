-- `image_calls::in_order` meets its contract.
use mathlib.Core.Bool.{true, false}
use mathlib.Core.Path.{sym, ◌∙◌}
use Rattle.image_calls.proofs.Goes.{among_them}
use Rattle.image_calls.proofs.Ordered.{in_order}
use borrow.Author.Rules.{rules}
use Rattle.image_calls.proofs.in_order.Goals as goal

pub returns-then-begins_in_b : goal.returns-then-begins_in_b
returns-then-begins_in_b c = in_order _ (search rules) true (sym c.if-begins_in_b.true ∙ (c.begins_in_b.ensures ∙ among_them c.args.insn.row (search rules)))

pub returns-else-begins_in_b : goal.returns-else-begins_in_b
returns-else-begins_in_b c = in_order _ (search rules) false (sym c.if-begins_in_b.false ∙ (c.begins_in_b.ensures ∙ among_them c.args.insn.row (search rules)))

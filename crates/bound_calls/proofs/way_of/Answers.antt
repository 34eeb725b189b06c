-- `bound_calls::way_of` meets its contract.
use mathlib.Core.Path.{refl, sym, ◌∙◌}
use native.Mathlib.Omega.{arith}
use Rattle.sheet.specs.Table.{lines, line_at}
use Rattle.bound_calls.proofs.Ways.{letters, letter_of, plain-way, to-guarded, to-other-port}
use Rattle.bound_calls.proofs.way_of.Goals as goal

pub overflow_sub-way : goal.overflow_sub-way
unfolding letters line_at lines
overflow_sub-way c = rw (letter_of c.args.i.row c.requires.row) (omega arith)

pub returns-then-way-ne10 : goal.returns-then-way-ne10
unfolding letters line_at lines
returns-then-way-ne10 c = plain-way c.args.d c.args.i c.requires _ refl c.if-way-ne10.true

pub returns-then-is_guarded : goal.returns-then-is_guarded
unfolding letters line_at lines
returns-then-is_guarded c = to-guarded c.args.d c.args.i c.requires _ refl c.if-way-ne10.false (sym c.is_guarded.ensures ∙ c.if-is_guarded.true)

pub returns-else-is_guarded : goal.returns-else-is_guarded
unfolding letters line_at lines
returns-else-is_guarded c = to-other-port c.args.d c.args.i c.requires _ refl c.if-way-ne10.false (sym c.is_guarded.ensures ∙ c.if-is_guarded.false)

-- `sheet::flow::goes_to` meets its contract.
use mathlib.Core.Path.{sym, ap, ◌∙◌}
use mathlib.Core.Logic.{⊎_elim}
use Rattle.std.specs.Prelude.{Some}
use Rattle.sheet.specs.Table.{line_at}
use Rattle.sheet.proofs.flow.Rows.{goes_by_lem, goes_nowhere}
use borrow.Author.Rules.{rules}
use Rattle.sheet.proofs.flow.goes_to.Goals as goal

pub returns-in-47 : goal.returns-in-47
unfolding line_at
returns-in-47 c = sym (goes_by_lem _ _ c.in-47.is)

pub returns-in-48 : goal.returns-in-48
unfolding line_at
returns-in-48 c = sym (goes_by_lem _ _ c.in-48.is)

pub returns-in-49 : goal.returns-in-49
unfolding line_at
returns-in-49 c = ⊎_elim (λ e. sym (goes_by_lem c.args.at c.args.insn e)) (λ e. sym (goes_by_lem c.args.at c.args.insn e)) c.in-49.is

pub returns-in-72 : goal.returns-in-72
unfolding line_at
returns-in-72 c = ap Some c.short_entry.ensures.entry ∙ sym (goes_by_lem _ _ c.in-72.is)

pub returns-in_default : goal.returns-in_default
returns-in_default c = sym (goes_nowhere _ _ (search rules) (search rules))

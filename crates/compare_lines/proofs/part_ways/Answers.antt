-- `compare_lines::part_ways` meets its contract.
use mathlib.Core.Path.{sym, ◌∙◌}
use Rattle.compare_lines.proofs.Hearing.{header-parts, clash-parts, judged-parts}
use Rattle.compare_lines.proofs.part_ways.Goals as goal
use Rattle.compare_lines.proofs.part_ways.Goals.{then-n-eq1-via-then-n-eq1, then-n-eq1-via-else-n-eq1+then-clashes}

pub returns-then-n-eq1-clause-by_index : goal.returns-then-n-eq1-clause-by_index
returns-then-n-eq1-clause-by_index c = λ ours more.
    elim c.then-n-eq1.branch [
      | then-n-eq1-via-then-n-eq1 w ↦ header-parts c.args.n c.requires.0 c.args.at c.requires.1 c.args.rest.now c.requires.2 c.requires.3 ours more w.if-n-eq1.true
      | then-n-eq1-via-else-n-eq1+then-clashes w ↦ clash-parts c.args.n c.requires.0 c.args.at c.requires.1 c.args.rest.now c.requires.2 c.requires.3 ours more (sym w.clashes.ensures ∙ w.if-clashes.true)
    ]

pub returns-clause-by_index : goal.returns-clause-by_index
returns-clause-by_index c = λ ours more. judged-parts c.args.n c.requires.0 c.args.at c.requires.1 c.args.rest.now c.requires.2 c.requires.3 ours more c.if-n-eq1.false (sym c.clashes.ensures ∙ c.if-clashes.false) c.field_after.result c.judge-form.result c.judge.result c.phase_of.result c.field_after.ensures c.judge-form.ensures c.judge.ensures (c.phase_of.ensures.by_index c.args.n c.args.line.now ours more)

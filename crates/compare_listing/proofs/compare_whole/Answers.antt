-- `compare_listing::compare_whole` meets its contract.
use mathlib.Core.Path.{ap, ◌∙◌}
use Rattle.std.specs.Prelude.{Ok}
use Rattle.compare_listing.proofs.Whole.{whole-left, answer-bad, answer-left}
use Rattle.compare_listing.proofs.compare_whole.Goals as goal

pub returns-then-end : goal.returns-then-end
returns-then-end c = whole-left c.go-run.ensures c.last_line-end.ensures ∙ answer-bad _ _ _ _ _ _ c.if-end.true

pub returns : goal.returns
returns c =
    whole-left c.go-run.ensures c.last_line-end.ensures
    ∙ (answer-left _ _ _ _ _ _ c.if-end.false ∙ ap Ok (rw c.as_slice.ensures at c.finish.ensures))

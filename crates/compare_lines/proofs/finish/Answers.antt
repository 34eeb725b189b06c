-- `compare_lines::finish` meets its contract.
use mathlib.Core.Path.{refl, ◌∙◌}
use borrow.Author.Tests.{ltb-true}
use Rattle.compare_lines.proofs.Ending.{rest-same, rest_some, rest_none}
use Rattle.compare_lines.proofs.finish.Goals as goal

pub verdict-requires : goal.verdict-requires
verdict-requires c = (c.hear-heard.ensures.placed, c.requires.2, λ t. c.hear-heard.ensures.all (ltb-true _ _ t))

pub returns : goal.returns
returns c = rest-same c.hear-heard.ensures ∙ c.verdict.ensures c.args.line.now _ c.requires.0 refl (rest_some c.hear-heard.ensures) (rest_none c.hear-heard.ensures)

-- `step_why::why` meets its contract.
use mathlib.Core.Path.{sym, ◌∙◌}
use Rattle.step.proofs.Answering.{seen-by, seen_in_range}
use Rattle.step_why.proofs.why.Goals as goal

pub why_of-requires : goal.why_of-requires
why_of-requires c = (c.in_ok-judged.ensures.1.core, seen_in_range _ _ _ (sym c.frame_of.ensures ∙ seen-by _ (sym c.ok_or.ensures.value ∙ c.in_ok-pins.was)))

-- `step::apart::look` meets its contract.
use mathlib.Core.Path.{sym, ◌∙◌}
use Rattle.step.proofs.Answering.{passes, seen-by}
use Rattle.step.proofs.apart.Answering.{look-made}
use Rattle.step.proofs.apart.look.Goals as goal

pub returns : goal.returns
returns c =
    look-made _ _ _ (c.is_valid.ensures.sound (passes c.is_valid.result c.if-not-is_valid.false)) _ _ (sym c.frame_of.ensures ∙ seen-by _ (sym c.ok_or.ensures.value ∙ c.in_ok-pins.was)) c.look-cycles.ensures

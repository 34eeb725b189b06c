-- `step::step` meets its contract.
use mathlib.Core.Path.{sym, ◌∙◌}
use Rattle.step.proofs.Answering.{seen-by, seen_in_range, step-made}
use Rattle.step.proofs.step.Goals as goal

pub advance-stop-requires : goal.advance-stop-requires
advance-stop-requires c =
    let ok = c.in_ok-judged.ensures in
    (ok.1.core, ok.1.ram, ok.0, seen_in_range _ _ _ (sym c.frame_of.ensures ∙ seen-by _ (sym c.ok_or.ensures.value ∙ c.in_ok-pins.was)))

pub returns : goal.returns
returns c =
    let ok = c.in_ok-judged.ensures in
    step-made _ _ _ _ ok.0 ok.1 _ _ _ (sym c.frame_of.ensures ∙ seen-by _ (sym c.ok_or.ensures.value ∙ c.in_ok-pins.was)) c.advance-stop.ensures

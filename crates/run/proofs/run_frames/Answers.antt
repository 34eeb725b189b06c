-- `run::run_frames` meets its contract.
use mathlib.Core.Path.{sym, ap, ◌∙◌}
use native.Mathlib.Omega.{arith}
use Rattle.device.specs.Device.{in_image}
use Rattle.frame.specs.Frame.{pins_of}
use Rattle.run.proofs.Going.{stopped, completed, whole-piece, starts, is-frame, shows, ended, goes_on, ends-early}
use Rattle.run.proofs.run_frames.Goals as goal

pub loop-frame-init : goal.loop-frame-init
loop-frame-init c =
    let at = c.into_iter-frame-iterator.ensures.into_iter_gives in
    let cut = c.chunks_exact-frame-items.ensures in
    record {
      size = rw at (cut.size ∙ c.frame_size.ensures);
      going = starts _ _ _ _ _ (rw at cut.rest) c.requires.0 c.requires.3;
    }

pub pins_at-pins-requires : goal.pins_at-pins-requires
pins_at-pins-requires c =
    let g = c.loop-frame.invariant in
    let cut = c.in-Some.ensures.steps.1 in
    let whole = cut.1 ∙ g.size in
    (omega (arith, whole), rw (whole-piece _ _ whole) (is-frame _ _ _ _ _ _ _ _ _ g.going _ _ cut.0 whole))

pub advance-x-requires : goal.advance-x-requires
advance-x-requires c =
    let g = c.loop-frame.invariant in
    let cut = c.in-Some.ensures.steps.1 in
    let whole = cut.1 ∙ g.size in
    (g.going.valid.core, g.going.valid.ram, c.requires.1, rw (c.pins_at-pins.ensures, whole-piece _ _ whole) (shows _ _ _ _ _ _ _ _ _ g.going _ _ cut.0 whole))

pub returns-then-is_some : goal.returns-then-is_some
returns-then-is_some c =
    let g = c.loop-frame.invariant in
    let cut = c.in-Some.ensures.steps.1 in
    let whole = cut.1 ∙ g.size in
    let pins = c.pins_at-pins.ensures ∙ ap pins_of (whole-piece _ _ whole) in
    ends-early _ _ _ _ _ _ _ _ _ g.going _ _ cut.0 whole _ _ (rw pins at c.advance-x.ensures) (stopped _ (sym c.is_some.ensures ∙ c.if-is_some.true))

pub loop-frame-preserved : goal.loop-frame-preserved
loop-frame-preserved c =
    let g = c.loop-frame.invariant in
    let next = c.in-Some.ensures.steps in
    let whole = next.1.1 ∙ g.size in
    let pins = c.pins_at-pins.ensures ∙ ap pins_of (whole-piece _ _ whole) in
    record {
      size = next.0 ∙ g.size;
      going =
          goes_on _ _ _ _ _ _ _ _ _ g.going _ _ next.1.0 whole _ _ (rw pins at c.advance-x.ensures) (completed _ (sym c.is_some.ensures ∙ c.if-is_some.false)) (omega arith)
          (λ p3 at. (c.type_inv.image (in_image p3 at)).fits);
    }

pub returns : goal.returns
returns c =
    let g = c.loop-frame.invariant in
    ended _ _ _ _ _ _ _ _ _ g.going (rw (← g.size) c.in-None.ensures.steps.1.0)

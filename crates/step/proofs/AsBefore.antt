-- Where it does not stop, a step of a record without a mark is document 01's own.
use mathlib.Core.Path.{◌≡◌, refl, sym, ap, ◌∙◌}
use mathlib.Core.Bool.{Bool, true, false}
use Prim.Native.Nat.{ℕ}
use borrow.Author.Tests.{eq-eqb}
use Rattle.frame.specs.declared.Pins.{Pins}
use Rattle.record.specs.declared.Machine.{Machine}
use Rattle.row.specs.Rows.{Done, spent}
use Rattle.step_look.specs.Look.{is_running, waited, looked}
use Rattle.step_act.specs.Act.{act_of}
use Rattle.step.specs.Step.{unmarked, step_of}
use Rattle.step.specs.Before.{undone, step_before, StepAsBefore}
use Rattle.device.specs.declared.Options.{Options}
use Rattle.step.proofs.Stepping.{sighted, asleep, step-runs, step_waits}

module _ (rom : ℕ → ℕ → ℕ) (o : Options) (m : Machine) (pins : Pins) (free : m.core.mark ≡ false) where
  before-runs : is_running m.core.mode ≡ true → step_before rom o m pins ≡ undone m (act_of rom o (sighted rom o m pins))
  unfolding step_before looked
  before-runs t = rw (t, free)

  before-waits : is_running m.core.mode ≡ false → step_before rom o m pins ≡ spent (waited o.wake m.core pins).cycles (unmarked (asleep rom o m pins))
  unfolding step_before looked
  before-waits t = rw (t, free)

  as_by : (t : Bool) → is_running m.core.mode ≡ t → (step_of rom o m pins).stop ≡ 0 → step_of rom o m pins ≡ step_before rom o m pins
  as_by true t z =
      let e = step-runs rom o m pins t in
      let done : undone m (act_of rom o (sighted rom o m pins)) ≡ act_of rom o (sighted rom o m pins) =
      rw (eq-eqb (act_of rom o (sighted rom o m pins)).stop 0 (sym (ap (λ (d : Done). d.stop) e) ∙ z)) in
      e ∙ sym (before-runs t ∙ done)
  as_by false t z = step_waits rom o m pins t ∙ sym (before-waits t)

pub step_as_before : StepAsBefore
step_as_before rom o m pins free z = as_by rom o m pins free (is_running m.core.mode) refl z

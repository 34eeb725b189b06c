-- A step of a valid record is valid and leaves no mark; its stop gives the record as the look left it.
use mathlib.Core.Path.{◌≡◌, refl, ap, ◌∙◌}
use mathlib.Core.Bool.{Bool, true, false, not}
use Prim.Native.Nat.{ℕ, ◌<◌}
use Rattle.laws.specs.Choice.{both}
use Rattle.laws.proofs.Choices.{picked_by}
use Rattle.laws.proofs.Computed.{T→true, both_left}
use Rattle.frame.specs.Frame.{PinsInRange}
use Rattle.frame.specs.declared.Pins.{Pins}
use Rattle.record.specs.Valid.{Valid}
use Rattle.record.specs.declared.Machine.{Machine}
use Rattle.record.proofs.WithValid.{with-mark}
use Rattle.row.specs.Rows.{Done, spent, stops}
use Rattle.step_look.specs.Look.{is_running}
use Rattle.step_look.proofs.LookValid.{looked_valid, running_is}
use Rattle.step_act.specs.Act.{act_of}
use Rattle.step_act.proofs.ActValid.{act-valid}
use Rattle.step_act.proofs.Stops.{act-keeps, act-marked}
use Rattle.step.specs.Step.{look_step, unmarked, act_step, step_of}
use Rattle.device.specs.declared.Options.{Options}
use Rattle.step.proofs.Stepping.{sighted, look-runs, step-runs, step_waits}

pub look_valid : (o : Options) (m : Machine) (pins : Pins) → Valid o.device m → PinsInRange o.device pins → Valid o.device (look_step o m pins).machine
unfolding look_step
look_valid o m pins h p = record { core = looked_valid o m.core pins h.core p; ram = h.ram }

pub act_step_valid : (rom : ℕ → ℕ → ℕ) (o : Options) (m : Machine) → Valid o.device m → ((p3 at : ℕ) → rom p3 at < 256) → Valid o.device (act_step rom o m).machine
unfolding act_step
act_step_valid rom o m h bytes =
    let runs = is_running m.core.mode in
    let free = not m.core.mark in
    picked_by (λ (x : Done). Valid o.device x.machine) (both runs free) (act_of rom o m) (spent 0 (unmarked m))
    (λ t. act-valid rom o m h (running_is m.core.mode (T→true runs (both_left runs free t))) bytes) (record { core = with-mark h.core; ram = h.ram })

module _ (rom : ℕ → ℕ → ℕ) (o : Options) (m : Machine) (pins : Pins) where
  pub step-valid : Valid o.device m → PinsInRange o.device pins → ((p3 at : ℕ) → rom p3 at < 256) → Valid o.device (step_of rom o m pins).machine
  unfolding step_of
  step-valid h p bytes = act_step_valid rom o (look_step o m pins).machine (look_valid o m pins h p) bytes

  stop-by : (t : Bool) → is_running m.core.mode ≡ t → ((step_of rom o m pins).stop ≡ 0 → ⊥) → step_of rom o m pins ≡ stops (step_of rom o m pins).stop (look_step o m pins).machine
  stop-by true t z =
      let e = step-runs rom o m pins t in
      rw (look-runs rom o m pins t, e) (act-keeps rom o (sighted rom o m pins) refl (λ q. z (ap (λ (d : Done). d.stop) e ∙ q)))
  stop-by false t z = absurd (z (ap (λ (d : Done). d.stop) (step_waits rom o m pins t)))

  -- "A stop now leaves the record as the first call left it", and spends nothing
  pub stop_leaves : ((step_of rom o m pins).stop ≡ 0 → ⊥) → step_of rom o m pins ≡ stops (step_of rom o m pins).stop (look_step o m pins).machine
  stop_leaves z = stop-by (is_running m.core.mode) refl z

  mark_by : (t : Bool) → is_running m.core.mode ≡ t → (step_of rom o m pins).machine.core.mark ≡ false
  mark_by true t = ap (λ (d : Done). d.machine.core.mark) (step-runs rom o m pins t) ∙ act-marked rom o (sighted rom o m pins)
  mark_by false t = ap (λ (d : Done). d.machine.core.mark) (step_waits rom o m pins t)

  pub step-unmarked : (step_of rom o m pins).machine.core.mark ≡ false
  step-unmarked = mark_by (is_running m.core.mode) refl

-- A step by its two ways: a running record sees the frame and acts, another one only looks.
use mathlib.Core.Path.{◌≡◌, refl, ◌∙◌}
use mathlib.Core.Bool.{true, false}
use mathlib.Core.List.{List}
use Prim.Native.Nat.{ℕ}
use native.Mathlib.Nat.{add-zero, zero-add}
use Rattle.std.specs.Prelude.{None, Result, Ok, Err}
use Rattle.laws.proofs.Choices.{both_false}
use Rattle.numbers.specs.declared.Stop.{Stop}
use Rattle.frame.specs.Frame.{PinsInRange}
use Rattle.frame.specs.declared.Pins.{Pins}
use Rattle.record.specs.Valid.{ValidCore}
use Rattle.record.specs.declared.Core.{Core}
use Rattle.record.specs.declared.Machine.{Machine}
use Rattle.row.specs.Rows.{spent}
use Rattle.record.specs.With.{assembled, core_with_mark}
use Rattle.row.specs.declared.Turn.{Turn}
use Rattle.step_look.specs.Look.{seen, is_running, waited, looked}
use Rattle.step_look.specs.declared.Looked.{Looked}
use Rattle.step_look.proofs.LookValid.{seen_valid, running_is, waited_marked}
use Rattle.step_act.specs.Act.{act_of}
use Rattle.step_act.specs.Runs.{Runs}
use Rattle.step.specs.Step.{look_step, unmarked, act_step, step_of}
use Rattle.step.specs.Advance.{acted, done_by, Advances}
use Rattle.row.specs.Turns.{done_as, Gives}
use Rattle.device.specs.declared.Device.{Device}
use Rattle.device.specs.declared.Options.{Options}

-- what a running record sees is valid and running
pub seen_runs : (d : Device) (m : Core) (pins : Pins) (core : Core) → core ≡ seen d m pins → is_running m.mode ≡ true → ValidCore d m → PinsInRange d pins → Runs d core
seen_runs d m pins core s r v p = record { valid = rw s (seen_valid d m pins v p); running = rw s (running_is m.mode r) }

-- the second call acts on a running record without a mark, and passes any other by
module _ (rom : ℕ → ℕ → ℕ) (o : Options) (m : Machine) where
  pub act-runs : is_running m.core.mode ≡ true → m.core.mark ≡ false → act_step rom o m ≡ act_of rom o m
  unfolding act_step
  act-runs t f = rw (t, f)

  pub act-waits : is_running m.core.mode ≡ false → act_step rom o m ≡ spent 0 (unmarked m)
  unfolding act_step
  act-waits t = rw t

  pub act-passes : m.core.mark ≡ true → act_step rom o m ≡ spent 0 (unmarked m)
  unfolding act_step
  act-passes k = rw (k, both_false (is_running m.core.mode))

module _ (rom : ℕ → ℕ → ℕ) (o : Options) (m : Machine) (pins : Pins) where
  -- the record, having seen the frame; and having waited
  abbrev pub sighted : Machine
  sighted = assembled (seen o.device m.core pins) m.ram

  abbrev pub asleep : Machine
  asleep = assembled (waited o.wake m.core pins).core m.ram

  pub look-runs : is_running m.core.mode ≡ true → look_step o m pins ≡ spent 0 sighted
  unfolding look_step looked
  look-runs t = rw t

  look-waits : is_running m.core.mode ≡ false → look_step o m pins ≡ spent (waited o.wake m.core pins).cycles asleep
  unfolding look_step looked
  look-waits t = rw t

  pub step-runs : is_running m.core.mode ≡ true → step_of rom o m pins ≡ act_of rom o sighted
  unfolding step_of
  step-runs t = rw (look-runs t, act-runs rom o sighted t refl, zero-add (act_of rom o sighted).cycles)

  pub step_waits : is_running m.core.mode ≡ false → step_of rom o m pins ≡ spent (waited o.wake m.core pins).cycles (unmarked asleep)
  unfolding step_of
  step_waits t = rw (look-waits t, act-passes rom o asleep (waited_marked o.wake m.core pins), add-zero (waited o.wake m.core pins).cycles)

-- what acting gave, the scalars that it was given among it, is what the step gives
pub acted-done : (m : Core) (k : List ℕ) (x : Result Turn Stop) → done_by (acted m x) k ≡ done_as m x k
acted-done m k (Ok x) = refl
acted-done m k (Err s) = refl

module _ (rom : ℕ → ℕ → ℕ) (o : Options) (m : Core) (l : List ℕ) (pins : Pins) where
  pub waits : (v : Looked) → v ≡ waited o.wake m pins → is_running m.mode ≡ false → Advances (step_of rom o (assembled m l) pins) l (record { stop = None; cycles = v.cycles; core = core_with_mark v.core false })
  waits v e t = record { same = rw (step_waits rom o (assembled m l) pins t, ← e) }

  pub runs : (core : Core) → core ≡ seen o.device m pins → is_running m.mode ≡ true → (k : List ℕ) (x : Result Turn Stop) → Gives (act_of rom o (assembled core l)) core k x → Advances (step_of rom o (assembled m l) pins) k (acted core x)
  runs core e t k x g = record { same = rw (step-runs rom o (assembled m l) pins t, ← e) (acted-done core k x ∙ g.same) }

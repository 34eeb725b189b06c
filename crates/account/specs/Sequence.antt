-- Request Q-14: "any sequence of steps", over the definition of a step. A reset is a call of its own and no step, so that none comes in between.
use Rattle.std.specs.Prelude.{ℕ, ◌+◌, List, [], ◌∷◌, ◌≡◌}
use Rattle.device.specs.declared.Options.{Options}
use Rattle.frame.specs.declared.Pins.{Pins}
use Rattle.record.specs.declared.Machine.{Machine}
use Rattle.row.specs.Rows.{Done}
use Rattle.step.specs.Step.{step_of}

-- what a step is given besides the record: the ROM, the options with the device, and the frame. Each step may have its own
pub record StepInput : Type 0 where
  pub rom : ℕ → ℕ → ℕ
  pub options : Options
  pub pins : Pins

abbrev pub step_by : Machine → StepInput → Done
step_by m g = step_of g.rom g.options m g.pins

-- the record at the end
abbrev pub record_after : Machine → List StepInput → Machine
record_after m [] = m
record_after m (g ∷ gs) = record_after (step_by m g).machine gs

-- "the cycles spent": a step that stops spends none
abbrev pub cycles_spent : Machine → List StepInput → ℕ
cycles_spent m [] = 0
cycles_spent m (g ∷ gs) = (step_by m g).cycles + cycles_spent (step_by m g).machine gs

-- something holds of each step, and of the record that it starts from
abbrev pub EachStep : (Machine → StepInput → Type 0) → Machine → List StepInput → Type 0
EachStep P m [] = Unit
EachStep P m (g ∷ gs) = P m g × EachStep P (step_by m g).machine gs

-- "sleep and hold are not entered or left"
abbrev pub KeepsMode : Machine → StepInput → Type 0
KeepsMode m g = (step_by m g).machine.core.mode ≡ m.core.mode

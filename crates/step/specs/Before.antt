-- Document 01's own step, from before request Q-4, and what is left of it: "where no step stops their answers are those of before".
use Rattle.std.specs.Prelude.{ℕ, false, ◌≡◌, eqb}
use Rattle.laws.specs.Choice.{pick}
use Rattle.frame.specs.declared.Pins.{Pins}
use Rattle.record.specs.With.{assembled, core_with_mark}
use Rattle.record.specs.declared.Machine.{Machine}
use Rattle.row.specs.Rows.{Done, spent, stops}
use Rattle.step_look.specs.Look.{is_running, looked}
use Rattle.step_look.specs.declared.Looked.{Looked}
use Rattle.step_act.specs.Act.{act_of}
use Rattle.step.specs.Step.{step_of}
use Rattle.device.specs.declared.Options.{Options}

-- "A stop gives the record from before that step, last frame included, and zero cycles for it."
abbrev pub undone : Machine → Done → Done
undone m x = pick (eqb x.stop 0) x (stops x.stop m)

-- the record m has seen the frame: in sleep or hold that was all. There was no mark then: the one that the record has stays
abbrev pub gone_on : (ℕ → ℕ → ℕ) → Options → Machine → Looked → Done
gone_on rom o m l =
    let seen : Machine = assembled (core_with_mark l.core m.core.mark) m.ram in
    pick (is_running m.core.mode) (undone m (act_of rom o seen)) (spent l.cycles seen)

unfoldable pub step_before : (ℕ → ℕ → ℕ) → Options → Machine → Pins → Done
step_before rom o m pins = gone_on rom o m (looked o m.core pins)

-- of a record without a mark
abbrev pub StepAsBefore : Type 0
StepAsBefore =
    (rom : ℕ → ℕ → ℕ) (o : Options) (m : Machine) (pins : Pins) → m.core.mark ≡ false → (step_of rom o m pins).stop ≡ 0
    → step_of rom o m pins ≡ step_before rom o m pins

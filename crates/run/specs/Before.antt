-- Document 01's own run, over its own step: at a stop it gave the record from before that step. Request Q-4: "where no step stops their answers are those of before".
use Rattle.std.specs.Prelude.{ℕ, suc, ◌+◌, false, List, [], ◌∷◌, ◌≡◌, eqb}
use Rattle.laws.specs.Choice.{pick}
use Rattle.frame.specs.declared.Pins.{Pins}
use Rattle.record.specs.declared.Machine.{Machine}
use Rattle.step.specs.Before.{step_before}
use Rattle.device.specs.declared.Options.{Options}
use Rattle.run.specs.Run.{RunPaper, run_of}

abbrev pub run_over_before : (ℕ → ℕ → ℕ) → Options → List Pins → ℕ → ℕ → Machine → RunPaper
run_over_before rom o [] steps cycles m = record { number = 0; steps = steps; cycles = cycles; machine = m }
run_over_before rom o (pins ∷ others) steps cycles m =
    pick (eqb (step_before rom o m pins).stop 0)
    (run_over_before rom o others (suc steps) (cycles + (step_before rom o m pins).cycles) (step_before rom o m pins).machine)
    (record { number = (step_before rom o m pins).stop; steps = steps; cycles = cycles; machine = m })

unfoldable pub run_before : (ℕ → ℕ → ℕ) → Options → Machine → List Pins → RunPaper
run_before rom o m frames = run_over_before rom o frames 0 0 m

-- of a record without a mark, where no step stops
abbrev pub RunAsBefore : Type 0
RunAsBefore =
    (rom : ℕ → ℕ → ℕ) (o : Options) (m : Machine) (frames : List Pins) → m.core.mark ≡ false → (run_of rom o m frames).number ≡ 0
    → run_of rom o m frames ≡ run_before rom o m frames

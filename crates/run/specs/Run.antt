-- Document 01, "What comes back": a run "makes one step a frame, and ends early at a stop; it returns the record, steps completed, cycles spent and the stop, 0 if none".
use Rattle.std.specs.Prelude.{ℕ, suc, ◌+◌, List, [], ◌∷◌, eqb}
use Rattle.laws.specs.Choice.{pick}
use Rattle.frame.specs.declared.Pins.{Pins}
use Rattle.record.specs.declared.Machine.{Machine}
use Rattle.step.specs.Step.{step_of}
use Rattle.device.specs.declared.Options.{Options}

-- what comes back of a run: document 01's number, a refusal's or a stop's or 0; the steps completed, the cycles spent and the record
pub record RunPaper : Type 0 where
  pub number : ℕ
  pub steps : ℕ
  pub cycles : ℕ
  pub machine : Machine

-- the record m has made these steps and spent these cycles, and has these frames before it. "A stop now leaves the record as the first call left it" (Q-4), so the run ends with what its last step gives
abbrev pub run_over : (ℕ → ℕ → ℕ) → Options → List Pins → ℕ → ℕ → Machine → RunPaper
run_over rom o [] steps cycles m = record { number = 0; steps = steps; cycles = cycles; machine = m }
run_over rom o (pins ∷ others) steps cycles m =
    pick (eqb (step_of rom o m pins).stop 0)
    (run_over rom o others (suc steps) (cycles + (step_of rom o m pins).cycles) (step_of rom o m pins).machine)
    (record { number = (step_of rom o m pins).stop; steps = steps; cycles = cycles; machine = (step_of rom o m pins).machine })

unfoldable pub run_of : (ℕ → ℕ → ℕ) → Options → Machine → List Pins → RunPaper
run_of rom o m frames = run_over rom o frames 0 0 m

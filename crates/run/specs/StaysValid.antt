-- Request Q-11: "Frames, instructions, acceptance, timers, waking and reset all keep it true, on both devices." The stored source is part of a valid record (record/specs/Valid.antt, `due`), and
-- what every call on a record gives back, where it refuses nothing, is valid.
use Rattle.std.specs.Prelude.{ℕ, ◌≤◌, List, Result, Ok, ◌⊎◌, ◌≡◌}
use Rattle.numbers.specs.declared.Refusal.{Refusal}
use Rattle.device.specs.Device.{OfBytes}
use Rattle.device.specs.declared.Device.{Device}
use Rattle.device.specs.declared.Options.{Options}
use Rattle.record.specs.Valid.{Valid}
use Rattle.record.specs.declared.Machine.{Machine}
use Rattle.record.specs.Start.{fresh_machine, ResetOf}
use Rattle.step.specs.Answers.{StepPaper, StepOf}
use Rattle.step.specs.Apart.{LookOf, ActOf}
use Rattle.run.specs.Answers.{RunOf}
use Rattle.run.specs.Run.{RunPaper}

-- the number is no refusal's: 0, or a stop's, which are 30 and over
abbrev pub NoRefusal : ℕ → Type 0
NoRefusal number = (number ≡ 0) ⊎ (30 ≤ number)

-- of any answers that conform, on either device
pub record StaysValid : Type 0 where
  pub fresh : (d : Device) → Valid d (fresh_machine d)
  pub reset : (d : Device) (m : Machine) (r : Result Machine Refusal) → ResetOf d m r → (after : Machine) → r ≡ Ok after → Valid d after
  pub look : (o : Options) (m : Machine) (frame : List ℕ) (r : StepPaper) → LookOf o m frame r → NoRefusal r.number → Valid o.device r.machine
  pub act : (image : List ℕ) (o : Options) (m : Machine) (r : StepPaper) → OfBytes image → ActOf image o m r → NoRefusal r.number → Valid o.device r.machine
  pub step : (image : List ℕ) (o : Options) (m : Machine) (frame : List ℕ) (r : StepPaper) → OfBytes image → StepOf image o m frame r → NoRefusal r.number → Valid o.device r.machine
  pub run : (image : List ℕ) (o : Options) (m : Machine) (frames : List ℕ) (r : RunPaper) → OfBytes image → RunOf image o m frames r → NoRefusal r.number → Valid o.device r.machine

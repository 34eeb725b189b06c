-- Demand 3 (docs/PROMISES.md): "Every emulated run from there (running, SF set, EI clear, frames enough) reaches the return or a named stop having spent at most N, for any pins." One statement for both devices.
use Rattle.std.specs.Prelude.{◌≡◌, ◌⊎◌, true, false, List, [], ◌∷◌, ◌++◌, ℕ, suc, ◌+◌, ◌*◌, ◌≤◌, ◌<◌, length, take, Ok, Some}
use Rattle.numbers.specs.Sizes.{addresses}
use Rattle.device.specs.Device.{frame_size, rom_of}
use Rattle.device.specs.declared.Device.{Device}
use Rattle.sheet.specs.Operation.Operation.{return_flag}
use Rattle.sheet.specs.Table.{line_at}
use Rattle.sheet.specs.Reading.{read_at}
use Rattle.sheet.specs.declared.Insn.{Insn}
use Rattle.frame.specs.Frame.{frame_at, PinsInRange}
use Rattle.frame.specs.declared.Pins.{Pins}
use Rattle.ports.specs.declared.Mode.TheVariants.{Running}
use Rattle.record.specs.Valid.{Valid}
use Rattle.record.specs.declared.Machine.{Machine}
use Rattle.step_act.specs.Act.{shown}
use Rattle.step.specs.Step.{step_of}
use Rattle.device.specs.declared.Options.{Options}
use Rattle.run.specs.Run.{RunPaper, run_of}
use Rattle.run.specs.Answers.{RunOf}
use Rattle.bound_flow.specs.Bound.{HasBound}

-- a record at the start of a handler: "running, SF set, EI clear". Q-6: "demand 3 there speaks of runs whose record starts with that P3"
pub record Enters (d : Device) (m : Machine) (p3 start : ℕ) : Type 0 where
  pub valid : Valid d m
  pub at : m.core.pc ≡ start
  pub bank : m.core.ports.p3 ≡ p3
  pub running : m.core.mode ≡ Running
  pub sf : m.core.regs.sf ≡ true
  pub ei : m.core.ints.ei ≡ false

-- the step executes the row RTI: it runs, accepts nothing since EI is clear, and does not stop
pub record Returns (rom : ℕ → ℕ → ℕ) (o : Options) (m : Machine) (pins : Pins) : Type 0 where
  pub running : m.core.mode ≡ Running
  pub accepts_nothing : m.core.ints.ei ≡ false
  pub insn : Insn
  pub read : read_at (shown rom m) m.core.pc ≡ Ok insn
  pub is_rti : (line_at insn.row).operation ≡ return_flag
  pub completes : (step_of rom o m pins).stop ≡ 0

-- "the return or a named stop"
pub data Ends (rom : ℕ → ℕ → ℕ) (o : Options) (m : Machine) (pins : Pins) : Type 0 where
  returns : Returns rom o m pins → Ends rom o m pins
  stops : 31 ≤ (step_of rom o m pins).stop → (step_of rom o m pins).stop ≤ 34 → Ends rom o m pins

-- the frames are before, last and after: the steps of before complete, the step of last ends the handler; these steps are at most N and spend at most N cycles
pub record EndsWithin (rom : ℕ → ℕ → ℕ) (o : Options) (m : Machine) (frames : List Pins) (N : ℕ) : Type 0 where
  pub before : List Pins
  pub last : Pins
  pub after : List Pins
  pub parts : frames ≡ before ++ (last ∷ after)
  pub steps : suc (length before) ≤ N
  pub completes : (run_of rom o m before).number ≡ 0
  pub ends : Ends rom o (run_of rom o m before).machine last
  pub cycles : (run_of rom o m before).cycles + (step_of rom o (run_of rom o m before).machine last).cycles ≤ N

-- "for any pins": any that the device's frames can have
abbrev pub AllInRange : Device → List Pins → Type 0
AllInRange d [] = Unit
AllInRange d (pins ∷ others) = PinsInRange d pins × AllInRange d others

-- "frames enough" means N frames or more, one a step
abbrev pub Demand3 : Type 0
Demand3 =
    (rom : ℕ → ℕ → ℕ) → ((p3 at : ℕ) → rom p3 at < 256) → (o : Options) (p3 start N : ℕ) → start < addresses → (path : List ℕ) → HasBound o.device (rom p3) start N path
    → (m : Machine) → Enters o.device m p3 start
    → (frames : List Pins) → AllInRange o.device frames → N ≤ length frames
    → EndsWithin rom o m frames N

-- the call run answers q to the frames before a handler's last step and r to those with its frame, the last: the step executes RTI, or it is a named stop
pub record RunEnds (rom : ℕ → ℕ → ℕ) (o : Options) (last : Pins) (before N : ℕ) (q r : RunPaper) : Type 0 where
  pub completes : q.number ≡ 0
  pub cycles : r.cycles ≤ N
  pub ends : ((r.number ≡ 0) × (r.steps ≡ suc before) × Returns rom o q.machine last) ⊎ ((31 ≤ r.number) × (r.number ≤ 34))

-- the last frame stands in the buffer behind so many others, and any answers of the call that conform end so
pub record RunEndsWithin (image : List ℕ) (o : Options) (m : Machine) (frames : List ℕ) (N : ℕ) : Type 0 where
  pub before : ℕ
  pub steps : suc before ≤ N
  pub last : Pins
  pub shown : frame_at o.device frames (frame_size o.device * before) ≡ Some last
  pub answers : (q r : RunPaper) → RunOf image o m (take (frame_size o.device * before) frames) q → RunOf image o m (take (frame_size o.device * suc before) frames) r → RunEnds (rom_of image) o last before N q r

-- COUNTS.md, "What N promises". "Runs are those of demand 3 (running, SF set, EI clear, stack spared)." One statement for both devices.
use Rattle.std.specs.Prelude.{◌≡◌, Bool, false, List, [], ◌∷◌, ◌++◌, ℕ, suc, ◌+◌, ◌≤◌, ◌<◌, length, Ok}
use Rattle.numbers.specs.Sizes.{addresses}
use Rattle.device.specs.declared.Options.{Options}
use Rattle.sheet.specs.Operation.{Operation}
use Rattle.sheet.specs.Table.{line_at}
use Rattle.sheet.specs.Reading.{read_at}
use Rattle.sheet.specs.declared.Insn.{Insn}
use Rattle.frame.specs.declared.Pins.{Pins}
use Rattle.ports.specs.declared.Mode.TheVariants.{Running}
use Rattle.record.specs.declared.Machine.{Machine}
use Rattle.step_act.specs.Act.{shown}
use Rattle.step.specs.Step.{step_of}
use Rattle.run.specs.Run.{run_of}
use Rattle.routines.specs.Answer.{Judged}
use Rattle.counts.specs.Counts.{Count, Numbers, none, used, Fits}
use Rattle.counts.specs.CountedAnswer.{Settled, HasCountedBound}
use Rattle.bound_flow.specs.Flow.{address_of}
use Rattle.bound_runs.specs.Handler.{Enters, Returns, Ends, AllInRange}
use Rattle.bound_calls.specs.CallFlow.{call_flow, call_cycles}
use Rattle.bound_calls_runs.specs.CallHandler.{ExecutesCall, SparesStack}

-- the step executes RET: it runs, accepts nothing since EI is clear, and does not stop
pub record ExecutesRet (rom : ℕ → ℕ → ℕ) (o : Options) (m : Machine) (pins : Pins) : Type 0 where
  pub running : m.core.mode ≡ Running
  pub accepts_nothing : m.core.ints.ei ≡ false
  pub insn : Insn
  pub read : read_at (shown rom m) m.core.pc ≡ Ok insn
  pub is_ret : (line_at insn.row).operation ≡ Operation.return
  pub completes : (step_of rom o m pins).stop ≡ 0

-- a row's address, as a place of its own
abbrev pub itself : ℕ → ℕ
itself a = a

-- where the step leads
abbrev pub pc_after : (ℕ → ℕ → ℕ) → Options → Machine → Pins → ℕ
pc_after rom o m pins = (step_of rom o m pins).machine.core.pc

-- "A run keeps the counts while no activation begun in it has executed a counted row more often than its k.": u are the numbers of the activation, with the row at PC, and us those of the open callers.
-- "The outer handler is one; each call starts a new one, also of a routine that was called before. It ends with its RTI or RET."
pub data Keeps (rom : ℕ → ℕ → ℕ) (o : Options) (C : List Count) : List Numbers → Numbers → Machine → List Pins → Type 0 where
  no_frame : {us : List Numbers} {u : Numbers} {m : Machine} → Keeps rom o C us u m []
  ends : {us : List Numbers} {u : Numbers} {m : Machine} {pins : Pins} {others : List Pins} → Ends rom o m pins → Keeps rom o C us u m (pins ∷ others)
  goes_on : {us : List Numbers} {u : Numbers} {m : Machine} {pins : Pins} {others : List Pins} → (ExecutesCall rom o m pins → ⊥) → (ExecutesRet rom o m pins → ⊥) → Fits itself C u (pc_after rom o m pins)
      → Keeps rom o C us (used itself u (pc_after rom o m pins)) (step_of rom o m pins).machine others → Keeps rom o C us u m (pins ∷ others)
  calls : {us : List Numbers} {u : Numbers} {m : Machine} {pins : Pins} {others : List Pins} → ExecutesCall rom o m pins
      → Keeps rom o C (u ∷ us) (used itself none (pc_after rom o m pins)) (step_of rom o m pins).machine others → Keeps rom o C us u m (pins ∷ others)
  comes_back : {us : List Numbers} {u t : Numbers} {m : Machine} {pins : Pins} {others : List Pins} → ExecutesRet rom o m pins → Fits itself C t (pc_after rom o m pins)
      → Keeps rom o C us (used itself t (pc_after rom o m pins)) (step_of rom o m pins).machine others → Keeps rom o C (t ∷ us) u m (pins ∷ others)

abbrev pub KeepsCounts : (ℕ → ℕ → ℕ) → Options → List Count → Machine → List Pins → Type 0
KeepsCounts rom o C m frames = Keeps rom o C [] (used itself none m.core.pc) m frames

-- no step of these ends the handler
abbrev pub NoneEnds : (ℕ → ℕ → ℕ) → Options → Machine → List Pins → Type 0
NoneEnds rom o m [] = Unit
NoneEnds rom o m (pins ∷ others) = (Ends rom o m pins → ⊥) × NoneEnds rom o (step_of rom o m pins).machine others

-- the frames are before, last and after: the steps of before complete, that of last ends the handler, in at most so many steps; "a run that returns .. has spent at most N"
pub record EndsKept (rom : ℕ → ℕ → ℕ) (o : Options) (m : Machine) (frames : List Pins) (most N : ℕ) : Type 0 where
  pub before : List Pins
  pub last : Pins
  pub after : List Pins
  pub parts : frames ≡ before ++ (last ∷ after)
  pub steps : suc (length before) ≤ most
  pub completes : (run_of rom o m before).number ≡ 0
  pub ends : Ends rom o (run_of rom o m before).machine last
  pub own : Returns rom o (run_of rom o m before).machine last → (run_of rom o m before).machine.core.ptrs.sp ≡ m.core.ptrs.sp
  pub cycles : Returns rom o (run_of rom o m before).machine last → (run_of rom o m before).cycles + (step_of rom o (run_of rom o m before).machine last).cycles ≤ N

pub record CountedPromise (rom : ℕ → ℕ → ℕ) (o : Options) (p3 start : ℕ) (C : List Count) (N : ℕ) : Type 0 where
  -- 1. "A run that returns, and has kept the counts up to then, has spent at most N."
  pub returns : (m : Machine) → Enters o.device m p3 start → (before : List Pins) (last : Pins) → AllInRange o.device (before ++ (last ∷ [])) → SparesStack rom o m.core.ptrs.sp m (before ++ (last ∷ []))
      → KeepsCounts rom o C m (before ++ (last ∷ [])) → NoneEnds rom o m before → (run_of rom o m before).number ≡ 0 → Returns rom o (run_of rom o m before).machine last
      → (run_of rom o m before).cycles + (step_of rom o (run_of rom o m before).machine last).cycles ≤ N
  -- 2. "There is a number of steps, of image and counts alone, within which every run has returned, stopped or exceeded a count."
  -- 3. "a run that keeps the counts, does not stop and has frames enough returns having spent at most N. Enough is the number of 2"
  pub most_steps : ℕ
  pub ends : (m : Machine) → Enters o.device m p3 start → (frames : List Pins) → AllInRange o.device frames → SparesStack rom o m.core.ptrs.sp m frames → KeepsCounts rom o C m frames
      → most_steps ≤ length frames → EndsKept rom o m frames most_steps N

abbrev pub Demand3Counted : Type 0
Demand3Counted =
    (rom : ℕ → ℕ → ℕ) → ((p3 at : ℕ) → rom p3 at < 256) → (o : Options) (p3 start : ℕ) → start < addresses
    → (K : ℕ → Bool) (C : List Count) (N depth : ℕ) (path deep : List ℕ) → Judged (call_flow o.device (rom p3) start) K → Settled (call_flow o.device (rom p3) start) K address_of C
    → HasCountedBound (call_flow o.device (rom p3) start) (call_cycles o.device (rom p3)) K address_of C N depth path deep
    → CountedPromise rom o p3 start C N

-- Request Q-9, demand 3 of handlers that call: "The statement about emulated runs then holds for runs in which no instruction but a call stores into a stack level from SP at that time (included) up to the SP at the start (not included)." One statement for both devices.
use Rattle.std.specs.Prelude.{◌≡◌, Bool, true, false, List, [], ◌∷◌, ℕ, ◌+◌, ◌*◌, ◌≤◌, ◌<◌, length, take, get_or, Ok}
use Rattle.numbers.specs.Sizes.{addresses}
use Rattle.numbers.specs.ComesBack.{answered}
use Rattle.device.specs.Device.{frame_size, rom_of}
use Rattle.device.specs.declared.Device.{Device}
use Rattle.device.specs.declared.Options.{Options}
use Rattle.sheet.specs.Operation.{Entry, Operation}
use Rattle.sheet.specs.Table.{line_at}
use Rattle.sheet.specs.Reading.{read_at}
use Rattle.sheet.specs.declared.Insn.{Insn}
use Rattle.frame.specs.Frame.{are_frames, frames_of}
use Rattle.frame.specs.declared.Pins.{Pins}
use Rattle.ports.specs.declared.Mode.TheVariants.{Running}
use Rattle.record.specs.Stack.{level}
use Rattle.record.specs.declared.Machine.{Machine}
use Rattle.step_act.specs.Act.{shown}
use Rattle.step.specs.Step.{step_of}
use Rattle.run.specs.Run.{RunPaper, run_of}
use Rattle.run.specs.Answers.{RunOf, most_frames}
use Rattle.routines.specs.Answer.{Judged, HasBound}
use Rattle.bound_calls.specs.CallFlow.{call_flow, call_cycles}
use Rattle.bound_calls.specs.CallAnswer.{CallAnswer}
use Rattle.bound_runs.specs.Handler.{Enters, Returns, Ends, EndsWithin, AllInRange, RunEndsWithin}

-- the step executes a call: it runs, accepts nothing since EI is clear, and does not stop
pub record ExecutesCall (rom : ℕ → ℕ → ℕ) (o : Options) (m : Machine) (pins : Pins) : Type 0 where
  pub running : m.core.mode ≡ Running
  pub accepts_nothing : m.core.ints.ei ≡ false
  pub insn : Insn
  pub entry : Entry
  pub read : read_at (shown rom m) m.core.pc ≡ Ok insn
  pub is_call : (line_at insn.row).operation ≡ Operation.call entry
  pub completes : (step_of rom o m pins).stop ≡ 0

-- the four nibbles of each level "from SP at that time (included) up to the SP at the start (not included)" hold in n what they held in m. A step that stores into none of them leaves them so
abbrev pub LevelsKept : ℕ → Machine → Machine → Type 0
LevelsKept start m n = (i k : ℕ) → m.core.ptrs.sp ≤ i → i < start → k < 4 → get_or n.ram (level i + k) 0 ≡ get_or m.ram (level i + k) 0

-- "runs in which no instruction but a call stores into" one, up to the step that ends the handler
abbrev pub SparesStack : (ℕ → ℕ → ℕ) → Options → ℕ → Machine → List Pins → Type 0
SparesStack rom o start m [] = Unit
SparesStack rom o start m (pins ∷ others) =
    (Ends rom o m pins → ⊥)
    → ((ExecutesCall rom o m pins → ⊥) → LevelsKept start m (step_of rom o m pins).machine) × SparesStack rom o start (step_of rom o m pins).machine others

-- the run ends so, and "the return" is the handler's own: where RTI is executed, SP is what it was at the start
pub record ReturnsWithin (rom : ℕ → ℕ → ℕ) (o : Options) (m : Machine) (frames : List Pins) (N : ℕ) : Type 0 where
  pub ends : EndsWithin rom o m frames N
  pub own : Returns rom o (run_of rom o m ends.before).machine ends.last → (run_of rom o m ends.before).machine.core.ptrs.sp ≡ m.core.ptrs.sp

-- "Every emulated run from there (running, SF set, EI clear, frames enough) reaches the return or a named stop having spent at most N, for any pins."
abbrev pub Demand3WithCalls : Type 0
Demand3WithCalls =
    (rom : ℕ → ℕ → ℕ) → ((p3 at : ℕ) → rom p3 at < 256) → (o : Options) (p3 start : ℕ) → start < addresses
    → (K : ℕ → Bool) (N depth : ℕ) (path deep : List ℕ) → Judged (call_flow o.device (rom p3) start) K
    → HasBound (call_flow o.device (rom p3) start) (call_cycles o.device (rom p3)) K N depth path deep
    → (m : Machine) → Enters o.device m p3 start
    → (frames : List Pins) → AllInRange o.device frames → N ≤ length frames → SparesStack rom o m.core.ptrs.sp m frames
    → ReturnsWithin rom o m frames N

-- where the depth is 0 no call is open, and nothing is asked of the stack: document 01's demand 3, of every run
abbrev pub Demand3AtDepth0 : Type 0
Demand3AtDepth0 =
    (rom : ℕ → ℕ → ℕ) → ((p3 at : ℕ) → rom p3 at < 256) → (o : Options) (p3 start : ℕ) → start < addresses
    → (K : ℕ → Bool) (N : ℕ) (path deep : List ℕ) → Judged (call_flow o.device (rom p3) start) K
    → HasBound (call_flow o.device (rom p3) start) (call_cycles o.device (rom p3)) K N 0 path deep
    → (m : Machine) → Enters o.device m p3 start
    → (frames : List Pins) → AllInRange o.device frames → N ≤ length frames
    → ReturnsWithin rom o m frames N

-- a buffer of frames that the call run does not refuse, and "frames enough": N or more
pub record Enough (d : Device) (frames : List ℕ) (N : ℕ) : Type 0 where
  pub good : are_frames d frames ≡ true
  pub few : length frames ≤ most_frames * frame_size d
  pub many : N ≤ length (frames_of d frames)

-- any answers of the call run that conform end so, and where RTI is executed SP is what it was at the start
pub record RunReturnsWithin (image : List ℕ) (o : Options) (m : Machine) (frames : List ℕ) (N : ℕ) : Type 0 where
  pub ends : RunEndsWithin image o m frames N
  pub own : (q : RunPaper) → RunOf image o m (take (frame_size o.device * ends.before) frames) q → Returns (rom_of image) o q.machine ends.last → q.machine.core.ptrs.sp ≡ m.core.ptrs.sp

-- the same of the answers: the bound answers N with a depth, P3 being that which the device looks at (reader/specs/Answer.antt, `p3_given`), and the call run is given such a buffer
abbrev pub Demand3OfCalls : Type 0
Demand3OfCalls =
    (image : List ℕ) → ((p3 at : ℕ) → rom_of image p3 at < 256) → (o : Options) (p3 start N depth : ℕ) (path path' deep deep' : List ℕ)
    → CallAnswer o.device image p3 start path path' deep deep' (answered (N ∷ depth ∷ []))
    → (m : Machine) → Enters o.device m p3 start
    → (frames : List ℕ) → Enough o.device frames N → SparesStack (rom_of image) o m.core.ptrs.sp m (frames_of o.device frames)
    → RunReturnsWithin image o m frames N

-- and where it answers N with depth 0, of every run
abbrev pub Demand3OfAnswersAtDepth0 : Type 0
Demand3OfAnswersAtDepth0 =
    (image : List ℕ) → ((p3 at : ℕ) → rom_of image p3 at < 256) → (o : Options) (p3 start N : ℕ) (path path' deep deep' : List ℕ)
    → CallAnswer o.device image p3 start path path' deep deep' (answered (N ∷ 0 ∷ []))
    → (m : Machine) → Enters o.device m p3 start
    → (frames : List ℕ) → Enough o.device frames N
    → RunReturnsWithin image o m frames N

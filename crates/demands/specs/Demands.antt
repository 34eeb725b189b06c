-- The three demands (docs/PROMISES.md) of what the public calls answer, on either device: the page to read first. Each line cites the definitions that say it, and proofs/Proved.antt proves each.
-- A call has the name of include/em73862.h, without the device. That it ends, whatever is handed in, is shown of each exported function: none has a `requires`.
use Rattle.std.specs.Prelude.{ℕ, List, ◌≡◌, length, Some}
use Rattle.device.specs.Device.{image_size, rom_of}
use Rattle.device.specs.declared.Device.{Device}
use Rattle.device.specs.declared.Options.{Options}
use Rattle.frame.specs.Frame.{frame_of}
use Rattle.frame.specs.declared.Pins.{Pins}
use Rattle.record.specs.Valid.{Valid}
use Rattle.record.specs.declared.Machine.{Machine}
use Rattle.record_bytes.specs.Layout.{record_bytes, Holds}
use Rattle.step.specs.Step.{look_step, step_of}
use Rattle.run.specs.StaysValid.{StaysValid}
use Rattle.writer.specs.RoundTrips.{ReadThenWritten, WrittenThenRead, CutShort}
use Rattle.bound_calls.specs.CallAnswer.{OneAnswerWithCalls}
use Rattle.bound_calls.specs.OldAnswer.{OldAnswerStands}
use Rattle.bound_calls_runs.specs.CallHandler.{Demand3OfCalls, Demand3OfAnswersAtDepth0}
use Rattle.image_calls.specs.Pane.{BoundCall}
use Rattle.record_calls.specs.Calls.{ResetCall, StepCall, DisplayCall}

-- what a step leaves of the record's bytes where its number is not 0: of a refusal the bytes that came, of a stop those that the look at the frame left
pub data LeavesRecord (o : Options) (bytes frame bytes' : List ℕ) : Type 0 where
  refusal_keeps : bytes' ≡ bytes → LeavesRecord o bytes frame bytes'
  stop_leaves : (m : Machine) (pins : Pins) → Holds bytes m → frame_of o.device frame ≡ Some pins → bytes' ≡ record_bytes (look_step o m pins).machine → LeavesRecord o bytes frame bytes'

-- "Bad input is refused by number, in a fixed order; a refusal changes no record or buffer; a stop leaves what the look at the frame left (Q-4)." The order of the refusals stands in what each call answers;
-- a record that comes back unrefused is valid again
pub record FirstDemand : Type 0 where
  pub step : {image : List ℕ} {o : Options} {bytes frame : List ℕ} {number cycles : ℕ} {bytes' : List ℕ}
      → StepCall image o bytes frame number cycles bytes' → (number ≡ 0 → ⊥) → (cycles ≡ 0) × LeavesRecord o bytes frame bytes'
  pub reset : {d : Device} {bytes : List ℕ} {number : ℕ} {bytes' : List ℕ} → ResetCall d bytes number bytes' → (number ≡ 0 → ⊥) → bytes' ≡ bytes
  pub display : {d : Device} {bytes dots : List ℕ} {number : ℕ} {dots' : List ℕ} → DisplayCall d bytes dots number dots' → (number ≡ 0 → ⊥) → dots' ≡ dots
  pub bound : {d : Device} {image : List ℕ} {p3 address : ℕ} {path deep : List ℕ} {number value depth : ℕ} {path' deep' : List ℕ}
      → BoundCall d image p3 address path deep number value depth path' deep' → (number ≡ 0 → ⊥) → (path' ≡ path) × (deep' ≡ deep)
  pub valid : StaysValid

-- the numbers and bytes of a step are those of the written definition
pub record GivesStep (image : List ℕ) (o : Options) (m : Machine) (pins : Pins) (number cycles : ℕ) (bytes' : List ℕ) : Type 0 where
  pub stop : number ≡ (step_of (rom_of image) o m pins).stop
  pub spent : cycles ≡ (step_of (rom_of image) o m pins).cycles
  pub left : bytes' ≡ record_bytes (step_of (rom_of image) o m pins).machine

-- "Each step gives exactly the record, stop and cycle count of the written definition. A code read and written back is the same bytes; an instruction written and read back is the same instruction."
pub record SecondDemand : Type 0 where
  pub step : {image : List ℕ} {o : Options} {bytes frame : List ℕ} {number cycles : ℕ} {bytes' : List ℕ} → StepCall image o bytes frame number cycles bytes'
      → (m : Machine) → Holds bytes m → length image ≡ image_size o.device → Valid o.device m → (pins : Pins) → frame_of o.device frame ≡ Some pins
      → GivesStep image o m pins number cycles bytes'
  pub read_then_written : ReadThenWritten
  pub written_then_read : WrittenThenRead
  pub cut_short : CutShort

-- "For any start address the bound either refuses, exactly on the grounds listed, or gives N, the most cycles any path of the flow rules takes to RTI, with one such path, calls followed. Every emulated run from there
-- (running, SF set, EI clear, frames enough, the stack spared) reaches the return or a named stop having spent at most N, for any pins." Nothing is asked of the stack where the depth is 0
pub record ThirdDemand : Type 0 where
  pub one_answer : OneAnswerWithCalls
  pub old_answer : OldAnswerStands
  pub runs : Demand3OfCalls
  pub runs_without_calls : Demand3OfAnswersAtDepth0

pub record Demands : Type 0 where
  pub first : FirstDemand
  pub second : SecondDemand
  pub third : ThirdDemand

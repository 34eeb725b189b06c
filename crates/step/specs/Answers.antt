-- What the call step answers: document 01's number, 0 where nothing is refused and nothing stops, and what comes with it. Refusals in the order of its table.
use Rattle.std.specs.Prelude.{ℕ, List, Some, None, Result, Ok, Err, ◌≡◌, ◌⊎◌, length}
use Rattle.numbers.specs.ComesBack.{image_of_another_size, record_outside_the_ranges, no_frame}
use Rattle.numbers.specs.Numbered.{refusal_number}
use Rattle.numbers.specs.declared.Refusal.{Refusal}
use Rattle.device.specs.Device.{image_size, rom_of}
use Rattle.frame.specs.Frame.{frame_of}
use Rattle.frame.specs.declared.Pins.{Pins}
use Rattle.record.specs.Valid.{Valid}
use Rattle.record.specs.declared.Machine.{Machine}
use Rattle.row.specs.Rows.{Done}
use Rattle.step.specs.Step.{step_of}
use Rattle.device.specs.declared.Device.{Device}
use Rattle.device.specs.declared.Options.{Options}
use Rattle.step.specs.Advance.{stop_or_0}
use Rattle.step.specs.declared.Stepped.{Stepped}

-- what comes back of a step, or of one of its two calls: document 01's number, a refusal's or a stop's or 0; the cycles and the record
pub record StepPaper : Type 0 where
  pub number : ℕ
  pub cycles : ℕ
  pub machine : Machine

-- a refusal gives nothing else: the record is the one that was handed in
abbrev pub step_refused : ℕ → Machine → StepPaper
step_refused number m = record { number = number; cycles = 0; machine = m }

abbrev pub stepped : Done → StepPaper
stepped x = record { number = x.stop; cycles = x.cycles; machine = x.machine }

-- that of what the code answers, m being the record that was handed in
abbrev pub paper_of : Machine → Result Stepped Refusal → StepPaper
paper_of m (Ok x) = record { number = stop_or_0 x.stop; cycles = x.cycles; machine = x.machine }
paper_of m (Err refusal) = step_refused (refusal_number refusal) m

-- what the calls on an image and a record refuse first, in the order of the table
abbrev pub Refuses : List ℕ → Device → Machine → Refusal → Type 0
Refuses image d m refusal =
    ((refusal ≡ Refusal.ImageOfAnotherSize) × (length image ≡ image_size d → ⊥))
    ⊎ ((refusal ≡ Refusal.RecordOutsideTheRanges) × (length image ≡ image_size d) × (Valid d m → ⊥))

-- "Only inputs a call has can refuse it; the order is the table's". "All are given exactly then."
pub record StepOf (image : List ℕ) (o : Options) (m : Machine) (frame : List ℕ) (r : StepPaper) : Type 0 where
  pub refused_1 : (length image ≡ image_size o.device → ⊥) → r ≡ step_refused image_of_another_size m
  pub refused_2 : length image ≡ image_size o.device → (Valid o.device m → ⊥) → r ≡ step_refused record_outside_the_ranges m
  pub refused_3 : length image ≡ image_size o.device → Valid o.device m → frame_of o.device frame ≡ None → r ≡ step_refused no_frame m
  pub steps : length image ≡ image_size o.device → Valid o.device m → (pins : Pins) → frame_of o.device frame ≡ Some pins → r ≡ stepped (step_of (rom_of image) o m pins)

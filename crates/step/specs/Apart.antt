-- Request Q-4: what the two calls of a step answer, document 01's number, 0 where nothing is refused and nothing stops, and what comes with it. Refusals in the order of its table.
use Rattle.std.specs.Prelude.{ℕ, ◌+◌, List, Some, None, ◌≡◌, length}
use Rattle.numbers.specs.ComesBack.{image_of_another_size, record_outside_the_ranges, no_frame}
use Rattle.device.specs.Device.{image_size, rom_of}
use Rattle.frame.specs.Frame.{frame_of}
use Rattle.frame.specs.declared.Pins.{Pins}
use Rattle.record.specs.Valid.{Valid}
use Rattle.record.specs.declared.Machine.{Machine}
use Rattle.step.specs.Step.{look_step, act_step}
use Rattle.step.specs.Answers.{StepPaper, step_refused, stepped, StepOf}
use Rattle.device.specs.declared.Options.{Options}

-- "one call takes the frame": its inputs are options, record and frame
pub record LookOf (o : Options) (m : Machine) (frame : List ℕ) (r : StepPaper) : Type 0 where
  pub refused_2 : (Valid o.device m → ⊥) → r ≡ step_refused record_outside_the_ranges m
  pub refused_3 : Valid o.device m → frame_of o.device frame ≡ None → r ≡ step_refused no_frame m
  pub looks : Valid o.device m → (pins : Pins) → frame_of o.device frame ≡ Some pins → r ≡ stepped (look_step o m pins)

-- "a second accepts or executes and passes time": its inputs are image, options and record
pub record ActOf (image : List ℕ) (o : Options) (m : Machine) (r : StepPaper) : Type 0 where
  pub refused_1 : (length image ≡ image_size o.device → ⊥) → r ≡ step_refused image_of_another_size m
  pub refused_2 : length image ≡ image_size o.device → (Valid o.device m → ⊥) → r ≡ step_refused record_outside_the_ranges m
  pub acts : length image ≡ image_size o.device → Valid o.device m → r ≡ stepped (act_step (rom_of image) o m)

-- what the second call gives, with the cycles of the first
abbrev pub in_turn : StepPaper → StepPaper → StepPaper
in_turn first second = record { number = second.number; cycles = first.cycles + second.cycles; machine = second.machine }

-- a step is the second call after the first, of any answers that conform, where neither is refused
abbrev pub StepIsBoth : Type 0
StepIsBoth =
    (image : List ℕ) (o : Options) (m : Machine) (frame : List ℕ) (pins : Pins) (first second : StepPaper)
    → length image ≡ image_size o.device → Valid o.device m → frame_of o.device frame ≡ Some pins
    → LookOf o m frame first → ActOf image o first.machine second
    → StepOf image o m frame (in_turn first second)

-- Request Q-4: "The runner and the run use both calls; where no step stops their answers are those of before." Document 01's own listing, over its own step (step/specs/Before.antt).
use Rattle.std.specs.Prelude.{ℕ, Option, Some, None, List, [], ◌∷◌, ◌++◌, ◌≡◌, eqb, length}
use Rattle.laws.specs.Choice.{pick}
use Rattle.numbers.specs.ComesBack.{image_of_another_size}
use Rattle.device.specs.Device.{image_size, rom_of}
use Rattle.device.specs.declared.Device.{Device}
use Rattle.frame.specs.Frame.{frame_of}
use Rattle.frame.specs.declared.Pins.{Pins}
use Rattle.record.specs.Start.{fresh_machine}
use Rattle.record.specs.declared.Machine.{Machine}
use Rattle.step.specs.Before.{step_before}
use Rattle.text.specs.Refusal.{refused_line}
use Rattle.listing.specs.Lines.{header}
use Rattle.text.specs.Script.{lines_of}
use Rattle.listing.specs.Listing.{options, Answer, step_answer, bad_answer, listing_of}

abbrev pub frame_answer_before : Device → (ℕ → ℕ → ℕ) → Machine → Option Pins → Answer
frame_answer_before d rom m (Some pins) = step_answer (step_before rom (options d) m pins)
frame_answer_before d rom m None = bad_answer m

abbrev pub told_before : Device → (ℕ → ℕ → ℕ) → Machine → List (List ℕ) → List ℕ
told_before d rom m [] = []
told_before d rom m (l ∷ ls) =
    let a : Answer = frame_answer_before d rom m (frame_of d l) in a.text ++ pick a.ends [] (told_before d rom a.machine ls)

unfoldable pub listing_before : Device → List ℕ → List ℕ → List ℕ
listing_before d image script =
    pick (eqb (length image) (image_size d))
    (header ++ told_before d (rom_of image) (fresh_machine d) (lines_of script))
    (refused_line image_of_another_size)

-- it is those of before for every image and script: a stop is the last line, and shows what the look at the frame leaves, PC, registers, SP and flags
abbrev pub ListingAsBefore : Type 0
ListingAsBefore = (d : Device) (image script : List ℕ) → listing_of d image script ≡ listing_before d image script

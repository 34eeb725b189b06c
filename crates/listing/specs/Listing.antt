-- Document 01, the runner's listing: what it prints for an image and a script.
use Rattle.std.specs.Prelude.{ℕ, Bool, true, false, not, Option, Some, None, List, [], ◌∷◌, ◌++◌, eqb, length}
use Rattle.laws.specs.Choice.{pick}
use Rattle.numbers.specs.ComesBack.{image_of_another_size, no_frame}
use Rattle.device.specs.Device.{image_size, rom_of}
use Rattle.device.specs.declared.Device.{Device}
use Rattle.device.specs.declared.Options.{Options}
use Rattle.frame.specs.Frame.{frame_of}
use Rattle.frame.specs.declared.Pins.{Pins}
use Rattle.record.specs.Start.{fresh_machine}
use Rattle.record.specs.declared.Machine.{Machine}
use Rattle.row.specs.Rows.{Done}
use Rattle.step.specs.Step.{step_of}
use Rattle.text.specs.Refusal.{refused_line}
use Rattle.listing.specs.Lines.{header, step_line}
use Rattle.text.specs.Script.{lines_of}

-- "all wake pins enabled, SOUND off"
abbrev pub options : Device → Options
options d = record { device = d; wake = 0xFF; sound = false }

-- what one line of the script gives: what is printed, the record after it, and whether it is the last line
pub record Answer : Type 0 where
  pub text : List ℕ
  pub machine : Machine
  pub ends : Bool

-- "a stop is the last line"
abbrev pub step_answer : Done → Answer
step_answer x = record { text = step_line x.machine.core x.cycles x.stop; machine = x.machine; ends = not (eqb x.stop 0) }

-- "a bad script line, prints .. "refused 03" and ends; .. 03 in place of its step's line"
abbrev pub bad_answer : Machine → Answer
bad_answer m = record { text = refused_line no_frame; machine = m; ends = true }

abbrev pub frame_answer : Device → (ℕ → ℕ → ℕ) → Machine → Option Pins → Answer
frame_answer d rom m (Some pins) = step_answer (step_of rom (options d) m pins)
frame_answer d rom m None = bad_answer m

unfoldable pub answer_of : Device → (ℕ → ℕ → ℕ) → Machine → List ℕ → Answer
answer_of d rom m line = frame_answer d rom m (frame_of d line)

-- "one step a line, any number of lines", "Lines after a stop are not read."
abbrev pub told_over : Device → (ℕ → ℕ → ℕ) → Machine → List (List ℕ) → List ℕ
told_over d rom m [] = []
told_over d rom m (l ∷ ls) =
    let a : Answer = answer_of d rom m l in a.text ++ pick a.ends [] (told_over d rom a.machine ls)

-- "It starts from the fresh record"; "A bad or unreadable image .. prints "refused 01" .. and ends; 01 comes before the header"
unfoldable pub listing_of : Device → List ℕ → List ℕ → List ℕ
listing_of d image script =
    pick (eqb (length image) (image_size d))
    (header ++ told_over d (rom_of image) (fresh_machine d) (lines_of script))
    (refused_line image_of_another_size)

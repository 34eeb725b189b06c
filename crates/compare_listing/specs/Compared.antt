-- Document 02, Q-13: "Given image, script and listing, accept exactly the listing our runner would print, and otherwise name the first line and field that differs".
use Rattle.std.specs.Prelude.{ℕ, Bool, true, false, List, [], ◌∷◌, eqb, length, Option, Some, None, Result, Ok, Err}
use Rattle.laws.specs.Choice.{pick, either}
use Rattle.device.specs.Device.{image_size, rom_of}
use Rattle.device.specs.declared.Device.{Device}
use Rattle.frame.specs.Frame.{frame_of}
use Rattle.frame.specs.declared.Pins.{Pins}
use Rattle.record.specs.Start.{fresh_machine}
use Rattle.record.specs.declared.Machine.{Machine}
use Rattle.text.specs.Script.{lines_of}
use Rattle.listing.specs.Listing.{Answer, answer_of, listing_of}
use Rattle.compare_lines.specs.Lines.{difference_of}
use Rattle.compare_lines.specs.declared.Compared.{Compared}
use Rattle.numbers.specs.Numbered.{refusal_number}
use Rattle.numbers.specs.declared.Refusal.{Refusal}

abbrev pub is_no_frame : Option Pins → Bool
is_no_frame (Some pins) = false
is_no_frame None = true

-- a line of the script that the runner reads is no frame; "Lines after a stop are not read."
abbrev pub reads_no_frame : Device → (ℕ → ℕ → ℕ) → Machine → List (List ℕ) → Bool
reads_no_frame d rom m [] = false
reads_no_frame d rom m (l ∷ ls) =
    let a : Answer = answer_of d rom m l in
    either (is_no_frame (frame_of d l)) (pick a.ends false (reads_no_frame d rom a.machine ls))

-- "Refusals: 1, 3 as in the runner, judged before the listing is."
unfoldable pub compared_of : Device → List ℕ → List ℕ → List ℕ → Result Compared Refusal
compared_of d image script listing =
    pick (eqb (length image) (image_size d))
    (pick (reads_no_frame d (rom_of image) (fresh_machine d) (lines_of script)) (Err Refusal.NoFrame) (Ok (difference_of (listing_of d image script) listing)))
    (Err Refusal.ImageOfAnotherSize)

-- their numbers, 0 where it is compared
abbrev pub number_of : Result Compared Refusal → ℕ
number_of (Ok compared) = 0
number_of (Err refusal) = refusal_number refusal

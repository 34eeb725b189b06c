-- How far script and listing are compared, and what is promised of going on.
use Rattle.std.specs.Prelude.{ℕ, ◌+◌, ◌-◌, ◌≤◌, ◌≡◌, Bool, true, false, List, [], ◌∷◌, ◌++◌, length, drop, Result, Ok, Err}
use Rattle.laws.specs.Choice.{pick}
use Rattle.device.specs.declared.Device.{Device}
use Rattle.record.specs.Valid.{Valid}
use Rattle.record.specs.declared.Core.{Core}
use Rattle.record.specs.With.{assembled}
use Rattle.text.specs.Script.{lines_of, up_to}
use Rattle.listing.specs.Listing.{told_over}
use Rattle.compare_lines.specs.Left.{left_of, OneLine, settled, Placed}
use Rattle.compare_lines.specs.declared.Compared.{Compared}
use Rattle.numbers.specs.declared.Refusal.{Refusal}
use Rattle.compare_lines.specs.declared.Phase.{Phase}
use Rattle.compare_lines.specs.declared.Phase.TheVariants.{Matching}
use Rattle.compare_listing.specs.Compared.{reads_no_frame}
use Rattle.compare_listing.specs.declared.Progress.{Progress}
use Rattle.compare_listing.specs.declared.Gone.{Gone}

-- the answer that is still to come, from the record and our present line, where the script goes on with these lines and the listing with this text
unfoldable pub answer_from : Device → (ℕ → ℕ → ℕ) → Progress → List ℕ → List ℕ → List (List ℕ) → List ℕ → Result Compared Refusal
answer_from d rom p ram ours script theirs =
    pick p.bad (Err Refusal.NoFrame)
    (pick (pick p.ended false (reads_no_frame d rom (assembled p.core ram) script)) (Err Refusal.NoFrame)
    (Ok (left_of p.phase p.line ours (pick p.ended [] (told_over d rom (assembled p.core ram) script)) theirs)))

abbrev pub with_phase : Progress → Phase → Progress
with_phase p phase = record { core = p.core; ended = p.ended; bad = p.bad; line = p.line; phase = phase }

-- at the header, with nothing of theirs
abbrev pub begun : Core → Progress
begun core = record { core = core; ended = false; bad = false; line = 1; phase = Matching 0 }

-- the record is valid, and `ours` is our present line
pub record Sound (d : Device) (p : Progress) (ram ours : List ℕ) : Type 0 where
  pub valid : Valid d (assembled p.core ram)
  pub line : OneLine ours
  pub placed : Placed p.phase (length ours)
  pub fair : p.ended ≡ false → p.bad ≡ false

-- a line of the script is used: whatever script and listing go on with, the answer stays. A line that is a frame has a character, so lines are not more than half of the characters
pub record Nexts (d : Device) (rom : ℕ → ℕ → ℕ) (p : Progress) (ram ours text : List ℕ) (r : Progress) (ram' ours' : List ℕ) : Type 0 where
  pub same : (script : List (List ℕ)) (theirs : List ℕ) → answer_from d rom p ram ours (text ∷ script) theirs ≡ answer_from d rom r ram' ours' script theirs
  pub sound : Sound d r ram' ours'
  pub count : r.line + r.line ≤ p.line + p.line + 1 + length text

-- the last line, which no LF ends, is used, if there is one
pub record Lasts (d : Device) (rom : ℕ → ℕ → ℕ) (p : Progress) (ram ours text : List ℕ) (r : Progress) (ram' ours' : List ℕ) : Type 0 where
  pub same : (p.ended ≡ false → up_to text ≡ length text) → (theirs : List ℕ) → answer_from d rom p ram ours (lines_of text) theirs ≡ answer_from d rom r ram' ours' [] theirs
  pub sound : Sound d r ram' ours'
  pub count : r.line + r.line ≤ p.line + p.line + 1 + length text

-- of a part of the script and of the listing some characters are used: whatever they go on with, and theirs with nothing where this is its last part, the answer stays.
-- Where our line is not waited for, no whole line of the script is left, or ours has ended
pub record Goes (d : Device) (rom : ℕ → ℕ → ℕ) (p : Progress) (ram ours script listing : List ℕ) (last : Bool) (r : Gone) (ram' ours' : List ℕ) : Type 0 where
  pub same : (more theirs : List ℕ) → (last ≡ true → theirs ≡ []) → answer_from d rom p ram ours (lines_of (script ++ more)) (listing ++ theirs) ≡ answer_from d rom r.progress ram' ours' (lines_of (drop r.script script ++ more)) (drop r.listing listing ++ theirs)
  pub sound : Sound d r.progress ram' ours'
  pub read : r.script ≤ length script
  pub heard : r.listing ≤ length listing
  pub count : r.progress.line + r.progress.line + (length script - r.script) ≤ p.line + p.line + length script
  pub ends : settled r.progress.phase (length ours') ≡ true → r.progress.ended ≡ false → up_to (drop r.script script) ≡ length (drop r.script script)
  pub waits : settled r.progress.phase (length ours') ≡ false → (last ≡ false) × (r.listing ≡ length listing)

-- How far a text was read, as the code has it: a stage or the first fault, and the data records in the work buffer.
use Rattle.std.specs.Prelude.{ℕ, ◌≤◌, ◌≡◌, Bool, true, false, List, length, Result, Ok, Err}
use Rattle.numbers.specs.Numbered.{refusal_number}
use Rattle.numbers.specs.declared.Refusal.{Refusal}
use Rattle.hex_reader.specs.Record.{line_of}
use Rattle.hex_reader.specs.Reads.{meaning_of}
use Rattle.hex_reader.specs.declared.line.Line.{Line}
use Rattle.hex_reader.specs.declared.fault.HexFault.{HexFault}
use Rattle.hex_reader.specs.Given.{Given}
use Rattle.hex_reader.specs.Work.{Holds}
use Rattle.hex_reader.specs.Progress.{Progress, going, ended, stopped, Reading, good, refused, after_line}
use Rattle.hex_reader.specs.declared.progress.Stage.{Stage}
use Rattle.hex_reader.specs.declared.progress.Stage.TheVariants.{Going, Ended}

-- the records that the buffer holds
pub record Held (image_size : ℕ) {A : Type 0} (with-records : List Given → A) (work : List ℕ) (p : A) : Type 0 where
  pub records : List Given
  pub is : p ≡ with-records records
  pub holds : Holds image_size work records

abbrev pub Reached : ℕ → Result Stage HexFault → List ℕ → Progress → Type 0
Reached image_size (Ok Going) work p = Held image_size going work p
Reached image_size (Ok Ended) work p = Held image_size ended work p
Reached image_size (Err first) work p = p ≡ stopped (refusal_number first.refusal) first.line

abbrev pub Concluded : ℕ → Result Unit HexFault → List ℕ → Reading → Type 0
Concluded image_size (Ok x) work r = Held image_size good work r
Concluded image_size (Err first) work r = r ≡ refused (refusal_number first.refusal) first.line

-- "40 malformed line" to "45 end record missing": the number of a fault
abbrev pub IsFault : ℕ → Type 0
IsFault number = (40 ≤ number) × (number ≤ 45)

abbrev pub is_stopped : Result Stage HexFault → Bool
is_stopped (Ok stage) = false
is_stopped (Err first) = true

-- line n takes the stage on, whatever was reached before, and whatever line the answer about it means
pub record Advances (image_size : ℕ) (line : Result Line Refusal) (n : ℕ) (stage : Stage) (before after : List ℕ) (r : Result Stage HexFault) : Type 0 where
  pub size : length after ≡ length before
  pub reached : (p : Progress) → Reached image_size (Ok stage) before p → (l : List ℕ) → meaning_of line ≡ line_of l → Reached image_size r after (after_line image_size p n l)

-- a line's refusal, with the line's number
abbrev pub at_line : ℕ → Result Stage Refusal → Result Stage HexFault
at_line n (Ok stage) = Ok stage
at_line n (Err refusal) = Err (record { refusal = refusal; line = n })

-- a line takes the stage on, whatever its number
abbrev pub TakenOn : ℕ → Result Line Refusal → Stage → List ℕ → List ℕ → Result Stage Refusal → Type 0
TakenOn image_size line stage before after r = (n : ℕ) → Advances image_size line n stage before after (at_line n r)

-- Document 02, Q-3: "The reader goes through the lent text record by record". What is found at a place of the text: a line, judged, and the place after it; or that the text is over.
use Rattle.std.specs.Prelude.{ℕ, ◌-◌, ◌<◌, ◌≤◌, ◌≡◌, List, ◌∷◌, length, drop, Result, Option, Some, None}
use Rattle.numbers.specs.declared.Refusal.{Refusal}
use Rattle.hex_reader.specs.Record.{line_of}
use Rattle.hex_reader.specs.Reads.{meaning_of, Placed, Long}
use Rattle.hex_reader.specs.declared.line.Line.{Line}
use Rattle.hex_reader.specs.Lines.{hex_lines}

-- the first of the lines from a place on, and where the others begin
pub record RecordAt (text : List ℕ) (at : ℕ) (r : Result Line Refusal) (next : ℕ) : Type 0 where
  pub line : List ℕ
  pub lines : hex_lines (drop at text) ≡ line ∷ hex_lines (drop next text)
  pub meaning : meaning_of r ≡ line_of line
  pub placed : Placed r
  pub long : Long (next - at) r
  pub later : at < next
  pub within : next ≤ length text

abbrev pub FoundAt : List ℕ → ℕ → Option (Result Line Refusal) → ℕ → Type 0
FoundAt text at (Some r) next = RecordAt text at r next
FoundAt text at None next = length text ≤ at

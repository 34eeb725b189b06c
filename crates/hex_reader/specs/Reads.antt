-- What the code's answer about a line means: a data record is told by the digits of its bytes.
use Rattle.std.specs.Prelude.{◌≡◌, true, ℕ, ◌*◌, ◌<◌, ◌≤◌, List, length, Result, Ok, Err}
use Rattle.text.specs.Words.{all_digits}
use Rattle.numbers.specs.Numbered.{refusal_number}
use Rattle.numbers.specs.declared.Refusal.{Refusal}
use Rattle.hex_reader.specs.Record.{Judged, data_record, end_record, faulty, bytes_of, line_of}
use Rattle.hex_reader.specs.declared.line.Line.{Line}
use Rattle.hex_reader.specs.declared.line.Line.TheVariants.{Data, End}

abbrev pub meaning_of : Result Line Refusal → Judged
meaning_of (Ok (Data address digits)) = data_record address (bytes_of digits.now)
meaning_of (Ok End) = end_record
meaning_of (Err refusal) = faulty (refusal_number refusal)

-- the digits are those of a record's bytes, and its numbers are those of digits
pub record Stands (address : ℕ) (digits : List ℕ) : Type 0 where
  pub are_digits : all_digits 16 digits ≡ true
  pub pairs : length digits ≡ 2 * length (bytes_of digits)
  pub address_fits : address < 65536
  pub count_fits : length (bytes_of digits) < 256

abbrev pub Placed : Result Line Refusal → Type 0
Placed (Ok (Data address digits)) = Stands address digits.now
Placed (Ok End) = Unit
Placed (Err refusal) = Unit

-- a line that has no fault has the mark and five bytes at least
abbrev pub Long : ℕ → Result Line Refusal → Type 0
Long size (Ok line) = 11 ≤ size
Long size (Err refusal) = Unit

-- what is answered about a line
pub record Judges (line : List ℕ) (r : Result Line Refusal) : Type 0 where
  pub meaning : meaning_of r ≡ line_of line
  pub placed : Placed r
  pub long : Long (length line) r

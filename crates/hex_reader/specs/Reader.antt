-- Document 02, Q-3: what the reader of a whole text answers, and leaves in the image buffer.
use Rattle.std.specs.Prelude.{ℕ, ◌≡◌, List, eqb, length, Ok, Err}
use Rattle.laws.specs.Choice.{pick}
use Rattle.numbers.specs.ComesBack.{image_of_another_size}
use Rattle.hex_reader.specs.Given.{image_of}
use Rattle.hex_reader.specs.Progress.{Reading, good, refused, read_of}
use Rattle.hex_reader.specs.Fault.{HexAnswer, number_of_answer, line_of_answer}
use Rattle.hex_reader.specs.declared.fault.HexRefusal.TheVariants.{Buffer, Fault}

-- the answer's number, the line of the first fault, and the image buffer; no line is 0
pub record Result : Type 0 where
  pub number : ℕ
  pub line : ℕ
  pub image : List ℕ

-- "A refused read leaves the image buffer unchanged."
abbrev pub result_of : ℕ → List ℕ → Reading → Result
result_of image_size before (good ds) = record { number = 0; line = 0; image = image_of image_size ds }
result_of image_size before (refused number line) = record { number = number; line = line; image = before }

-- document 01's refusal 1 is of the buffer and comes first: it has no line
unfoldable pub read_into : ℕ → List ℕ → List ℕ → Result
read_into image_size text before =
    pick (eqb (length before) image_size) (result_of image_size before (read_of image_size text))
    (record { number = image_of_another_size; line = 0; image = before })

-- a refusal of the buffer says that it has another size, and one of the text that it has the device's
abbrev pub Refuses : ℕ → List ℕ → HexAnswer → Type 0
Refuses image_size before (Ok x) = Unit
Refuses image_size before (Err (Buffer refusal)) = length before ≡ image_size → ⊥
Refuses image_size before (Err (Fault first)) = length before ≡ image_size

-- what the call answers and leaves is that
abbrev pub ReadHex : ℕ → List ℕ → List ℕ → List ℕ → HexAnswer → Type 0
ReadHex image_size text before after r =
    (record { number = number_of_answer r; line = line_of_answer r; image = after } ≡ read_into image_size text before)
    × Refuses image_size before r

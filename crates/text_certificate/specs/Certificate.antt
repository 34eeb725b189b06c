-- The lines of a certificate, as characters. Sentences in quotation marks are of docs/PROGRAMS.md.
use Rattle.std.specs.Prelude.{ℕ, ◌/◌, ◌%◌, List, [], ◌∷◌, ◌++◌, get_or, Ok, Err}
use Rattle.sheet.specs.Reading.{Read, read_at}
use Rattle.sheet_text.specs.Lines.{sheet_text}
use Rattle.text.specs.Digits.{characters}
use Rattle.text_bounder.specs.Report.{path_line_of}

-- "the digest in lower case, as sha256sum prints it": two digits a byte
unfoldable pub lower_digit : ℕ → ℕ
lower_digit d = get_or (characters "0123456789abcdef") d 0

unfoldable pub digest_text : List ℕ → List ℕ
digest_text [] = []
digest_text (b ∷ bs) = lower_digit (b / 16) ∷ lower_digit (b % 16) ∷ digest_text bs

-- the row that is read at an address, 0 where there is none
abbrev pub row_read : Read → ℕ
row_read (Ok i) = i.row
row_read (Err why) = 0

unfoldable pub row_at : (ℕ → ℕ) → ℕ → ℕ
row_at rom at = row_read (read_at rom at)

-- "for each row of the path the bounder's line, and under it, after six blanks, the sheet's line by which it was read"
abbrev pub certified_line : (ℕ → ℕ) → ℕ → ℕ → List ℕ
certified_line rom at counted = path_line_of rom at counted ++ (characters "      " ++ (sheet_text (row_at rom at) ++ (10 ∷ [])))

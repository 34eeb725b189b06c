-- Document 02, Q-3: a text read line by line, up to its first fault. Lines are counted from 1.
use Rattle.std.specs.Prelude.{ℕ, suc, ◌+◌, List, [], ◌∷◌, eqb, length}
use Rattle.laws.specs.Choice.{pick}
use Rattle.numbers.specs.ComesBack.{end_missing_or_text_after_it}
use Rattle.hex_reader.specs.Record.{Judged, data_record, end_record, faulty, line_of}
use Rattle.hex_reader.specs.Lines.{hex_lines}
use Rattle.hex_reader.specs.Given.{Given, refusal_of}

-- how far a text was read: the data records so far, the last one first, before the end record or after it; or the first fault's number and line
pub data Progress : Type 0 where
  going : List Given → Progress
  ended : List Given → Progress
  stopped : ℕ → ℕ → Progress

-- what a text is: its data records, or its refusal with the line
pub data Reading : Type 0 where
  good : List Given → Reading
  refused : ℕ → ℕ → Reading

-- line n is a data record, and comes after others
abbrev pub after_data : ℕ → List Given → ℕ → Given → Progress
after_data image_size ds n d = pick (eqb (refusal_of image_size ds d) 0) (going (d ∷ ds)) (stopped (refusal_of image_size ds d) n)

abbrev pub after_judged : ℕ → List Given → ℕ → Judged → Progress
after_judged image_size ds n (data_record address bytes) = after_data image_size ds n (record { address = address; bytes = bytes })
after_judged image_size ds n end_record = ended ds
after_judged image_size ds n (faulty number) = stopped number n

-- line n: "by first faulty line", and after the end record "any text .., not judged further"
abbrev pub after_line : ℕ → Progress → ℕ → List ℕ → Progress
after_line image_size (going ds) n line = after_judged image_size ds n (line_of line)
after_line image_size (ended ds) n line = stopped end_missing_or_text_after_it n
after_line image_size (stopped number at) n line = stopped number at

-- lines from line n on
abbrev pub after_lines : ℕ → Progress → ℕ → List (List ℕ) → Progress
after_lines image_size p n [] = p
after_lines image_size p n (l ∷ ls) = after_lines image_size (after_line image_size p n l) (suc n) ls

-- no line n: "end record missing (counted at the line where it would stand)"
abbrev pub at_end : Progress → ℕ → Reading
at_end (going ds) n = refused end_missing_or_text_after_it n
at_end (ended ds) n = good ds
at_end (stopped number at) n = refused number at

-- lines from line n on, and then the end
abbrev pub read_lines : ℕ → Progress → ℕ → List (List ℕ) → Reading
read_lines image_size p n ls = at_end (after_lines image_size p n ls) (n + length ls)

unfoldable pub read_of : ℕ → List ℕ → Reading
read_of image_size text = read_lines image_size (going []) 1 (hex_lines text)

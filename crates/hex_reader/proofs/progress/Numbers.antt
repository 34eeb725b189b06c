-- The first fault of a text has one of the numbers 40 to 45.
use mathlib.Core.Bool.{Bool, true, false, not}
use mathlib.Core.List.{List, [], ◌∷◌}
use Prim.Native.Nat.{ℕ, suc, ◌+◌}
use native.Mathlib.Omega.{arith}
use lib.Dec.{eqb}
use lib.ListN.{length, drop}
use Rattle.laws.specs.Choice.{pick, both}
use Rattle.hex_reader.specs.Record.{Judged, data_record, end_record, faulty, bytes_of, reclen, load_offset, data_of, is_data, is_end, sum_is_right, is_record, by_type, record_of, line_of}
use Rattle.numbers.specs.ComesBack.{malformed_line_or_end_with_bytes, record_sum, record_type, data_byte_past_1_ff_fh, byte_given_twice}
use Rattle.hex_reader.specs.Lines.{hex_lines}
use Rattle.hex_reader.specs.Given.{Given, is_past, is_twice, refusal_of}
use Rattle.hex_reader.specs.Progress.{Progress, going, ended, stopped, Reading, good, refused, after_data, after_judged, after_line, after_lines, at_end, read_of}
use Rattle.hex_reader.specs.Reached.{IsFault}

abbrev JudgedIn : Judged → Type 0
JudgedIn (data_record address bytes) = Unit
JudgedIn end_record = Unit
JudgedIn (faulty number) = IsFault number

abbrev pub ProgressIn : Progress → Type 0
ProgressIn (going ds) = Unit
ProgressIn (ended ds) = Unit
ProgressIn (stopped number line) = IsFault number

abbrev pub ReadingIn : Reading → Type 0
ReadingIn (good ds) = Unit
ReadingIn (refused number line) = IsFault number

either_way : (b : Bool) (x y : Judged) → JudgedIn x → JudgedIn y → JudgedIn (pick b x y)
either_way true x y p q = p
either_way false x y p q = q

type_in : (bytes : List ℕ) → JudgedIn (by_type bytes)
type_in bytes =
    either_way (is_data bytes) (data_record (load_offset bytes) (data_of bytes)) (pick (is_end bytes) end_record (faulty record_type)) tt
    (either_way (is_end bytes) end_record (faulty record_type) tt (omega arith, omega arith))

record_in : (bytes : List ℕ) → JudgedIn (record_of bytes)
unfolding record_of
record_in bytes =
    either_way (both (is_end bytes) (not (eqb (reclen bytes) 0))) (faulty malformed_line_or_end_with_bytes) (pick (sum_is_right bytes) (by_type bytes) (faulty record_sum))
    (omega arith, omega arith)
    (either_way (sum_is_right bytes) (by_type bytes) (faulty record_sum) (type_in bytes) (omega arith, omega arith))

line_in_lem : (line : List ℕ) → JudgedIn (line_of line)
unfolding line_of
line_in_lem line =
    either_way (is_record line) (record_of (bytes_of (drop 1 line))) (faulty malformed_line_or_end_with_bytes) (record_in (bytes_of (drop 1 line))) (omega arith, omega arith)

-- the refusal of a data record
abbrev refusal_by : Bool → Bool → ℕ
refusal_by past twice = pick past data_byte_past_1_ff_fh (pick twice byte_given_twice 0)

data_by : (ds : List Given) (n : ℕ) (past twice : Bool) → ProgressIn (pick (eqb (refusal_by past twice) 0) (going ds) (stopped (refusal_by past twice) n))
data_by ds n true twice = (omega arith, omega arith)
data_by ds n false true = (omega arith, omega arith)
data_by ds n false false = tt

data_in : (image_size : ℕ) (ds : List Given) (n : ℕ) (d : Given) → ProgressIn (after_data image_size ds n d)
unfolding refusal_of
data_in image_size ds n d = data_by (d ∷ ds) n (is_past image_size d) (is_twice ds d)

judged_in : (image_size : ℕ) (ds : List Given) (n : ℕ) (j : Judged) → JudgedIn j → ProgressIn (after_judged image_size ds n j)
judged_in image_size ds n (data_record address bytes) h = data_in image_size ds n (record { address = address; bytes = bytes })
judged_in image_size ds n end_record h = tt
judged_in image_size ds n (faulty number) h = h

after_in : (image_size : ℕ) (p : Progress) (n : ℕ) (line : List ℕ) → ProgressIn p → ProgressIn (after_line image_size p n line)
after_in image_size (going ds) n line h = judged_in image_size ds n (line_of line) (line_in_lem line)
after_in image_size (ended ds) n line h = (omega arith, omega arith)
after_in image_size (stopped number at) n line h = h

-- of lines after a place that is reached without another number
pub lines_in : (image_size : ℕ) (p : Progress) (n : ℕ) (ls : List (List ℕ)) → ProgressIn p → ProgressIn (after_lines image_size p n ls)
lines_in image_size p n [] h = h
lines_in image_size p n (l ∷ ls) h = lines_in image_size (after_line image_size p n l) (suc n) ls (after_in image_size p n l h)

end_in : (p : Progress) (n : ℕ) → ProgressIn p → ReadingIn (at_end p n)
end_in (going ds) n h = (omega arith, omega arith)
end_in (ended ds) n h = tt
end_in (stopped number at) n h = h

-- of a whole text
pub read_in : (image_size : ℕ) (text : List ℕ) → ReadingIn (read_of image_size text)
unfolding read_of
read_in image_size text = end_in (after_lines image_size (going []) 1 (hex_lines text)) (1 + length (hex_lines text)) (lines_in image_size (going []) 1 (hex_lines text) tt)

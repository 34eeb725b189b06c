-- Document 02, Q-3, and Intel's published specification: one line of a text, without its ending, is a data record, the end record, or faulty.
-- Words in capitals are Intel's names of a record's fields: RECORD MARK ":", then in pairs of digits RECLEN (1 byte), LOAD OFFSET (2), RECTYP (1), DATA (RECLEN bytes), CHKSUM (1).
use Rattle.std.specs.Prelude.{ℕ, ◌+◌, ◌*◌, ◌%◌, Bool, not, List, [], ◌∷◌, eqb, length, get_or, take, drop}
use Prim.Native.Char.{code}
use Rattle.laws.specs.Choice.{pick, both}
use Rattle.text.specs.Words.{all_digits}
use Rattle.text.specs.Hexadecimal.{digit_of}
use Rattle.numbers.specs.ComesBack.{malformed_line_or_end_with_bytes, record_sum, record_type}

-- a data record's address and bytes, the end record, or the number of the line's first fault
pub data Judged : Type 0 where
  data_record : ℕ → List ℕ → Judged
  end_record : Judged
  faulty : ℕ → Judged

-- the byte that two digits write, the high one first; "upper or lower case"
abbrev pub byte_of : ℕ → ℕ → ℕ
byte_of high low = 16 * digit_of high + digit_of low

-- the bytes that digits in pairs write
abbrev pub bytes_of : List ℕ → List ℕ
bytes_of [] = []
bytes_of (high ∷ []) = []
bytes_of (high ∷ low ∷ digits) = byte_of high low ∷ bytes_of digits

-- the fields of a record's bytes
abbrev pub reclen : List ℕ → ℕ
reclen bytes = get_or bytes 0 0

abbrev pub load_offset : List ℕ → ℕ
load_offset bytes = 256 * get_or bytes 1 0 + get_or bytes 2 0

abbrev pub rectyp : List ℕ → ℕ
rectyp bytes = get_or bytes 3 0

abbrev pub data_of : List ℕ → List ℕ
data_of bytes = take (reclen bytes) (drop 4 bytes)

-- RECTYP of "data and end records"
abbrev pub is_data : List ℕ → Bool
is_data bytes = eqb (rectyp bytes) 0

abbrev pub is_end : List ℕ → Bool
is_end bytes = eqb (rectyp bytes) 1

-- the sum of all bytes, CHKSUM among them, is 0 modulo 256
abbrev pub total : List ℕ → ℕ
total [] = 0
total (b ∷ bytes) = b + total bytes

abbrev pub sum_is_right : List ℕ → Bool
sum_is_right bytes = eqb (total bytes % 256) 0

-- the mark, then digits alone, in pairs, five bytes and as many more as RECLEN says
unfoldable pub is_record : List ℕ → Bool
is_record line =
    both (eqb (get_or line 0 0) (code ":"))
    (both (all_digits 16 (drop 1 line)) (eqb (length line) (1 + 2 * (5 + reclen (bytes_of (drop 1 line))))))

-- "41 record sum, 42 record type", in this order
abbrev pub by_type : List ℕ → Judged
by_type bytes =
    pick (is_data bytes) (data_record (load_offset bytes) (data_of bytes)) (pick (is_end bytes) end_record (faulty record_type))

unfoldable pub record_of : List ℕ → Judged
record_of bytes =
    pick (both (is_end bytes) (not (eqb (reclen bytes) 0))) (faulty malformed_line_or_end_with_bytes)
    (pick (sum_is_right bytes) (by_type bytes) (faulty record_sum))

-- "40 malformed line or end record with bytes" comes first
unfoldable pub line_of : List ℕ → Judged
line_of line = pick (is_record line) (record_of (bytes_of (drop 1 line))) (faulty malformed_line_or_end_with_bytes)

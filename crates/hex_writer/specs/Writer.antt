-- Document 02, Q-3: "The writer gives 512 records of sixteen bytes in address order and the end record, upper case, LF."
-- 512 records are those of an image of 8,192 bytes; image_size is the size of the device's image.
use Rattle.std.specs.Prelude.{ℕ, zero, suc, ◌+◌, ◌-◌, ◌*◌, ◌/◌, ◌%◌, ◌≤◌, ◌≡◌, List, [], ◌∷◌, ◌++◌, eqb, ltb, length, take, drop}
use Prim.Native.Char.{code}
use Rattle.laws.specs.Choice.{pick}
use Rattle.numbers.specs.ComesBack.{image_of_another_size, output_buffer_under_22540_bytes}
use Rattle.text.specs.Digits.{hex}
use Rattle.hex_reader.specs.Fault.{Taken, number_of}
use Rattle.hex_reader.specs.Record.{total}

-- bytes in pairs of digits, "upper case"
abbrev pub hex_bytes : List ℕ → List ℕ
hex_bytes [] = []
hex_bytes (b ∷ bytes) = hex 2 b ++ hex_bytes bytes

-- Intel's CHKSUM: with it the sum of a record's bytes is 0 modulo 256
abbrev pub chksum : List ℕ → ℕ
chksum bytes = (256 - total bytes % 256) % 256

-- a record's line: Intel's RECORD MARK, the bytes of its fields, and CHKSUM
abbrev pub record_line : List ℕ → List ℕ
record_line fields = code ":" ∷ hex_bytes fields ++ hex 2 (chksum fields)

unfoldable pub record_text : List ℕ → List ℕ
record_text fields = record_line fields ++ (code "\n" ∷ [])

-- RECLEN, LOAD OFFSET, RECTYP 00 and DATA of a data record
abbrev pub data_fields : ℕ → List ℕ → List ℕ
data_fields address bytes = length bytes ∷ address / 256 ∷ address % 256 ∷ 0 ∷ bytes

-- RECLEN, LOAD OFFSET and RECTYP 01 of the end record
abbrev pub end_fields : List ℕ
end_fields = 0 ∷ 0 ∷ 0 ∷ 1 ∷ []

-- the sixteen bytes of record k of an image
abbrev pub sixteen_at : List ℕ → ℕ → List ℕ
sixteen_at image k = take 16 (drop (16 * k) image)

-- n records from record k on
abbrev pub records_from : List ℕ → ℕ → ℕ → List ℕ
records_from image k zero = []
records_from image k (suc n) = record_text (data_fields (16 * k) (sixteen_at image k)) ++ records_from image (suc k) n

-- how many records of sixteen bytes an image has
abbrev pub records_of : ℕ → ℕ
records_of image_size = image_size / 16

unfoldable pub text_of : ℕ → List ℕ → List ℕ
text_of image_size image = records_from image 0 (records_of image_size) ++ record_text end_fields

-- how many characters that are: 44 a record, and 12 of the end record; 22,540 for 8,192 bytes
abbrev pub text_size : ℕ → ℕ
text_size image_size = 44 * records_of image_size + 12

-- the records make up the image, and Intel's LOAD OFFSET of two bytes reaches each of them
abbrev pub InRecords : ℕ → Type 0
InRecords image_size = (image_size % 16 ≡ 0) × (image_size ≤ 0x10000)

-- the answer's number, and the output buffer
pub record Result : Type 0 where
  pub number : ℕ
  pub text : List ℕ

-- "46 output buffer under 22,540 bytes, tested after 1"; bytes after the text stay
unfoldable pub written_from : ℕ → List ℕ → List ℕ → Result
written_from image_size image before =
    pick (eqb (length image) image_size)
    (pick (ltb (length before) (text_size image_size)) (record { number = output_buffer_under_22540_bytes; text = before })
    (record { number = 0; text = text_of image_size image ++ drop (text_size image_size) before }))
    (record { number = image_of_another_size; text = before })

-- what the call answers and leaves is that
abbrev pub WriteHex : ℕ → List ℕ → List ℕ → List ℕ → Taken → Type 0
WriteHex image_size image before after r = record { number = number_of r; text = after } ≡ written_from image_size image before

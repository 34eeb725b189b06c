-- The lister's lines, and its sweep over an image. Sentences in quotation marks are of docs/PROGRAMS.md.
use Rattle.std.specs.Prelude.{ℕ, zero, suc, ◌+◌, List, [], ◌∷◌, ◌++◌, ltb, take, Result, Ok, Err}
use Rattle.numbers.specs.Sizes.{addresses}
use Rattle.laws.specs.Choice.{pick}
use Rattle.numbers.specs.Numbered.{refusal_number}
use Rattle.sheet.specs.Reading.{Read, read_at, fetched, bytes_of, cycles_of}
use Rattle.sheet.specs.Refusing.{refusal_of}
use Rattle.sheet.specs.declared.Insn.{Insn}
use Rattle.sheet.specs.declared.NoRow.{NoRow}
use Rattle.reader.specs.declared.Decoded.{Decoded}
use Rattle.text.specs.Digits.{characters, joined, in_base, hex, blanks, padded}
use Rattle.text.specs.Refusal.{refused_text}
use Rattle.notation.specs.Notation.{row_text}

-- "the row's bytes in two digits each with one blank between"
abbrev pub spaced : List ℕ → List ℕ
spaced [] = []
spaced (b ∷ []) = hex 2 b
spaced (b ∷ c ∷ bs) = hex 2 b ++ (blanks 1 ++ spaced (c ∷ bs))

-- the columns of a row that has n bytes and t cycles: "padded to eight characters; two blanks; the row in the sheet's notation padded to 16; a blank; its bytes; a blank; its cycles"
abbrev pub row_columns : (ℕ → ℕ) → ℕ → Insn → ℕ → ℕ → List ℕ
row_columns rom at i n t =
    joined
    (padded 8 (spaced (take n (fetched rom at))) ∷
    blanks 2 ∷
    padded 16 (row_text at i) ∷
    blanks 1 ∷
    in_base 10 1 n ∷
    blanks 1 ∷
    in_base 10 1 t ∷
    [])

-- "An unassigned code is one line with its first byte in the bytes' column and `refused 30` in the row's, nothing after"; "one whose bytes pass the end of the image is shown in the same way with `refused 35`"
abbrev pub refused_columns : ℕ → ℕ → List ℕ
refused_columns b n = joined (padded 8 (hex 2 b) ∷ blanks 2 ∷ refused_text n ∷ [])

abbrev pub code_columns : (ℕ → ℕ) → ℕ → Read → List ℕ
code_columns rom at (Ok i) = row_columns rom at i (bytes_of i.row) (cycles_of i.row)
code_columns rom at (Err why) = refused_columns (rom at) (refusal_number (refusal_of why))

-- "the address in four digits; two blanks"
abbrev pub columns_of : (ℕ → ℕ) → ℕ → List ℕ
columns_of rom at = hex 4 at ++ (blanks 2 ++ code_columns rom at (read_at rom at))

unfoldable pub line_of : (ℕ → ℕ) → ℕ → List ℕ
line_of rom at = columns_of rom at ++ characters "\n"

-- a row with its bytes and its cycles
abbrev pub decoded_of : Read → Result Decoded NoRow
decoded_of (Ok i) = Ok (record { insn = i; bytes = bytes_of i.row; cycles = cycles_of i.row })
decoded_of (Err why) = Err why

-- where the sweep goes on: after a row, and after what is none "at the next byte"
abbrev pub sweep_next : ℕ → Read → ℕ
sweep_next at (Ok i) = at + bytes_of i.row
sweep_next at (Err why) = at + 1

-- "one row a line, as a sweep from ADDRESS (default 0000) for COUNT lines (decimal, default and at most to the end of the image)"
unfoldable pub swept_lines : (ℕ → ℕ) → ℕ → ℕ → List ℕ
swept_lines rom at zero = []
swept_lines rom at (suc n) = pick (ltb at addresses) (line_of rom at ++ swept_lines rom (sweep_next at (read_at rom at)) n) []

-- What a code is, by document 01's general rules over the table: a row with its operands, unassigned, or one whose bytes pass the end of the image.
use Rattle.std.specs.Prelude.{ℕ, zero, suc, ◌+◌, ◌-◌, ◌%◌, List, [], ◌∷◌, Bool, true, false, eqb, ltb, take, Result, Ok, Err}
use Rattle.numbers.specs.Sizes.{addresses}
use Rattle.laws.specs.Choice.{pick, both, either}
use Rattle.sheet.specs.Code.{Group, has_digit, fits, fixed_bits, absent, value_of, operand_from, digits}
use Rattle.sheet.specs.Table.{Code, Line, lines, line_at}
use Rattle.sheet.specs.declared.Insn.{Insn}
use Rattle.sheet.specs.declared.NoRow.{NoRow}

-- what reading gives
abbrev pub Read : Type 0
Read = Result Insn NoRow

-- how many bits of the digits a row fixes, by the one of its codes that they begin with; 0 where they begin with none
abbrev pub bits_fixed_if_fits : List Code → List ℕ → ℕ
bits_fixed_if_fits [] ds = 0
bits_fixed_if_fits (c ∷ cs) ds = pick (fits c.groups ds) (fixed_bits c.groups) (bits_fixed_if_fits cs ds)

-- "A row with more bits fixed wins over a wider one": of the rows that fit the one that fixes most bits, by its number; 0 where none fits, for "a pattern in neither table is unassigned"
pub record Winner : Type 0 where
  pub row : ℕ
  pub bits : ℕ

abbrev pub over : ℕ → ℕ → Winner → Winner
over n bits w = pick (ltb w.bits bits) (record { row = n; bits = bits }) w

-- without a search, in `Wins.antt`: it fits, and every other row that fits fixes fewer bits; no two that fit fix equally many
abbrev pub winner : List Line → ℕ → List ℕ → Winner
winner [] n ds = record { row = 0; bits = 0 }
winner (l ∷ ls) n ds = over n (bits_fixed_if_fits l.codes ds) (winner ls (suc n) ds)

unfoldable pub row_number : List ℕ → ℕ
unfolding lines
row_number ds = (winner lines 1 ds).row

-- the code of a row that the digits begin with
abbrev pub code_of : List Code → List ℕ → Code
code_of [] ds = record { groups = []; lead = absent }
code_of (c ∷ []) ds = c
code_of (c ∷ d ∷ cs) ds = pick (fits c.groups ds) c (code_of (d ∷ cs) ds)

-- an instruction: its row's number; its operand x, k, a, b, r or n; its operand y or p; 0 for an operand that the row does not have
abbrev pub insn : ℕ → ℕ → ℕ → Insn
insn n a b = record { row = n; a = a; b = b }

abbrev pub with_operands : ℕ → Code → List ℕ → Insn
with_operands n c ds =
    insn n (value_of (operand_from c.lead "xkabrn" c.groups ds)) (value_of (operand_from absent "yp" c.groups ds))

-- "A direct x of F4h or more that no such row names is unassigned."
abbrev pub assigned : ℕ → Code → List ℕ → Read
assigned n c ds = pick (ltb (value_of (operand_from absent "x" c.groups ds)) 0xF4) (Ok (with_operands n c ds)) (Err NoRow.Unassigned)

abbrev pub row_in : ℕ → List ℕ → Read
row_in zero ds = Err NoRow.Unassigned
row_in (suc n) ds = assigned (suc n) (code_of (line_at (suc n)).codes ds) ds

unfoldable pub row_with : ℕ → List ℕ → Read
unfolding line_at
row_with n ds = row_in n ds

-- what a code with these digits is; and with these bytes
abbrev pub read_digits : List ℕ → Read
read_digits ds = row_with (row_number ds) ds

abbrev pub read_bytes : List ℕ → Read
read_bytes bs = read_digits (digits bs)

-- the digits begin the groups: they are the first of some code that has them, or all of one and more
abbrev pub begins : List Group → List ℕ → Bool
begins [] ds = true
begins (g ∷ gs) [] = true
begins (g ∷ gs) (d ∷ ds) = both (has_digit g d) (begins gs ds)

abbrev pub begin_code : List Code → List ℕ → Bool
begin_code [] ds = false
begin_code (c ∷ cs) ds = either (begins c.groups ds) (begin_code cs ds)

abbrev pub begin_row : List Line → List ℕ → Bool
begin_row [] ds = false
begin_row (l ∷ ls) ds = either (begin_code l.codes ds) (begin_row ls ds)

unfoldable pub begin_some : List ℕ → Bool
unfolding lines
begin_some ds = begin_row lines ds

-- Q-8: "An instruction whose bytes pass the end of the image is now a fault of its own .. given when the bytes left before the end are too few but still begin some row; when they begin none it is 30 as before."
abbrev pub too_few : List ℕ → Bool
too_few ds = both (eqb (row_number ds) 0) (begin_some ds)

abbrev pub read_left : List ℕ → Read
read_left bs = pick (too_few (digits bs)) (Err NoRow.PastEnd) (read_bytes bs)

-- the byte at an address and the two behind it; and those of them that are left before the end
abbrev pub fetched : (ℕ → ℕ) → ℕ → List ℕ
fetched rom at = rom at ∷ rom (at + 1) ∷ rom (at + 2) ∷ []

abbrev pub left : (ℕ → ℕ) → ℕ → List ℕ
left rom at = take (addresses - at) (fetched rom at)

-- what stands at an address of a ROM
abbrev pub read_at : (ℕ → ℕ) → ℕ → Read
read_at rom at = read_left (left rom at)

-- PC wraps at 8192: "a one-byte instruction at the last address still moves PC to 0"
abbrev pub wrapped : ℕ → ℕ → ℕ
wrapped at n = (at + n) % addresses

-- columns of a row
abbrev pub bytes_of : ℕ → ℕ
bytes_of n = (line_at n).bytes

abbrev pub cycles_of : ℕ → ℕ
cycles_of n = (line_at n).cycles

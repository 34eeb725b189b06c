-- "A table of 256 first bytes gives length and cycles, second bytes deciding where needed": what such a table has to say of a first byte. All rows that begin with it agree, so a second byte decides only whether there is one.
use Rattle.std.specs.Prelude.{ℕ, ◌/◌, ◌%◌, not, List, [], ◌∷◌, ◌≡◌, eqb, ltb}
use Rattle.laws.specs.Choice.{pick}
use Rattle.sheet.specs.Code.{digits}
use Rattle.sheet.specs.Reading.{row_number, begin_some, bytes_of, cycles_of}
use Rattle.sheet.specs.declared.Cost.{Cost}

-- the row has n bytes and t cycles
pub record Timed (row n t : ℕ) : Type 0 where
  pub bytes : bytes_of row ≡ n
  pub cycles : cycles_of row ≡ t

-- so has each row that a code has whose first byte is b, whatever follows
abbrev pub TimedFrom : ℕ → ℕ → ℕ → Type 0
TimedFrom b n t = (ds : List ℕ) → (row_number (b / 16 ∷ b % 16 ∷ ds) ≡ 0 → ⊥) → Timed (row_number (b / 16 ∷ b % 16 ∷ ds)) n t

-- no bytes exactly where no row begins with b: Q-8's reader has to tell such a byte at the end of an image from one that begins a row
abbrev pub NoneFrom : ℕ → ℕ → Type 0
NoneFrom b n = eqb n 0 ≡ not (begin_some (digits (b ∷ [])))

-- the bytes and cycles from a first byte b by the bit patterns of the rows: `sheet::timing` promises the two above of them
abbrev pub costs : ℕ → ℕ → Cost
costs n t = record { bytes = n; cycles = t }

abbrev pub from4 : ℕ → Cost
from4 b = pick (eqb b 0x4D) (costs 1 2) (pick (eqb b 0x4F) (costs 1 2) (costs 2 2))

abbrev pub from5 : ℕ → Cost
from5 b = pick (eqb b 0x54) (costs 0 0) (pick (eqb b 0x55) (costs 3 3) (pick (eqb b 0x57) (costs 3 3) (costs 1 1)))

abbrev pub from6 : ℕ → Cost
from6 b = pick (eqb b 0x63) (costs 2 2) (pick (ltb b 0x68) (costs 1 2) (costs 2 2))

abbrev pub from7 : ℕ → Cost
from7 b = pick (eqb b 0x77) (costs 0 0) (pick (eqb b 0x7A) (costs 0 0) (costs 1 1))

abbrev pub from_rest : ℕ → Cost
from_rest h = pick (eqb h 12) (costs 2 2) (pick (eqb h 14) (costs 1 2) (costs 1 1))

abbrev pub from : ℕ → Cost
from b =
    pick (eqb (b / 16) 4) (from4 b)
    (pick (eqb (b / 16) 5) (from5 b)
    (pick (eqb (b / 16) 6) (from6 b)
    (pick (eqb (b / 16) 7) (from7 b) (from_rest (b / 16)))))

-- The section of each row number as a table.
use mathlib.Core.Path.{◌≡◌}
use mathlib.Core.Bool.{Bool}
use mathlib.Core.List.{List, [], ◌∷◌}
use Prim.Native.Nat.{ℕ, zero, suc, ◌<◌, ◌≤◌}
use lib.Dec.{T, eqb, leb, ltb, eqb→eq, leb→le, lt→ltb}
use lib.ListN.{get_or}
use Rattle.laws.proofs.Computed.{below, at, implies, modus}
use Rattle.sheet_text.specs.Lines.{section_of}

-- the sections of so many numbers from one on
abbrev from : ℕ → ℕ → List ℕ
from zero row = []
from (suc n) row = section_of row ∷ from n (suc row)

abbrev pub table : List ℕ
table = from 108 0

abbrev agrees : ℕ → Bool
agrees row = eqb (get_or table row 0) (section_of row)

all_agree : T (below 108 agrees)
unfolding section_of
all_agree = tt

pub section_at : (row : ℕ) → row < 108 → get_or table row 0 ≡ section_of row
section_at row h = eqb→eq (get_or table row 0) (section_of row) (at agrees 108 all_agree row h)

abbrev none : ℕ → Bool
none row = implies (ltb 107 row) (eqb (section_of row) 0)

all_none : T (below 256 none)
unfolding section_of
all_none = tt

pub no_section : (row : ℕ) → 107 < row → row < 256 → section_of row ≡ 0
no_section row h l = eqb→eq (section_of row) 0 (modus (ltb 107 row) (eqb (section_of row) 0) (at none 256 all_none row l) (lt→ltb 107 row h))

abbrev few : ℕ → Bool
few row = leb (section_of row) 14

all_few : T (below 256 few)
unfolding section_of
all_few = tt

pub section_le : (row : ℕ) → row < 256 → section_of row ≤ 14
section_le row l = leb→le (section_of row) 14 (at few 256 all_few row l)

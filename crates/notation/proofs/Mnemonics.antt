-- The mnemonics as one table, held against the rows by tests over the whole of it.
use mathlib.Core.Path.{◌≡◌, refl}
use mathlib.Core.Bool.{Bool}
use mathlib.Core.List.{List, [], ◌∷◌}
use Prim.Native.Nat.{ℕ, suc, ◌<◌, ◌≤◌}
use native.Mathlib.Omega.{arith}
use lib.Dec.{T, eqb, leb, ltb, eqb→eq, leb→le, lt→ltb}
use lib.ListN.{length, get_or}
use Rattle.laws.proofs.Computed.{below, at, implies, modus}
use Rattle.sheet.specs.Table.{line_at}
use Rattle.text.specs.Same.{same_text}
use Rattle.text.proofs.words.Same.{text_equal}
use Rattle.notation.specs.Notation.{mnemonic_of}

-- a table that has each row's mnemonic at the row's number
abbrev agrees : List (List ℕ) → ℕ → Bool
agrees table row = same_text (get_or table row []) (mnemonic_of row)

abbrev pub has_mnemonics : List (List ℕ) → Bool
has_mnemonics table = below 108 (agrees table)

pub mnemonic_at : (table : List (List ℕ)) → T (has_mnemonics table) → (row : ℕ) → row ≤ 107 → get_or table row [] ≡ mnemonic_of row
mnemonic_at table t row h = text_equal (get_or table row []) (mnemonic_of row) (at (agrees table) 108 t row (omega arith))

-- a number that is no row's has no mnemonic
abbrev rowless : ℕ → Bool
rowless n = implies (ltb 107 n) (eqb (length (mnemonic_of n)) 0)

all_rowless : T (below 256 rowless)
unfolding line_at
all_rowless = tt

none_of : (l : List ℕ) → length l ≡ 0 → l ≡ []
none_of [] e = refl
none_of (x ∷ l) e = absurd (let z : suc (length l) ≡ 0 = e in omega arith)

pub no_mnemonic : (row : ℕ) → 107 < row → row < 256 → mnemonic_of row ≡ []
no_mnemonic row h l =
    none_of (mnemonic_of row)
    (eqb→eq (length (mnemonic_of row)) 0
    (modus (ltb 107 row) (eqb (length (mnemonic_of row)) 0) (at rowless 256 all_rowless row l) (lt→ltb 107 row h)))

-- no mnemonic has more than eight characters
abbrev short : ℕ → Bool
short n = leb (length (mnemonic_of n)) 8

all_short : T (below 256 short)
unfolding line_at
all_short = tt

pub mnemonic_length : (row : ℕ) → row < 256 → length (mnemonic_of row) ≤ 8
mnemonic_length row l = leb→le (length (mnemonic_of row)) 8 (at short 256 all_short row l)

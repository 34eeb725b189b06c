-- The texts as a table, held against the sheet's lines by tests over the whole of it.
use mathlib.Core.Path.{◌≡◌, refl}
use mathlib.Core.Bool.{Bool}
use mathlib.Core.List.{List, [], ◌∷◌}
use Prim.Native.Nat.{ℕ, suc, ◌<◌, ◌≤◌}
use native.Mathlib.Omega.{arith}
use lib.Dec.{T, eqb, leb, ltb, eqb→eq, leb→le, lt→ltb}
use lib.ListN.{length, get_or}
use Rattle.laws.proofs.Computed.{below, at, implies, modus}
use Rattle.text.specs.Digits.{digit, in_base, places_of}
use Rattle.text.specs.Same.{same_text}
use Rattle.text.proofs.words.Same.{text_equal}
use Rattle.sheet_text.specs.Lines.{sheet_text}

abbrev agrees : List (List ℕ) → ℕ → Bool
agrees table n = same_text (get_or table n []) (sheet_text n)

abbrev pub has_texts : List (List ℕ) → Bool
has_texts table = below 122 (agrees table)

pub text_at : (table : List (List ℕ)) → T (has_texts table) → (n : ℕ) → n ≤ 121 → get_or table n [] ≡ sheet_text n
text_at table t n h = text_equal (get_or table n []) (sheet_text n) (at (agrees table) 122 t n (omega arith))

-- another number has no text
abbrev textless : ℕ → Bool
textless n = implies (ltb 121 n) (eqb (length (sheet_text n)) 0)

all_textless : T (below 256 textless)
unfolding sheet_text
all_textless = tt

none_of : (l : List ℕ) → length l ≡ 0 → l ≡ []
none_of [] e = refl
none_of (x ∷ l) e = absurd (let z : suc (length l) ≡ 0 = e in omega arith)

pub no_text : (n : ℕ) → 121 < n → n < 256 → sheet_text n ≡ []
no_text n h l =
    none_of (sheet_text n)
    (eqb→eq (length (sheet_text n)) 0
    (modus (ltb 121 n) (eqb (length (sheet_text n)) 0) (at textless 256 all_textless n l) (lt→ltb 121 n h)))

-- no line has more than 128 characters
abbrev short : ℕ → Bool
short n = leb (length (sheet_text n)) 128

all_short : T (below 256 short)
unfolding sheet_text in_base digit places_of
all_short = tt

pub text_length : (n : ℕ) → n < 256 → length (sheet_text n) ≤ 128
text_length n l = leb→le (length (sheet_text n)) 128 (at short 256 all_short n l)

pub length_at : (table : List (List ℕ)) → T (has_texts table) → (n : ℕ) → n ≤ 121 → length (get_or table n []) ≤ 128
length_at table t n h = rw (text_at table t n h) (text_length n (omega arith))

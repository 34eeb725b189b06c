-- The object code column of sheet 000: what a text such as "0110 1010 xxxx xxxx" says, by groups of four signs.
-- A code's digits are its groups of four bits, from the left.
use Rattle.std.specs.Prelude.{ℕ, zero, suc, ◌+◌, ◌-◌, ◌*◌, ◌/◌, ◌%◌, Bool, true, false, List, [], ◌∷◌, eqb, ltb}
use Prim.Native.Char.{Char, code}
use Prim.Native.String.{String, len, char_at, [] as none, ◌∷◌ as ◌and◌}
use Rattle.laws.specs.Choice.{pick, both}

-- a group: all four bits fixed; all four of the operand that a letter names; 1, 2 or 3 bits fixed above those of an operand; two of an operand above two fixed
pub data Group : Type 0 where
  # : ℕ → Group
  all : Char → Group
  fixed1 fixed2 fixed3 : ℕ → Char → Group
  above2 : Char → ℕ → Group

-- a sign 0 or 1 is a fixed bit; any other is a letter
abbrev pub is_bit : Char → Bool
is_bit c = ltb (code c) 50

abbrev pub bit : Char → ℕ
bit c = code c - 48

abbrev pub grouped : Bool → Bool → Bool → Bool → Char → Char → Char → Char → Group
grouped true true true true p q r s = # (((bit p * 2 + bit q) * 2 + bit r) * 2 + bit s)
grouped true true true false p q r s = fixed3 ((bit p * 2 + bit q) * 2 + bit r) s
grouped true true false t p q r s = fixed2 (bit p * 2 + bit q) s
grouped true false t u p q r s = fixed1 (bit p) s
grouped false t u true p q r s = above2 p (bit r * 2 + bit s)
grouped false t u false p q r s = all p

abbrev pub group : Char → Char → Char → Char → Group
group p q r s = grouped (is_bit p) (is_bit q) (is_bit r) (is_bit s) p q r s

-- the group at i, counted from 0: four signs, and then a blank or the end
abbrev pub group_at : String → ℕ → Group
group_at t i = group (char_at t (5 * i)) (char_at t (5 * i + 1)) (char_at t (5 * i + 2)) (char_at t (5 * i + 3))

abbrev pub groups_from : String → ℕ → ℕ → List Group
groups_from t i zero = []
groups_from t i (suc n) = group_at t i ∷ groups_from t (suc i) n

abbrev pub groups_of : String → List Group
groups_of t = groups_from t 0 ((len t + 1) / 5)

-- whether a group has the digit d
abbrev pub has_digit : Group → ℕ → Bool
has_digit (# v) d = eqb d v
has_digit (all l) d = true
has_digit (fixed1 v l) d = eqb (d / 8) v
has_digit (fixed2 v l) d = eqb (d / 4) v
has_digit (fixed3 v l) d = eqb (d / 2) v
has_digit (above2 l v) d = eqb (d % 4) v

-- whether a code begins with the groups
abbrev pub fits : List Group → List ℕ → Bool
fits [] ds = true
fits (g ∷ gs) [] = false
fits (g ∷ gs) (d ∷ ds) = both (has_digit g d) (fits gs ds)

abbrev pub fixed_bits_in : Group → ℕ
fixed_bits_in (# v) = 4
fixed_bits_in (all l) = 0
fixed_bits_in (fixed1 v l) = 1
fixed_bits_in (fixed2 v l) = 2
fixed_bits_in (fixed3 v l) = 3
fixed_bits_in (above2 l v) = 2

abbrev pub fixed_bits : List Group → ℕ
fixed_bits [] = 0
fixed_bits (g ∷ gs) = fixed_bits_in g + fixed_bits gs

-- an operand as far as it is known: the bits met so far
pub data Operand : Type 0 where
  absent : Operand
  value : ℕ → Operand

abbrev pub value_of : Operand → ℕ
value_of absent = 0
value_of (value n) = n

-- one of w values more on the right
abbrev pub extended : Operand → ℕ → ℕ → Operand
extended absent w n = value n
extended (value m) w n = value (m * w + n)

abbrev pub has_sign : String → Char → Bool
has_sign none c = false
has_sign (l and ls) c = pick (eqb (code l) (code c)) true (has_sign ls c)

abbrev pub extended_if : Bool → Operand → ℕ → ℕ → Operand
extended_if true o w n = extended o w n
extended_if false o w n = o

-- a group gives its bits to the operand that one of the letters names; two fixed bits below the letter are the operand's too, as in xxxx xx00
abbrev pub gives : String → Group → ℕ → Operand → Operand
gives ls (# v) d o = o
gives ls (all l) d o = extended_if (has_sign ls l) o 16 d
gives ls (fixed1 v l) d o = extended_if (has_sign ls l) o 8 (d % 8)
gives ls (fixed2 v l) d o = extended_if (has_sign ls l) o 4 (d % 4)
gives ls (fixed3 v l) d o = extended_if (has_sign ls l) o 2 (d % 2)
gives ls (above2 l v) d o = extended_if (has_sign ls l) o 16 d

-- the operand that one of the letters names, in the digits of a code
abbrev pub operand_from : Operand → String → List Group → List ℕ → Operand
operand_from o ls [] ds = o
operand_from o ls (g ∷ gs) [] = o
operand_from o ls (g ∷ gs) (d ∷ ds) = operand_from (gives ls g d o) ls gs ds

-- the digits of bytes
abbrev pub digits : List ℕ → List ℕ
digits [] = []
digits (b ∷ bs) = b / 16 ∷ b % 16 ∷ digits bs

-- Numbers and words as characters, each character by its code. Sentences in quotation marks are of docs/PROGRAMS.md.
use Rattle.std.specs.Prelude.{ℕ, zero, suc, ◌-◌, ◌/◌, ◌%◌, List, [], ◌∷◌, ◌++◌, ltb, length, get_or, replicate}
use Prim.Native.Char.{code}
use Prim.Native.String.{String, [] as none, ◌∷◌ as ◌and◌}
use Rattle.laws.specs.Choice.{pick}

abbrev pub characters : String → List ℕ
characters none = []
characters (c and cs) = code c ∷ characters cs

abbrev pub joined : List (List ℕ) → List ℕ
joined [] = []
joined (t ∷ ts) = t ++ joined ts

-- "Hexadecimal output is upper case."
unfoldable pub digit : ℕ → ℕ
digit d = get_or (characters "0123456789ABCDEF") d 0

-- the last n digits of a number to a base, the highest first
unfoldable pub in_base : ℕ → ℕ → ℕ → List ℕ
in_base base zero v = []
in_base base (suc n) v = in_base base n (v / base) ++ (digit (v % base) ∷ [])

abbrev pub hex : ℕ → ℕ → List ℕ
hex n v = in_base 16 n v

abbrev pub binary : ℕ → ℕ → List ℕ
binary n v = in_base 2 n v

-- a number below 10 has one decimal digit, any other one more than a tenth of it
abbrev pub places_within : ℕ → ℕ → ℕ
places_within zero v = 1
places_within (suc n) v = pick (ltb v 10) 1 (suc (places_within n (v / 10)))

unfoldable pub places_of : ℕ → ℕ
places_of v = places_within v v

abbrev pub decimal : ℕ → List ℕ
decimal v = in_base 10 (places_of v) v

abbrev pub blanks : ℕ → List ℕ
blanks n = replicate n 32

-- a text in a column of n characters
abbrev pub padded : ℕ → List ℕ → List ℕ
padded n text = text ++ blanks (n - length text)

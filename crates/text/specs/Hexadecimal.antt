-- "hexadecimal digits, either case": document 01 on frames, docs/PROGRAMS.md on the words that a program is given.
use Rattle.std.specs.Prelude.{ℕ, ◌+◌, ◌-◌, Bool, leb, ltb, Option, Some, None}
use Prim.Native.Char.{Char, code}
use Rattle.laws.specs.Choice.{pick, both}

abbrev pub between : Char → Char → ℕ → Bool
between a z c = both (leb (code a) c) (leb c (code z))

-- the value of a digit's character; 16 for any other character
unfoldable pub digit_of : ℕ → ℕ
digit_of c =
    pick (between "0" "9" c) (c - code "0")
    (pick (between "A" "F" c) (10 + (c - code "A")) (pick (between "a" "f" c) (10 + (c - code "a")) 16))

-- the value of a digit to a base up to 16, where the character is one
abbrev pub digit_to : ℕ → ℕ → Option ℕ
digit_to base c = pick (ltb (digit_of c) base) (Some (digit_of c)) None

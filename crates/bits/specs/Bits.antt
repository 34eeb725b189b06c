-- Bits of a small number. A bit is named by its weight: 1, 2, 4, 8, 16, 32.
use Rattle.std.specs.Prelude.{ℕ, ◌+◌, ◌-◌, ◌/◌, ◌%◌, ◌<◌, ◌≡◌, Bool, Option, Some, None, eqb}
use Rattle.laws.specs.Choice.{pick}

abbrev pub has_bit : ℕ → ℕ → Bool
has_bit n w = eqb (n / w % 2) 1

-- n with that bit set, and n with it clear
abbrev pub with_bit : ℕ → ℕ → ℕ
with_bit n w = pick (has_bit n w) n (n + w)

abbrev pub without_bit : ℕ → ℕ → ℕ
without_bit n w = pick (has_bit n w) (n - w) n

-- of six bits the highest that is set, by its number from 5 down to 0; 6 where none is
unfoldable pub highest_bit : ℕ → ℕ
highest_bit n =
    pick (has_bit n 32) 5
    (pick (has_bit n 16) 4 (pick (has_bit n 8) 3 (pick (has_bit n 4) 2 (pick (has_bit n 2) 1 (pick (has_bit n 1) 0 6)))))

-- one of six bits, by its number, as the code gives it: none in place of 6
abbrev pub OneOfSix : Option ℕ → ℕ → Type 0
OneOfSix (Some k) n = (k ≡ n) × (k < 6)
OneOfSix None n = n ≡ 6

-- a bit as a number
abbrev pub bit_of : Bool → ℕ
bit_of b = pick b 1 0

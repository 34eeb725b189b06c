-- The request of the sound pin: its random bits. The last nine are a number below 512 whose bit 0 is the latest.
use Rattle.std.specs.Prelude.{ℕ, zero, suc, ◌+◌, ◌-◌, ◌*◌, ◌/◌, ◌%◌, ◌^◌, ◌<◌, ◌≡◌}

-- the numbers that nine bits make
abbrev pub nine_bits : ℕ
nine_bits = 2 ^ 9

-- "nine ones at the start"; "nine zeros" are refused
abbrev pub nine_ones : ℕ
nine_ones = nine_bits - 1

abbrev pub nine_zeros : ℕ
nine_zeros = 0

-- the bit that came so many places before the next one
abbrev pub places_before : ℕ → ℕ → ℕ
places_before places bits = bits / 2 ^ (places - 1) % 2

-- "Each random bit is the sum modulo 2 of the bits nine and five places before it"
abbrev pub next_bit : ℕ → ℕ
next_bit bits = (places_before 9 bits + places_before 5 bits) % 2

-- the last nine once the next one came: the oldest is not among them
unfoldable pub with_next : ℕ → ℕ
with_next bits = (bits * 2 + next_bit bits) % nine_bits

-- the last nine after n more
unfoldable pub after : ℕ → ℕ → ℕ
after zero bits = bits
after (suc n) bits = after n (with_next bits)

-- any nine bits but nine zeros
pub record Random (bits : ℕ) : Type 0 where
  pub nine : bits < nine_bits
  pub some : bits ≡ nine_zeros → ⊥

-- "repeats after 511 bits and not earlier"
pub record RepeatsAfter (n bits : ℕ) : Type 0 where
  pub again : after n bits ≡ bits
  pub not_earlier : (k : ℕ) → 0 < k → k < n → after k bits ≡ bits → ⊥

-- "Prove that the random state repeats after 511 bits and not earlier": from any nine bits but nine zeros
abbrev pub Period : Type 0
Period = (bits : ℕ) → Random bits → RepeatsAfter 511 bits

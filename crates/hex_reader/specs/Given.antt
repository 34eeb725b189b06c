-- Document 02, Q-3: what the data records of a text give, and the image of it.
-- image_size is the size of the device's image: document 01, "Image: exactly 8,192 bytes."; Q-6, "an image of 16,384 bytes". Q-3 speaks of the first; each definition is over the size.
use Rattle.std.specs.Prelude.{ℕ, zero, suc, ◌+◌, ◌-◌, Bool, false, List, [], ◌∷◌, leb, ltb, length, get_or}
use Rattle.laws.specs.Choice.{pick, both, either}
use Rattle.numbers.specs.ComesBack.{data_byte_past_1_ff_fh, byte_given_twice}

-- a data record: the address of its first byte, and its bytes
pub record Given : Type 0 where
  pub address : ℕ
  pub bytes : List ℕ

-- a record gives a byte to each address from its own on
abbrev pub gives : Given → ℕ → Bool
gives d a = both (leb d.address a) (ltb a (d.address + length d.bytes))

-- an address is given by one of some records
abbrev pub is_given : List Given → ℕ → Bool
is_given [] a = false
is_given (d ∷ ds) a = either (gives d a) (is_given ds a)

-- "bytes not mentioned are FFh"
abbrev pub byte_at : List Given → ℕ → ℕ
byte_at [] a = 0xFF
byte_at (d ∷ ds) a = pick (gives d a) (get_or d.bytes (a - d.address) 0) (byte_at ds a)

-- the bytes at n addresses from one on
abbrev pub bytes_from : List Given → ℕ → ℕ → List ℕ
bytes_from ds a zero = []
bytes_from ds a (suc n) = byte_at ds a ∷ bytes_from ds (suc a) n

unfoldable pub image_of : ℕ → List Given → List ℕ
image_of image_size ds = bytes_from ds 0 image_size

-- one of the numbers below n passes a test
abbrev pub some : ℕ → (ℕ → Bool) → Bool
some zero f = false
some (suc n) f = either (f n) (some n f)

-- "43 data byte past 1FFFh", the last address of 8,192 bytes: the image's size is the first address past it
abbrev pub is_past : ℕ → Given → Bool
is_past image_size d = some (length d.bytes) (λ k. leb image_size (d.address + k))

-- "44 byte given twice"
abbrev pub is_twice : List Given → Given → Bool
is_twice ds d = some (length d.bytes) (λ k. is_given ds (d.address + k))

-- the refusal of a data record after others, in the request's order; 0 where it is taken
unfoldable pub refusal_of : ℕ → List Given → Given → ℕ
refusal_of image_size ds d = pick (is_past image_size d) data_byte_past_1_ff_fh (pick (is_twice ds d) byte_given_twice 0)

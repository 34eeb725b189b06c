-- SHA-256 of a message of whole bytes, after FIPS 180-4. A word is a number below 2 ^ 32, a message a list of bytes. The standard is quoted above each definition.
use Rattle.std.specs.Prelude.{ℕ, zero, suc, ◌+◌, ◌-◌, ◌*◌, ◌/◌, ◌%◌, ◌^◌, List, [], ◌∷◌, ◌++◌, length, replicate, bit_and, bit_or, bit_xor, nat_lt, slice_index}
use Rattle.laws.specs.Choice.{pick}
use Rattle.sha256.specs.declared.State.{State}

-- 2.2.2: "+ Addition modulo 2^w"; w is 32
abbrev pub sum : ℕ → ℕ → ℕ
sum x y = (x + y) % 2 ^ 32

-- 2.2.2: "¬ Bitwise complement operation"
abbrev pub complement : ℕ → ℕ
complement x = 2 ^ 32 - 1 - x

-- 2.2.2: "x >> n is obtained by discarding the right-most n bits of the word x and then padding the result with n zeroes on the left"; 3.2: "SHR n(x) = x >> n"
abbrev pub shr : ℕ → ℕ → ℕ
shr n x = x / 2 ^ n

-- 2.2.2: "x << n is obtained by discarding the left-most n bits of the word x and then padding the result with n zeroes on the right"
abbrev pub shl : ℕ → ℕ → ℕ
shl n x = x * 2 ^ n % 2 ^ 32

-- 3.2: "ROTR n(x) = (x >> n) ∨ (x << w - n)"
unfoldable pub rotr : ℕ → ℕ → ℕ
rotr n x = bit_or (shr n x) (shl (32 - n) x)

-- 4.1.2: "Ch(x, y, z) = (x ∧ y) ⊕ (¬x ∧ z)"
unfoldable pub ch : ℕ → ℕ → ℕ → ℕ
ch x y z = bit_xor (bit_and x y) (bit_and (complement x) z)

-- "Maj(x, y, z) = (x ∧ y) ⊕ (x ∧ z) ⊕ (y ∧ z)"
unfoldable pub maj : ℕ → ℕ → ℕ → ℕ
maj x y z = bit_xor (bit_xor (bit_and x y) (bit_and x z)) (bit_and y z)

-- "Σ0(x) = ROTR 2(x) ⊕ ROTR 13(x) ⊕ ROTR 22(x)"
unfoldable pub big_sigma0 : ℕ → ℕ
big_sigma0 x = bit_xor (bit_xor (rotr 2 x) (rotr 13 x)) (rotr 22 x)

-- "Σ1(x) = ROTR 6(x) ⊕ ROTR 11(x) ⊕ ROTR 25(x)"
unfoldable pub big_sigma1 : ℕ → ℕ
big_sigma1 x = bit_xor (bit_xor (rotr 6 x) (rotr 11 x)) (rotr 25 x)

-- "σ0(x) = ROTR 7(x) ⊕ ROTR 18(x) ⊕ SHR 3(x)"
unfoldable pub small_sigma0 : ℕ → ℕ
small_sigma0 x = bit_xor (bit_xor (rotr 7 x) (rotr 18 x)) (shr 3 x)

-- "σ1(x) = ROTR 17(x) ⊕ ROTR 19(x) ⊕ SHR 10(x)"
unfoldable pub small_sigma1 : ℕ → ℕ
small_sigma1 x = bit_xor (bit_xor (rotr 17 x) (rotr 19 x)) (shr 10 x)

-- 4.2.2: "the first thirty-two bits of the fractional parts of the cube roots of the first sixty-four prime numbers"
unfoldable pub constants : List ℕ
constants =
    0x428a2f98 ∷ 0x71374491 ∷ 0xb5c0fbcf ∷ 0xe9b5dba5 ∷ 0x3956c25b ∷ 0x59f111f1 ∷ 0x923f82a4 ∷ 0xab1c5ed5 ∷
    0xd807aa98 ∷ 0x12835b01 ∷ 0x243185be ∷ 0x550c7dc3 ∷ 0x72be5d74 ∷ 0x80deb1fe ∷ 0x9bdc06a7 ∷ 0xc19bf174 ∷
    0xe49b69c1 ∷ 0xefbe4786 ∷ 0x0fc19dc6 ∷ 0x240ca1cc ∷ 0x2de92c6f ∷ 0x4a7484aa ∷ 0x5cb0a9dc ∷ 0x76f988da ∷
    0x983e5152 ∷ 0xa831c66d ∷ 0xb00327c8 ∷ 0xbf597fc7 ∷ 0xc6e00bf3 ∷ 0xd5a79147 ∷ 0x06ca6351 ∷ 0x14292967 ∷
    0x27b70a85 ∷ 0x2e1b2138 ∷ 0x4d2c6dfc ∷ 0x53380d13 ∷ 0x650a7354 ∷ 0x766a0abb ∷ 0x81c2c92e ∷ 0x92722c85 ∷
    0xa2bfe8a1 ∷ 0xa81a664b ∷ 0xc24b8b70 ∷ 0xc76c51a3 ∷ 0xd192e819 ∷ 0xd6990624 ∷ 0xf40e3585 ∷ 0x106aa070 ∷
    0x19a4c116 ∷ 0x1e376c08 ∷ 0x2748774c ∷ 0x34b0bcb5 ∷ 0x391c0cb3 ∷ 0x4ed8aa4a ∷ 0x5b9cca4f ∷ 0x682e6ff3 ∷
    0x748f82ee ∷ 0x78a5636f ∷ 0x84c87814 ∷ 0x8cc70208 ∷ 0x90befffa ∷ 0xa4506ceb ∷ 0xbef9a3f7 ∷ 0xc67178f2 ∷
    []

-- 5.3.3: "the first thirty-two bits of the fractional parts of the square roots of the first eight prime numbers"
unfoldable pub initial : State
initial = record { a = 0x6a09e667; b = 0xbb67ae85; c = 0x3c6ef372; d = 0xa54ff53a; e = 0x510e527f; f = 0x9b05688c; g = 0x1f83d9ab; h = 0x5be0cd19 }

-- n as `count` bytes, the high one first: 3.1, "big-endian"
unfoldable pub big_endian : ℕ → ℕ → List ℕ
big_endian zero n = []
big_endian (suc count) n = n / 2 ^ (8 * count) % 256 ∷ big_endian count n

-- 5.1.1: "k is the smallest, non-negative solution to the equation l + 1 + k ≡ 448 mod 512". A message has whole bytes: of the k zero bits seven stand behind
-- the bit 1 in its byte, and the others are the smallest number of bytes that with the message's and that one are 56 modulo 64.
abbrev pub zero_bytes : ℕ → ℕ
zero_bytes bytes = (119 - bytes % 64) % 64

-- 5.1.1: "Append the bit 1 to the end of the message, followed by k zero bits .. Then append the 64-bit block that is equal to the number l expressed using a binary
-- representation"; l is the message's length in bits
unfoldable pub padded : List ℕ → List ℕ
padded m = m ++ (128 ∷ (replicate (zero_bytes (length m)) 0 ++ big_endian 8 (8 * length m)))

-- 5.2.1: the word whose four bytes start at `at`
abbrev pub word_at : List ℕ → ℕ → ℕ
word_at bytes at = ((slice_index bytes at * 256 + slice_index bytes (at + 1)) * 256 + slice_index bytes (at + 2)) * 256 + slice_index bytes (at + 3)

-- 6.2.2, 1: "Wt = Mt for 0 ≤ t ≤ 15; σ1(Wt-2) + Wt-7 + σ0(Wt-15) + Wt-16 for 16 ≤ t ≤ 63", of the block whose bytes start at `from`, by the words before it
unfoldable pub next_word : List ℕ → ℕ → ℕ → List ℕ → ℕ
next_word bytes from t w =
    pick (nat_lt t 16) (word_at bytes (from + 4 * t))
    (sum (sum (sum (small_sigma1 (slice_index w (t - 2))) (slice_index w (t - 7))) (small_sigma0 (slice_index w (t - 15)))) (slice_index w (t - 16)))

-- the first words of a block's message schedule
unfoldable pub schedule : List ℕ → ℕ → ℕ → List ℕ
schedule bytes from zero = []
schedule bytes from (suc t) = schedule bytes from t ++ (next_word bytes from t (schedule bytes from t) ∷ [])

-- 6.2.2, 3: "T1 = h + Σ1(e) + Ch(e, f, g) + Kt + Wt"
unfoldable pub first_sum : State → ℕ → ℕ → ℕ
first_sum s k w = sum (sum (sum (sum s.h (big_sigma1 s.e)) (ch s.e s.f s.g)) k) w

-- "T2 = Σ0(a) + Maj(a, b, c)"
unfoldable pub second_sum : State → ℕ
second_sum s = sum (big_sigma0 s.a) (maj s.a s.b s.c)

-- "h = g; g = f; f = e; e = d + T1; d = c; c = b; b = a; a = T1 + T2"
unfoldable pub round : State → ℕ → ℕ → State
round s k w = record { a = sum (first_sum s k w) (second_sum s); b = s.a; c = s.b; d = s.c; e = sum s.d (first_sum s k w); f = s.e; g = s.f; h = s.g }

-- "For t = 0 to 63": the first `t` rounds
unfoldable pub rounds : List ℕ → State → ℕ → State
rounds w s zero = s
rounds w s (suc t) = round (rounds w s t) (slice_index constants t) (slice_index w t)

-- 6.2.2, 4: "H0 = a + H0", and so for the other seven words
unfoldable pub added : State → State → State
added s t = record { a = sum s.a t.a; b = sum s.b t.b; c = sum s.c t.c; d = sum s.d t.d; e = sum s.e t.e; f = sum s.f t.f; g = sum s.g t.g; h = sum s.h t.h }

-- 6.2.2: the hash value after one more block
unfoldable pub after_block : State → List ℕ → ℕ → State
after_block s bytes from = added (rounds (schedule bytes from 64) s 64) s

-- the hash value after some blocks, each of 64 bytes: 5.2.1, "parsed into N 512-bit blocks"
unfoldable pub after_blocks : List ℕ → ℕ → State
after_blocks bytes zero = initial
after_blocks bytes (suc n) = after_block (after_blocks bytes n) bytes (64 * n)

unfoldable pub hash_of : List ℕ → State
hash_of m = after_blocks (padded m) (length (padded m) / 64)

-- 6.2.2: "the resulting 256-bit message digest .. is H0 ‖ H1 ‖ H2 ‖ H3 ‖ H4 ‖ H5 ‖ H6 ‖ H7"
abbrev pub words_of : State → List ℕ
words_of s = s.a ∷ s.b ∷ s.c ∷ s.d ∷ s.e ∷ s.f ∷ s.g ∷ s.h ∷ []

unfoldable pub joined : List ℕ → List ℕ
joined [] = []
joined (w ∷ ws) = big_endian 4 w ++ joined ws

unfoldable pub digest_of : List ℕ → List ℕ
digest_of m = joined (words_of (hash_of m))

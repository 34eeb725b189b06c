-- The characters of bytes: digits that read back as the bytes, and none that ends a line.
use mathlib.Core.Path.{◌≡◌, refl}
use mathlib.Core.Bool.{true}
use mathlib.Core.List.{List, [], ◌∷◌, ◌++◌}
use Prim.Native.Nat.{ℕ, suc, ◌+◌, ◌*◌, ◌/◌, ◌%◌, ◌<◌}
use native.Mathlib.Omega.{arith}
use borrow.Author.Tests.{lt-ltb}
use lib.Dec.{eqb, eqb→eq, ltb, ltb→lt}
use lib.ListN.{length, get_or}
use Rattle.laws.proofs.Computed.{at}
use Rattle.text.specs.Words.{all_digits}
use Rattle.text.specs.Hexadecimal.{digit_of}
use Rattle.text.specs.Digits.{digit, in_base, hex}
use Rattle.hex_reader.specs.Record.{bytes_of}
use Rattle.hex_writer.specs.Writer.{hex_bytes}

-- each is a byte
abbrev pub Small : List ℕ → Type 0
Small [] = Unit
Small (b ∷ bytes) = (b < 256) × Small bytes

pub small_each : (l : List ℕ) → ((k : ℕ) → k < length l → get_or l k 0 < 256) → Small l
small_each [] h = tt
small_each (b ∷ l) h = (h 0 (omega arith), small_each l (λ k g. h (suc k) (omega arith)))

pub small_append : (a b : List ℕ) → Small a → Small b → Small (a ++ b)
small_append [] b g h = h
small_append (x ∷ a) b g h = (g.0, small_append a b g.1 h)

-- none is LF or CR
abbrev pub Plain : List ℕ → Type 0
Plain [] = Unit
Plain (c ∷ s) = (13 < c) × Plain s

pub two_digits : (b : ℕ) → hex 2 b ≡ digit (b / 16 % 16) ∷ digit (b % 16) ∷ []
unfolding in_base
two_digits b = refl

digit_value : (d : ℕ) → d < 16 → digit_of (digit d) ≡ d
unfolding digit_of digit
digit_value d h = eqb→eq (digit_of (digit d)) d (at (λ d. eqb (digit_of (digit d)) d) 16 tt d h)

digit_plain : (d : ℕ) → d < 16 → 13 < digit d
unfolding digit
digit_plain d h = ltb→lt 13 (digit d) (at (λ d. ltb 13 (digit d)) 16 tt d h)

pub bytes_back : (bytes : List ℕ) → Small bytes → bytes_of (hex_bytes bytes) ≡ bytes
bytes_back [] h = refl
bytes_back (b ∷ bytes) h =
    let l = h.0 in
    let e : 16 * (b / 16 % 16) + b % 16 ≡ b = omega arith in
    rw (two_digits b, digit_value (b / 16 % 16) (omega arith), digit_value (b % 16) (omega arith), e, bytes_back bytes h.1)

pub all_digits_lem : (bytes : List ℕ) → all_digits 16 (hex_bytes bytes) ≡ true
all_digits_lem [] = refl
all_digits_lem (b ∷ bytes) =
    rw (two_digits b, digit_value (b / 16 % 16) (omega arith), digit_value (b % 16) (omega arith), lt-ltb (b / 16 % 16) 16 (omega arith), lt-ltb (b % 16) 16 (omega arith)) (all_digits_lem bytes)

pub plain_hex : (bytes : List ℕ) → Plain (hex_bytes bytes)
plain_hex [] = tt
plain_hex (b ∷ bytes) =
    rw (two_digits b) (digit_plain (b / 16 % 16) (omega arith), (digit_plain (b % 16) (omega arith), plain_hex bytes))

-- Laws of the due source: it is the highest of the allowed latch bits, and its number tells its latch.
use Prim.Native.Nat.{ℕ, ◌*◌, ◌/◌, ◌%◌, ◌<◌}
use mathlib.Core.Path.{◌≡◌, subst, ◌∙◌}
use mathlib.Core.Bool.{Bool}
use native.Mathlib.Omega.{arith}
use lib.Dec.{T, eqb, eqb→eq, ltb, ltb→lt}
use lib.Bits.{bit_and, bit_or}
use Rattle.laws.proofs.Computed.{below, at}
use Rattle.bits.specs.Bits.{highest_bit}
use Rattle.due.specs.Due.{due_source, due_number, number_of, latch_of_source}

-- a test of each set of latches and each mask
abbrev each : (ℕ → ℕ → Bool) → Bool
each f = below 64 (λ il. below 16 (λ mask. f il mask))

each_at : (f : ℕ → ℕ → Bool) → T (each f) → (il mask : ℕ) → il < 64 → mask < 16 → T (f il mask)
each_at f t il mask h k = at (λ mask. f il mask) 16 (at (λ il. below 16 (λ mask. f il mask)) 64 t il h) mask k

abbrev allowed : ℕ → ℕ → ℕ
allowed il mask = bit_and il (bit_or (bit_or (bit_and mask 6 * 2 % 256) (bit_and mask 3)) 32)

in_range : (il mask : ℕ) → il < 64 → mask < 16 → highest_bit (allowed il mask) ≡ due_source il mask
unfolding highest_bit due_source
in_range il mask h k =
    eqb→eq (highest_bit (allowed il mask)) (due_source il mask)
    (each_at (λ il mask. eqb (highest_bit (allowed il mask)) (due_source il mask)) tt il mask h k)

-- only the six latches and the four mask bits count
il_32 : (n : ℕ) → n % 64 / 32 % 2 ≡ n / 32 % 2
il_32 n = omega arith

il_8 : (n : ℕ) → n % 64 / 8 % 2 ≡ n / 8 % 2
il_8 n = omega arith

il_4 : (n : ℕ) → n % 64 / 4 % 2 ≡ n / 4 % 2
il_4 n = omega arith

il_2 : (n : ℕ) → n % 64 / 2 % 2 ≡ n / 2 % 2
il_2 n = omega arith

il_1 : (n : ℕ) → n % 64 / 1 % 2 ≡ n / 1 % 2
il_1 n = omega arith

mask_4 : (n : ℕ) → n % 16 / 4 % 2 ≡ n / 4 % 2
mask_4 n = omega arith

mask_2 : (n : ℕ) → n % 16 / 2 % 2 ≡ n / 2 % 2
mask_2 n = omega arith

mask_1 : (n : ℕ) → n % 16 / 1 % 2 ≡ n / 1 % 2
mask_1 n = omega arith

low_bits : (il mask : ℕ) → due_source (il % 64) (mask % 16) ≡ due_source il mask
unfolding due_source
low_bits il mask = rw (il_32 il, il_8 il, il_4 il, il_2 il, il_1 il, mask_4 mask, mask_2 mask, mask_1 mask)

pub by_pattern : (il mask : ℕ) → highest_bit (allowed (il % 64) (mask % 16)) ≡ due_source il mask
by_pattern il mask = in_range (il % 64) (mask % 16) (omega arith) (omega arith) ∙ low_bits il mask

-- a test of the source that passes at each set of latches and each mask
tested : (f : ℕ → Bool) → T (each (λ il mask. f (due_source il mask))) → (il mask : ℕ) → T (f (due_source il mask))
tested f t il mask =
    subst (λ (s : ℕ). T (f s)) (low_bits il mask)
    (each_at (λ il mask. f (due_source il mask)) t (il % 64) (mask % 16) (omega arith) (omega arith))

pub number_lt : (il mask : ℕ) → due_number il mask < 6
unfolding due_source due_number
number_lt il mask = ltb→lt (due_number il mask) 6 (tested (λ s. ltb (number_of s) 6) tt il mask)

-- the number tells the latch
pub number_tells : (il mask : ℕ) → latch_of_source (due_number il mask) ≡ due_source il mask
unfolding due_source due_number
number_tells il mask = eqb→eq (latch_of_source (due_number il mask)) (due_source il mask) (tested (λ s. eqb (latch_of_source (number_of s)) s) tt il mask)

-- Laws of single bits: what setting and clearing one keeps, the highest of six, and bits joined. The bit at i has the weight 2 ^ i.
use mathlib.Core.Path.{◌≡◌, refl, ap, subst, ◌∙◌}
use mathlib.Core.Bool.{Bool, true, false}
use Prim.Native.Nat.{ℕ, suc, ◌+◌, ◌-◌, ◌*◌, ◌/◌, ◌%◌, ◌^◌, ◌<◌, ◌≤◌}
use native.Mathlib.Nat.{div-eq_of_lt, mod-lt, suc-mul, pow-suc, mod-eq_of_lt}
use native.Mathlib.Decide.{dec_lt, ℕ_discrete}
use native.Mathlib.Omega.{arith}
use lib.Dec.{T, eqb, eqb→eq, leb, leb→le}
use lib.Pow.{pow-add, pow_pos, shr_lt, split}
use lib.Arith.{digits_lt}
use lib.Bits.{bit_or, or_shifted}
use lib.Count.{count_leading_zeros}
use borrow.Author.Tests.{eqb-true, ne_eqb}
use Rattle.std.specs.Int.{from_bool}
use Rattle.laws.specs.Choice.{pick}
use Rattle.laws.proofs.Computed.{below, at}
use Rattle.bits.specs.Bits.{has_bit, with_bit, without_bit, highest_bit, bit_of}

weighed : (n w : ℕ) → n / w % 2 ≡ 1 → Dec (n < w) → w ≤ n
weighed n w e (yes h) = let q : n / w ≡ 0 = div-eq_of_lt h in omega arith
weighed n w e (no h) = omega arith

-- a number that has a bit is at least the bit's weight
pub bit_le : (n w : ℕ) → has_bit n w ≡ true → w ≤ n
bit_le n w e = weighed n w (eqb-true (n / w % 2) 1 e) (dec_lt n w)

-- clearing makes no number greater
cleared : (t : Bool) (n w : ℕ) → pick t (n - w) n ≤ n
cleared true n w = omega arith
cleared false n w = omega arith

pub without_le : (n w : ℕ) → without_bit n w ≤ n
without_le n w = cleared (has_bit n w) n w

-- a number of k bits stays one where a bit of it is set
raised : (m i n : ℕ) → n < 2 ^ (suc m + i) → (n / 2 ^ i % 2 ≡ 1 → ⊥) → n + 2 ^ i < 2 ^ (suc m + i)
raised m i n h e =
    let a : n / 2 ^ i < 2 ^ suc m = shr_lt (suc m) i h in
    let p : 2 ^ suc m ≡ 2 ^ m * 2 = pow-suc 2 m in
    let b : suc (n / 2 ^ i) < 2 ^ suc m = omega arith in
    let d : suc (n / 2 ^ i) * 2 ^ i + n % 2 ^ i < 2 ^ suc m * 2 ^ i = digits_lt b (mod-lt n (pow_pos i)) in
    omega (arith, suc-mul (n / 2 ^ i) (2 ^ i), split n i, pow-add 2 (suc m) i)

with_below : (m i n : ℕ) → n < 2 ^ (suc m + i) → Dec (n / 2 ^ i % 2 ≡ 1) → with_bit n (2 ^ i) < 2 ^ (suc m + i)
with_below m i n h (yes e) = rw e h
with_below m i n h (no e) = rw (ne_eqb (n / 2 ^ i % 2) 1 e) (raised m i n h e)

pub with_lt : (k i n : ℕ) → i < k → n < 2 ^ k → with_bit n (2 ^ i) < 2 ^ k
with_lt k i n l h =
    let e : suc (k - suc i) + i ≡ k = omega arith in
    subst (λ (k : ℕ). with_bit n (2 ^ i) < 2 ^ k) e
    (with_below (k - suc i) i n (rw e h) (ℕ_discrete (n / 2 ^ i % 2) 1))

-- the digit at j of what f makes of n and the weight at i
abbrev digit_after : (ℕ → ℕ → ℕ) → ℕ → ℕ → ℕ → ℕ
digit_after f n i j = f n (2 ^ i) / 2 ^ j % 2

-- f makes that digit d at i itself, and leaves each other digit
abbrev places : (ℕ → ℕ → ℕ) → ℕ → ℕ → ℕ → ℕ → Bool
places f d n i j = eqb (digit_after f n i j) (pick (eqb i j) d (n / 2 ^ j % 2))

abbrev all_places : (ℕ → ℕ → ℕ) → ℕ → Bool
all_places f d = below 64 (λ n. below 6 (λ i. below 6 (λ j. places f d n i j)))

placed : (f : ℕ → ℕ → ℕ) (d : ℕ) → T (all_places f d) → (n i j : ℕ) → n < 64 → i < 6 → j < 6 → digit_after f n i j ≡ pick (eqb i j) d (n / 2 ^ j % 2)
placed f d t n i j hn hi hj =
    eqb→eq (digit_after f n i j) (pick (eqb i j) d (n / 2 ^ j % 2))
    (at (λ j. places f d n i j) 6 (at (λ i. below 6 (λ j. places f d n i j)) 6 (at (λ n. below 6 (λ i. below 6 (λ j. places f d n i j))) 64 t n hn) i hi) j hj)

abbrev is_one : ℕ → Bool
is_one d = eqb d 1

-- and every other bit is as it was
pub with_other : (n i j : ℕ) → n < 64 → i < 6 → j < 6 → (i ≡ j → ⊥) → has_bit (with_bit n (2 ^ i)) (2 ^ j) ≡ has_bit n (2 ^ j)
with_other n i j hn hi hj ne = ap is_one (rw (ne_eqb i j ne) at (placed with_bit 1 tt n i j hn hi hj))

-- the highest bit of six, by leading zeros
abbrev by_zeros : ℕ → ℕ
by_zeros n = pick (eqb (count_leading_zeros 8 n) 8) 6 (7 - count_leading_zeros 8 n)

pub by_zeros_lem : (n : ℕ) → n < 64 → highest_bit n ≡ by_zeros n
unfolding count_leading_zeros highest_bit
by_zeros_lem n h = eqb→eq (highest_bit n) (by_zeros n) (at (λ n. eqb (highest_bit n) (by_zeros n)) 64 tt n h)

pub zeros_below : (n : ℕ) → n < 64 → 2 ≤ count_leading_zeros 8 n
unfolding count_leading_zeros
zeros_below n h = leb→le 2 (count_leading_zeros 8 n) (at (λ n. leb 2 (count_leading_zeros 8 n)) 64 tt n h)

-- k bits joined to a number that was shifted up by k, within w bits
pub joined : (w k n b : ℕ) → n * 2 ^ k < 2 ^ w → b < 2 ^ k → bit_or (n * 2 ^ k % 2 ^ w) b ≡ n * 2 ^ k + b
joined w k n b h l = ap (λ (m : ℕ). bit_or m b) (mod-eq_of_lt h) ∙ or_shifted n k b l

-- std's number of a truth value
pub from_bool_is : (b : Bool) → from_bool b ≡ bit_of b
from_bool_is true = refl
from_bool_is false = refl

pub bit_of_lt : (b : Bool) → bit_of b < 2
bit_of_lt true = omega arith
bit_of_lt false = omega arith

-- a number has a bit that its digit says
pub has_bit_is : (n w : ℕ) (b : Bool) → n / w % 2 ≡ bit_of b → has_bit n w ≡ b
has_bit_is n w true e = rw e
has_bit_is n w false e = rw e

-- The bytes of a padded message one by one, and how many there are.
use Rattle.std.proofs.Common.{◌≡◌, ℕ, zero, suc, ◌+◌, ◌-◌, ◌*◌, ◌/◌, ◌%◌, ◌^◌, ◌<◌, ◌≤◌, List, ◌∷◌, ◌++◌, length, get_or, replicate, refl, ◌∙◌, arith, length-append, get_or-append-add}
use lib.ListN.{length-replicate, get_or-replicate, get_or-append}
use Rattle.sha256.specs.Sha256.{big_endian, padded, zero_bytes}

pub big_endian_length : (count n : ℕ) → length (big_endian count n) ≡ count
unfolding big_endian
big_endian_length zero n = refl
big_endian_length (suc count) n = rw (big_endian_length count n)

-- the byte at i, which count - 1 - i bytes follow
pub big_endian_at : (count n i : ℕ) → i < count → get_or (big_endian count n) i 0 ≡ n / 2 ^ (8 * (count - 1 - i)) % 256
unfolding big_endian
big_endian_at zero n i h = absurd (omega arith)
big_endian_at (suc count) n zero h = let e : suc count - 1 - zero ≡ count = omega arith in rw e refl
big_endian_at (suc count) n (suc i) h =
    let e : suc count - 1 - suc i ≡ count - 1 - i = omega arith in
    rw e (big_endian_at count n i (omega arith))

-- what stands behind the message
abbrev behind : List ℕ → List ℕ
behind m = replicate (zero_bytes (length m)) 0 ++ big_endian 8 (8 * length m)

-- its bytes in whole blocks
abbrev pub whole_length : ℕ → ℕ
whole_length n = 64 * ((n + 8) / 64 + 1)

pub padded_length : (m : List ℕ) → length (padded m) ≡ whole_length (length m)
unfolding padded
padded_length m = simp (length-append, length-replicate, big_endian_length) (omega arith)

pub message_at : (m : List ℕ) (i : ℕ) → i < length m → get_or (padded m) i 0 ≡ get_or m i 0
unfolding padded
message_at m i h = get_or-append m (128 ∷ behind m) 0 i h

behind_at : (m : List ℕ) (i k : ℕ) → i ≡ length m + k → get_or (padded m) i 0 ≡ get_or (128 ∷ behind m) k 0
unfolding padded
behind_at m i k e = rw e (get_or-append-add m (128 ∷ behind m) k 0)

pub one_at : (m : List ℕ) (i : ℕ) → i ≡ length m → get_or (padded m) i 0 ≡ 128
one_at m i e = behind_at m i 0 (omega arith)

pub zero_at : (m : List ℕ) (i : ℕ) → length m < i → i < whole_length (length m) - 8 → get_or (padded m) i 0 ≡ 0
zero_at m i h l =
    let k : ℕ = i - suc (length m) in
    let s : k < zero_bytes (length m) = omega arith in
    let r : k < length (replicate {A = ℕ} (zero_bytes (length m)) 0) = rw length-replicate s in
    behind_at m i (suc k) (omega arith) ∙ get_or-append (replicate (zero_bytes (length m)) 0) (big_endian 8 (8 * length m)) 0 k r
    ∙ get_or-replicate (zero_bytes (length m)) k 0 0 s

whole_by_zeros : (n : ℕ) → whole_length n ≡ n + 1 + zero_bytes n + 8
whole_by_zeros n = omega arith

-- where the length's bytes start, in a whole w with z zero bytes
module _ (n z w i : ℕ) (whole : w ≡ n + 1 + z + 8) (low : w - 8 ≤ i) (high : i < w) where
  place : i ≡ n + suc (z + (i - (n + 1 + z)))
  place = omega arith

  among : i - (n + 1 + z) < 8
  among = omega arith

  following : 8 - 1 - (i - (n + 1 + z)) ≡ w - 1 - i
  following = omega arith

get_d_after : (a b : List ℕ) (n k : ℕ) → length a ≡ n → get_or (a ++ b) (n + k) 0 ≡ get_or b k 0
get_d_after a b n k e = rw (← e) (get_or-append-add a b k 0)

-- the bytes of the length, where z zero bytes stand before them
of_zeros : (m : List ℕ) (i w : ℕ) → w ≡ length m + 1 + zero_bytes (length m) + 8 → w - 8 ≤ i → i < w
    → get_or (padded m) i 0 ≡ 8 * length m / 2 ^ (8 * (w - 1 - i)) % 256
of_zeros m i w whole low high =
    let z : ℕ = zero_bytes (length m) in
    let k : ℕ = i - (length m + 1 + z) in
    let after : 8 - 1 - k ≡ w - 1 - i = following (length m) z w i whole low high in
    behind_at m i (suc (z + k)) (place (length m) z w i whole low high)
    ∙ get_d_after (replicate z 0) (big_endian 8 (8 * length m)) z k (length-replicate z 0)
    ∙ big_endian_at 8 (8 * length m) k (among (length m) z w i whole low high) ∙ rw after refl

pub length_at : (m : List ℕ) (i : ℕ) → whole_length (length m) - 8 ≤ i → i < whole_length (length m)
    → get_or (padded m) i 0 ≡ 8 * length m / 2 ^ (8 * (whole_length (length m) - 1 - i)) % 256
length_at m i low high = of_zeros m i (whole_length (length m)) (whole_by_zeros (length m)) low high

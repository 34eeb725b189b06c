-- Digits in pairs: the byte at a place, the bytes from a place on and up to one.
use mathlib.Core.Path.{◌≡◌, refl, ap}
use mathlib.Core.List.{List, [], ◌∷◌, ◌++◌}
use Prim.Native.Nat.{ℕ, zero, suc, ◌+◌, ◌-◌, ◌*◌, ◌<◌, ◌≤◌}
use Prim.Native.Char.{Char, code}
use native.Mathlib.Nat.{not-suc-le-zero}
use native.Mathlib.Omega.{arith}
use mathlib.Core.Bool.{true}
use lib.Dec.{T, leb, leb→le, ltb, ltb→lt}
use lib.ListN.{length, get_or, take, drop}
use Rattle.laws.specs.Choice.{pick}
use Rattle.laws.proofs.Choices.{picked_by}
use Rattle.laws.proofs.Computed.{true→T, T→true, both_left, both_right}
use Rattle.text.specs.Words.{all_digits}
use Rattle.text.specs.Hexadecimal.{between, digit_of}
use Rattle.hex_reader.specs.Record.{byte_of, bytes_of}

-- a choice of values, each at most 16
up_to_16 : (first last : Char) (c v w : ℕ) → (c ≤ code last → v ≤ 16) → w ≤ 16 → pick (between first last c) v w ≤ 16
up_to_16 first last c v w f g =
    picked_by (λ (n : ℕ). n ≤ 16) (between first last c) v w (λ t. f (leb→le c (code last) (both_right (leb (code first) c) (leb c (code last)) t))) g

pub value_up_to_16 : (c : ℕ) → digit_of c ≤ 16
unfolding digit_of
value_up_to_16 c =
    up_to_16 "0" "9" c (c - code "0") _ (λ h. omega arith)
    (up_to_16 "A" "F" c (10 + (c - code "A")) _ (λ h. omega arith)
    (up_to_16 "a" "f" c (10 + (c - code "a")) 16 (λ h. omega arith) (omega arith)))

pub byte_up_to_272 : (high low : ℕ) → byte_of high low ≤ 272
byte_up_to_272 high low = omega (arith, value_up_to_16 high, value_up_to_16 low)

-- each character of digits is one
pub digit_in : (l : List ℕ) (k : ℕ) → T (all_digits 16 l) → k < length l → digit_of (get_or l k 0) < 16
digit_in [] k t h = absurd (not-suc-le-zero h)
digit_in (c ∷ l) zero t h = ltb→lt (digit_of c) 16 (both_left (ltb (digit_of c) 16) (all_digits 16 l) t)
digit_in (c ∷ l) (suc k) t h = digit_in l k (both_right (ltb (digit_of c) 16) (all_digits 16 l) t) (omega arith)

-- the byte of pair k
pub byte_of_pair : (k : ℕ) (digits : List ℕ) → 2 * k + 1 < length digits → get_or (bytes_of digits) k 0 ≡ byte_of (get_or digits (2 * k) 0) (get_or digits (2 * k + 1) 0)
byte_of_pair k [] h = absurd (not-suc-le-zero h)
byte_of_pair k (c ∷ []) h = absurd (let z : ⊥ = omega arith in z)
byte_of_pair zero (c ∷ d ∷ digits) h = refl
byte_of_pair (suc k) (c ∷ d ∷ digits) h =
    let e : 2 * suc k ≡ suc (suc (2 * k)) = omega arith in
    let f : 2 * suc k + 1 ≡ suc (suc (2 * k + 1)) = omega arith in
    rw (f, e) (byte_of_pair k digits (omega arith))

pub bytes_drop : (k : ℕ) (digits : List ℕ) → bytes_of (drop (2 * k) digits) ≡ drop k (bytes_of digits)
bytes_drop zero digits = refl
bytes_drop (suc k) [] = let e : 2 * suc k ≡ suc (suc (2 * k)) = omega arith in rw e
bytes_drop (suc k) (c ∷ []) = let e : 2 * suc k ≡ suc (suc (2 * k)) = omega arith in rw e
bytes_drop (suc k) (c ∷ d ∷ digits) =
    let e : 2 * suc k ≡ suc (suc (2 * k)) = omega arith in rw e (bytes_drop k digits)

pub bytes_take : (k : ℕ) (digits : List ℕ) → bytes_of (take (2 * k) digits) ≡ take k (bytes_of digits)
bytes_take zero digits = refl
bytes_take (suc k) [] = let e : 2 * suc k ≡ suc (suc (2 * k)) = omega arith in rw e
bytes_take (suc k) (c ∷ []) = let e : 2 * suc k ≡ suc (suc (2 * k)) = omega arith in rw e
bytes_take (suc k) (c ∷ d ∷ digits) =
    let e : 2 * suc k ≡ suc (suc (2 * k)) = omega arith in
    rw e (ap (λ (l : List ℕ). byte_of c d ∷ l) (bytes_take k digits))

-- how many bytes digits in pairs write
pub bytes_length : (n : ℕ) (digits : List ℕ) → length digits ≡ 2 * n → length (bytes_of digits) ≡ n
bytes_length zero [] h = refl
bytes_length zero (c ∷ digits) h = absurd (let z : ⊥ = omega arith in z)
bytes_length (suc n) [] h = absurd (let z : ⊥ = omega arith in z)
bytes_length (suc n) (c ∷ []) h = absurd (let z : ⊥ = omega arith in z)
bytes_length (suc n) (c ∷ d ∷ digits) h = ap suc (bytes_length n digits (omega arith))

pub digit-in : (l : List ℕ) (k : ℕ) → all_digits 16 l ≡ true → k < length l → digit_of (get_or l k 0) < 16
digit-in l k e h = digit_in l k (true→T e) h

pub digits-after : (l m : List ℕ) → all_digits 16 (l ++ m) ≡ true → all_digits 16 m ≡ true
digits-after [] m e = e
digits-after (c ∷ l) m e = digits-after l m (T→true _ (both_right (ltb (digit_of c) 16) (all_digits 16 (l ++ m)) (true→T e)))

-- of a pair in front of digits
pub pair-digits : (x rest : List ℕ) → all_digits 16 (x ++ rest) ≡ true → length x ≡ 2 → (digit_of (get_or x 0 0) < 16) × (digit_of (get_or x 1 0) < 16)
pair-digits [] rest e h = absurd (omega arith)
pair-digits (c ∷ []) rest e h = absurd (omega arith)
pair-digits (c ∷ d ∷ []) rest e h = (digit-in (c ∷ d ∷ rest) 0 e (omega arith), digit-in (c ∷ d ∷ rest) 1 e (omega arith))
pair-digits (c ∷ d ∷ x ∷ y) rest e h = absurd (omega arith)

-- of the two digits behind the mark
pub after_mark : (l : List ℕ) → all_digits 16 (drop 1 l) ≡ true → 2 < length l → (digit_of (get_or l 1 0) < 16) × (digit_of (get_or l 2 0) < 16)
after_mark [] e h = absurd (omega arith)
after_mark (m ∷ []) e h = absurd (omega arith)
after_mark (m ∷ c ∷ []) e h = absurd (omega arith)
after_mark (m ∷ c ∷ d ∷ l) e h = (digit-in (c ∷ d ∷ l) 0 e (omega arith), digit-in (c ∷ d ∷ l) 1 e (omega arith))

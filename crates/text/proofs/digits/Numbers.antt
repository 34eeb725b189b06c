-- Laws of digits.
use mathlib.Core.Path.{◌≡◌, refl, sym, ap, ◌∙◌}
use mathlib.Core.List.{[], ◌∷◌, ◌++◌}
use Prim.Native.Nat.{ℕ, zero, suc, ◌+◌, ◌-◌, ◌/◌, ◌%◌, ◌^◌, ◌<◌, ◌≤◌}
use native.Mathlib.Omega.{arith}
use native.Mathlib.Nat.{not-suc-le-zero, pow-suc, one-le-pow}
use native.Mathlib.Decide.{dec_lt}
use borrow.Author.Tests.{lt-ltb, le-ltb}
use lib.ListN.{length, length-append}
use Rattle.text.specs.Digits.{digit, in_base, places_within, places_of, decimal}

pub digits_none : (base n v : ℕ) → n ≡ 0 → in_base base n v ≡ []
unfolding in_base
digits_none base n v e = rw e

-- a number's last digit, and those before it
pub digits_then : (base n v : ℕ) → (n ≡ 0 → ⊥) → in_base base (n - 1) (v / base) ++ (digit (v % base) ∷ []) ≡ in_base base n v
unfolding in_base
digits_then base zero v h = absurd (h refl)
digits_then base (suc n) v h = let e : suc n - 1 ≡ n = omega arith in rw e

pub digits_length : (base n v : ℕ) → length (in_base base n v) ≡ n
unfolding in_base
digits_length base zero v = refl
digits_length base (suc n) v = length-append (in_base base n (v / base)) (digit (v % base) ∷ []) ∙ (ap (λ (m : ℕ). m + 1) (digits_length base n (v / base)) ∙ omega arith)

-- how many digits a number has does not depend on the bound
within_one : (n v : ℕ) → v < 10 → places_within n v ≡ 1
within_one zero v h = refl
within_one (suc n) v h = rw (lt-ltb v 10 h)

within_step : (n m v : ℕ) → (10 ≤ v → places_within n (v / 10) ≡ places_within m (v / 10)) → Dec (v < 10) → places_within (suc n) v ≡ places_within (suc m) v
within_step n m v f (yes b) = rw (lt-ltb v 10 b)
within_step n m v f (no b) = rw (le-ltb v 10 (omega arith)) (ap suc (f (omega arith)))

within_any : (n m v : ℕ) → v ≤ n → v ≤ m → places_within n v ≡ places_within m v
within_any zero m v g h = sym (within_one m v (omega arith))
within_any (suc n) zero v g h = within_one (suc n) v (omega arith)
within_any (suc n) (suc m) v g h = within_step n m v (λ b. within_any n m (v / 10) (omega arith) (omega arith)) (dec_lt v 10)

pub places_one : (v : ℕ) → v < 10 → places_of v ≡ 1
unfolding places_of
places_one v h = within_one v v h

pub places_more : (v : ℕ) → 10 ≤ v → places_of v ≡ suc (places_of (v / 10))
unfolding places_of
places_more zero h = absurd (not-suc-le-zero h)
places_more (suc n) h = rw (le-ltb (suc n) 10 h) (ap suc (within_any n (suc n / 10) (suc n / 10) (omega arith) (omega arith)))

-- between two powers of ten
pub places_in : (k v : ℕ) → 10 ^ suc k ≤ v → v < 10 ^ suc (suc k) → places_of v ≡ suc (suc k)
places_in zero v g h = places_more v (omega arith) ∙ ap suc (places_one (v / 10) (omega arith))
places_in (suc k) v g h =
    let e = pow-suc 10 (suc k) in
    let f = pow-suc 10 (suc (suc k)) in
    let p = one-le-pow (suc k) 10 (omega arith) in
    places_more v (omega arith) ∙ ap suc (places_in k (v / 10) (omega arith) (omega arith))

-- a decimal number's last digit, and those before it
pub decimal_one : (v : ℕ) → v < 10 → decimal v ≡ digit v ∷ []
unfolding in_base
decimal_one v h = let e : v % 10 ≡ v = omega arith in rw (places_one v h, e)

pub decimal_more : (v : ℕ) → 10 ≤ v → decimal v ≡ decimal (v / 10) ++ (digit (v % 10) ∷ [])
unfolding in_base
decimal_more v h = rw (places_more v h)

up_to : (k v : ℕ) → places_of (v / 10) ≤ suc k → Dec (v < 10) → places_of v ≤ suc (suc k)
up_to k v h (yes b) = omega (arith, places_one v b)
up_to k v h (no b) = omega (arith, places_more v (omega arith))

pub places_up_to : (k v : ℕ) → v < 10 ^ suc k → places_of v ≤ suc k
places_up_to zero v h = omega (arith, places_one v (omega arith))
places_up_to (suc k) v h =
    let e = pow-suc 10 (suc k) in up_to k v (places_up_to k (v / 10) (omega arith)) (dec_lt v 10)

pub places_of_byte : (v : ℕ) → v < 256 → places_of v ≤ 3
places_of_byte v h = places_up_to 2 v (omega arith)

pub places_of_six : (v : ℕ) → v < 1000000 → places_of v ≤ 6
places_of_six v h = places_up_to 5 v (omega arith)

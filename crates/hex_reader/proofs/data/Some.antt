-- A test that one number below a bound passes, or none.
use mathlib.Core.Path.{◌≡◌, refl}
use mathlib.Core.Bool.{Bool, true, false}
use Prim.Native.Nat.{ℕ, zero, suc, ◌+◌, ◌<◌}
use native.Mathlib.Nat.{not-suc-le-zero}
use native.Mathlib.Decide.{dec_lt, ℕ_discrete}
use native.Mathlib.Omega.{arith}
use borrow.Author.Tests.{lt-ltb, le-ltb, le-leb, lt-leb, leb-false}
use lib.Dec.{ltb, leb}
use Rattle.laws.specs.Choice.{either}
use Rattle.laws.proofs.Choices.{neither_left, neither_right}
use Rattle.hex_reader.specs.Given.{some}

right_true : (a b : Bool) → b ≡ true → either a b ≡ true
right_true true b e = refl
right_true false b e = e

true_step : (f : ℕ → Bool) (n k : ℕ) → f k ≡ true → (k < n → some n f ≡ true) → k < suc n → Dec (k ≡ n) → some (suc n) f ≡ true
true_step f n k e g h (yes d) = rw (← d, e)
true_step f n k e g h (no d) = right_true (f n) (some n f) (g (omega arith))

pub some_true : (f : ℕ → Bool) (n k : ℕ) → k < n → f k ≡ true → some n f ≡ true
some_true f zero k h e = absurd (not-suc-le-zero h)
some_true f (suc n) k h e = true_step f n k e (λ l. some_true f n k l e) h (ℕ_discrete k n)

pub some_false : (f : ℕ → Bool) (n : ℕ) → ((k : ℕ) → k < n → f k ≡ false) → some n f ≡ false
some_false f zero h = refl
some_false f (suc n) h = rw (h n (omega arith), some_false f n (λ k l. h k (omega arith)))

false_step : (f : ℕ → Bool) (n k : ℕ) → some (suc n) f ≡ false → (k < n → f k ≡ false) → k < suc n → Dec (k ≡ n) → f k ≡ false
false_step f n k e g h (yes d) = rw d (neither_left (f n) (some n f) e)
false_step f n k e g h (no d) = g (omega arith)

pub none_true : (f : ℕ → Bool) (n : ℕ) → some n f ≡ false → (k : ℕ) → k < n → f k ≡ false
none_true f zero e k h = absurd (not-suc-le-zero h)
none_true f (suc n) e k h =
    false_step f n k e (λ l. none_true f n (neither_right (f n) (some n f) e) k l) h (ℕ_discrete k n)

pub same_some : (f g : ℕ → Bool) (n : ℕ) → ((k : ℕ) → k < n → f k ≡ g k) → some n f ≡ some n g
same_some f g zero h = refl
same_some f g (suc n) h = rw (h n (omega arith), same_some f g n (λ k l. h k (omega arith)))

-- bytes from an address on are past the image's end where the last one is
module _ (end address : ℕ) where
  past_by : (n : ℕ) → Dec (end < address + suc n) → ltb end (address + suc n) ≡ some (suc n) (λ k. leb end (address + k))
  past_by n (yes l) = rw (lt-ltb end (address + suc n) l, le-leb end (address + n) (omega arith))
  past_by n (no l) =
      rw (le-ltb end (address + suc n) (omega arith), lt-leb end (address + n) (omega arith), some_false (λ k. leb end (address + k)) n (λ k g. lt-leb end (address + k) (omega arith)))

  pub past-last : (n : ℕ) → (n ≡ 0 → ⊥) → ltb end (address + n) ≡ some n (λ k. leb end (address + k))
  past-last zero h = absurd (h refl)
  past-last (suc n) h = past_by n (dec_lt end (address + suc n))

  pub none-past : (n : ℕ) → some n (λ k. leb end (address + k)) ≡ false → (k : ℕ) → k < n → address + k < end
  none-past n e k h = leb-false end (address + k) (none_true (λ k. leb end (address + k)) n e k h)

pub clear_more : (f : ℕ → Bool) (i : ℕ) → ((k : ℕ) → k < i → f k ≡ false) → f i ≡ false → (k : ℕ) → k < i + 1 → f k ≡ false
clear_more f i h e k l = clear_by f i h e k l (ℕ_discrete k i)
  where
    clear_by : (f : ℕ → Bool) (i : ℕ) → ((k : ℕ) → k < i → f k ≡ false) → f i ≡ false → (k : ℕ) → k < i + 1 → Dec (k ≡ i) → f k ≡ false
    clear_by f i h e k l (yes d) = rw d e
    clear_by f i h e k l (no d) = h k (omega arith)

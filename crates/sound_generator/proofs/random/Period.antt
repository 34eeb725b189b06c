-- From any nine bits but nine zeros the random bits repeat after 511 and not earlier: one walk from each of them, that the checker computes.
use Prim.Native.Nat.{ℕ, zero, suc, ◌+◌, ◌-◌, ◌*◌, ◌/◌, ◌%◌, ◌<◌, ◌≤◌}
use mathlib.Core.Path.{◌≡◌, refl, sym, ap, ◌∙◌}
use mathlib.Core.Bool.{Bool, not}
use native.Mathlib.Nat.{not-suc-le-zero}
use native.Mathlib.Omega.{arith}
use lib.Dec.{T, eqb, eqb→eq, T_not}
use borrow.Author.Tests.{eq-eqb}
use Rattle.laws.specs.Choice.{both}
use Rattle.laws.proofs.Computed.{at, true→T, both_left, both_right}
use Rattle.sound_generator.specs.Random.{with_next, after, Random, Period}

-- from these bits, n more are never those of the start after any of them, and one more is
abbrev first_back : ℕ → ℕ → ℕ → Bool
unfolding with_next
first_back zero start bits = eqb (with_next bits) start
first_back (suc n) start bits = both (not (eqb (with_next bits) start)) (first_back n start (with_next bits))

walks : (k : ℕ) → k < 511 → T (first_back 510 (suc k) (suc k))
unfolding with_next
walks = at (λ k. first_back 510 (suc k) (suc k)) 511 tt

back : (n start bits : ℕ) → T (first_back n start bits) → after (suc n) bits ≡ start
unfolding after with_next
back zero start bits t = eqb→eq (with_next bits) start t
back (suc n) start bits t = back n start (with_next bits) (both_right (not (eqb (with_next bits) start)) (first_back n start (with_next bits)) t)

not_back : (n start bits k : ℕ) → T (first_back n start bits) → k < n → after (suc k) bits ≡ start → ⊥
unfolding after with_next
not_back zero start bits k t h e = not-suc-le-zero h
not_back (suc n) start bits zero t h e =
    T_not (eqb (with_next bits) start) (both_left (not (eqb (with_next bits) start)) (first_back n start (with_next bits)) t) (true→T (eq-eqb (with_next bits) start e))
not_back (suc n) start bits (suc k) t h e =
    not_back n start (with_next bits) k (both_right (not (eqb (with_next bits) start)) (first_back n start (with_next bits)) t) (omega arith) e

from_suc : (bits : ℕ) → Random bits → (P : ℕ → Type 0) → ((k : ℕ) → k < 511 → P (suc k)) → P bits
from_suc zero r P f = absurd (r.some refl)
from_suc (suc k) r P f = f k (omega arith)

walk : (bits : ℕ) → Random bits → T (first_back 510 bits bits)
walk bits r = from_suc bits r (λ b. T (first_back 510 b b)) walks

not_before : (bits k : ℕ) → Random bits → 0 < k → k < 511 → after k bits ≡ bits → ⊥
not_before bits zero r g h e = not-suc-le-zero g
not_before bits (suc k) r g h e = not_back 510 bits bits k (walk bits r) (omega arith) e

pub period : Period
period bits r = record { again = back 510 bits bits (walk bits r); not_earlier = λ k g h e. not_before bits k r g h e }

-- after some bits they are not nine zeros either
next_random? : (k : ℕ) → k < 511 → Random (with_next (suc k))
unfolding with_next
next_random? k h =
    record {
      nine = omega arith;
      some = λ e. T_not (eqb (with_next (suc k)) 0) (at (λ k. not (eqb (with_next (suc k)) 0)) 511 tt k h) (true→T (eq-eqb (with_next (suc k)) 0 e));
    }

pub next_random : (bits : ℕ) → Random bits → Random (with_next bits)
next_random bits r = from_suc bits r (λ b. Random (with_next b)) next_random?

pub after_random : (n bits : ℕ) → Random bits → Random (after n bits)
unfolding after
after_random zero bits r = r
after_random (suc n) bits r = after_random n (with_next bits) (next_random bits r)

-- whole periods change nothing
pub after_add : (a b bits : ℕ) → after (a + b) bits ≡ after b (after a bits)
unfolding after
after_add zero b bits = let e : 0 + b ≡ b = omega arith in rw e
after_add (suc a) b bits = let e : suc a + b ≡ suc (a + b) = omega arith in rw e (after_add a b (with_next bits))

periods : (q n bits : ℕ) → Random bits → after (q * 511 + n) bits ≡ after n bits
periods zero n bits r = let e : 0 * 511 + n ≡ n = omega arith in rw e
periods (suc q) n bits r =
    let e : suc q * 511 + n ≡ 511 + (q * 511 + n) = omega arith in
    rw (e, after_add 511 (q * 511 + n) bits, (period bits r).again) (periods q n bits r)

pub after_rest : (n bits : ℕ) → Random bits → after (n % 511) bits ≡ after n bits
after_rest n bits r =
    let e : n / 511 * 511 + n % 511 ≡ n = omega arith in
    sym (periods (n / 511) (n % 511) bits r) ∙ ap (λ (m : ℕ). after m bits) e

-- a bit less to come, and none
pub after_less : (n k bits : ℕ) → k < n → after (n - k) bits ≡ after (n - (k + 1)) (with_next bits)
unfolding after
after_less n k bits h = let e : n - k ≡ suc (n - (k + 1)) = omega arith in rw e

pub after_none : (n k bits : ℕ) → n ≤ k → after (n - k) bits ≡ bits
unfolding after
after_none n k bits h = let e : n - k ≡ 0 = omega arith in rw e

-- the sum modulo 2 may be taken of what stands above the two bits too
pub next_code : (bits : ℕ) → bits < 512 → (bits * 2 + (bits / 256 + bits / 16) % 2) % 512 ≡ with_next bits
unfolding with_next
next_code bits h = eqb→eq ((bits * 2 + (bits / 256 + bits / 16) % 2) % 512) (with_next bits) (at (λ b. eqb ((b * 2 + (b / 256 + b / 16) % 2) % 512) (with_next b)) 512 tt bits h)

-- Laws of the set of due sources: the allowed latches, of which the due source is the highest; it is empty where none is due.
use Prim.Native.Nat.{ℕ, ◌*◌, ◌%◌, ◌<◌}
use mathlib.Core.Path.{◌≡◌, ap}
use mathlib.Core.Bool.{Bool, true, not}
use lib.Dec.{T, eqb, eqb→eq, ltb}
use lib.Bits.{bit_and, bit_or}
use borrow.Author.Tests.{eq-eqb, ne_eqb}
use Rattle.laws.proofs.Computed.{implies, modus, true→T, T→true, below, at}
use Rattle.bits.specs.Bits.{highest_bit}
use Rattle.due.specs.Due.{due_source}
use Rattle.step_why.specs.Why.{due_set}

-- a test of each set of latches and each mask
abbrev each : (ℕ → ℕ → Bool) → Bool
each f = below 64 (λ il. below 16 (λ mask. f il mask))

each_at : (f : ℕ → ℕ → Bool) → T (each f) → (il mask : ℕ) → il < 64 → mask < 16 → T (f il mask)
each_at f t il mask h k = at (λ mask. f il mask) 16 (at (λ il. below 16 (λ mask. f il mask)) 64 t il h) mask k

abbrev allowed : ℕ → ℕ → ℕ
allowed il mask = bit_and il (bit_or (bit_or (bit_and mask 6 * 2 % 256) (bit_and mask 3)) 32)

pub by_pattern : (il mask : ℕ) → il < 64 → mask < 16 → allowed il mask ≡ due_set il mask
unfolding due_set
by_pattern il mask h k =
    eqb→eq (allowed il mask) (due_set il mask) (each_at (λ il mask. eqb (allowed il mask) (due_set il mask)) tt il mask h k)

pub first_is_highest : (il mask : ℕ) → il < 64 → mask < 16 → highest_bit (due_set il mask) ≡ due_source il mask
unfolding highest_bit due_source due_set
first_is_highest il mask h k =
    eqb→eq (highest_bit (due_set il mask)) (due_source il mask)
    (each_at (λ il mask. eqb (highest_bit (due_set il mask)) (due_source il mask)) tt il mask h k)

-- nothing latched, nothing due
pub none_latched : (il mask : ℕ) → il ≡ 0 → due_set il mask ≡ 0
unfolding due_set
none_latched il mask e = rw e

module _ (il mask : ℕ) (six : il < 64) (four : mask < 16) where
  pub none-due : due_set il mask ≡ 0 → due_source il mask ≡ 6
  unfolding due_source due_set
  none-due e =
      eqb→eq (due_source il mask) 6
      (modus (eqb (due_set il mask) 0) (eqb (due_source il mask) 6) (each_at (λ il mask. implies (eqb (due_set il mask) 0) (eqb (due_source il mask) 6)) tt il mask six four) (true→T (eq-eqb (due_set il mask) 0 e)))

  pub due-none : due_source il mask ≡ 6 → due_set il mask ≡ 0
  unfolding due_source due_set
  due-none e =
      eqb→eq (due_set il mask) 0
      (modus (eqb (due_source il mask) 6) (eqb (due_set il mask) 0) (each_at (λ il mask. implies (eqb (due_source il mask) 6) (eqb (due_set il mask) 0)) tt il mask six four) (true→T (eq-eqb (due_source il mask) 6 e)))

  pub some-due : (due_set il mask ≡ 0 → ⊥) → ltb (due_source il mask) 6 ≡ true
  unfolding due_source due_set
  some-due n =
      T→true (ltb (due_source il mask) 6)
      (modus (not (eqb (due_set il mask) 0)) (ltb (due_source il mask) 6) (each_at (λ il mask. implies (not (eqb (due_set il mask) 0)) (ltb (due_source il mask) 6)) tt il mask six four) (true→T (ap not (ne_eqb (due_set il mask) 0 n))))

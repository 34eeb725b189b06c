-- Laws of periods: their exponents as the code has them.
use mathlib.Core.Path.{◌≡◌, subst}
use mathlib.Core.Bool.{Bool, true, false}
use mathlib.Core.List.{List, [], ◌∷◌}
use Prim.Native.Nat.{ℕ, suc, ◌+◌, ◌*◌, ◌/◌, ◌%◌, ◌^◌, ◌<◌, ◌≤◌}
use native.Mathlib.Nat.{mod-eq_of_lt, div-mul-le_self}
use native.Mathlib.Decide.{ℕ_discrete}
use native.Mathlib.Omega.{arith}
use lib.Dec.{T, eqb, eqb→eq, leb, leb→le, ltb, lt→ltb}
use lib.ListN.{get_or}
use lib.Pow.{split}
use borrow.Author.Tests.{eq-eqb, ne_eqb}
use Rattle.laws.proofs.Computed.{at, where_at, T→true}
use Rattle.std.proofs.Common.{Option, Some, None}
use Rattle.clock.specs.Clock.{is_multiple, timer_exponent, tbi_exponent, tbi_sets}

-- the exponents, as the code has them
pub timer_exponent_lem : (b : ℕ) → b < 4 → timer_exponent b ≡ 10 + 4 * b
unfolding timer_exponent
timer_exponent_lem b h = eqb→eq (timer_exponent b) (10 + 4 * b) (at (λ b. eqb (timer_exponent b) (10 + 4 * b)) 4 tt b h)

-- the exponent in an entry of the code's table, 0 where it has none; and an entry has none or more than 0
abbrev exponent_in : Option ℕ → ℕ
exponent_in None = 0
exponent_in (Some k) = k

abbrev none_or_more : Option ℕ → Bool
none_or_more None = true
none_or_more (Some k) = ltb 0 k

abbrev pub tbi_table : List (Option ℕ)
tbi_table = None ∷ None ∷ None ∷ None ∷ Some 10 ∷ Some 11 ∷ Some 12 ∷ Some 13 ∷ None ∷ None ∷ None ∷ None ∷ Some 9 ∷ Some 8 ∷ Some 15 ∷ Some 17 ∷ []

module _ (p : ℕ) (h : p < 16) where
  exponent_at : exponent_in (get_or tbi_table p None) ≡ tbi_exponent p
  unfolding tbi_exponent
  exponent_at =
      eqb→eq (exponent_in (get_or tbi_table p None)) (tbi_exponent p)
      (at (λ p. eqb (exponent_in (get_or tbi_table p None)) (tbi_exponent p)) 16 tt p h)

  pub set_off : (base : ℕ) → get_or tbi_table p None ≡ None → false ≡ tbi_sets p base
  set_off base e = rw (← exponent_at, e)

  pub set_on : (k base : ℕ) → get_or tbi_table p None ≡ Some k → is_multiple k base ≡ tbi_sets p base
  set_on k base e =
      let more : T (ltb 0 k) = subst (λ (o : Option ℕ). T (none_or_more o)) e (at (λ p. none_or_more (get_or tbi_table p None)) 16 tt p h) in
      let sure : ltb 0 k ≡ true = T→true (ltb 0 k) more in
      rw (← exponent_at, e, sure)

-- a time base period is one that a shift of 32 bits has, and at least 256
pub tbi_fits : (p : ℕ) → p < 16 → tbi_exponent p < 32
unfolding tbi_exponent
tbi_fits p h = leb→le (suc (tbi_exponent p)) 32 (at (λ p. ltb (tbi_exponent p) 32) 16 tt p h)

pub tbi_coarse : (p : ℕ) → p < 16 → 0 < tbi_exponent p → 8 ≤ tbi_exponent p
unfolding tbi_exponent
tbi_coarse p h l =
    leb→le 8 (tbi_exponent p)
    (where_at (λ p. ltb 0 (tbi_exponent p)) (λ p. leb 8 (tbi_exponent p)) 16 tt p h (lt→ltb 0 (tbi_exponent p) l))

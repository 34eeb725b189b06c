-- Every period is a multiple of 256: between two such multiples nothing but the time base changes. And passing n cycles, cycle by cycle.
use mathlib.Core.Path.{◌≡◌, ap, subst, ◌∙◌}
use mathlib.Core.Bool.{Bool, false}
use Prim.Native.Nat.{ℕ, zero, suc, ◌+◌, ◌-◌, ◌*◌, ◌/◌, ◌%◌, ◌^◌, ◌<◌, ◌≤◌}
use native.Mathlib.Nat.{mod-lt}
use native.Mathlib.Decide.{dec_lt}
use native.Mathlib.Omega.{arith}
use lib.Dec.{eqb, ltb, lit<}
use lib.Pow.{mod-mod-pow}
use borrow.Author.Tests.{ne_eqb, le-ltb}
use Rattle.laws.specs.Choice.{both}
use Rattle.laws.proofs.Choices.{both_false}
use Rattle.clock.specs.Clock.{is_multiple, timer_exponent, runs, counts, tbi_exponent, tbi_sets, gained, met, tick, passed, event_count}
use Rattle.clock.specs.declared.Time.{Time}
use Rattle.clock.specs.declared.Rates.{Rates}
use Rattle.clock.proofs.Periods.{timer_exponent_lem, tbi_coarse}

no_multiple : (k n : ℕ) → 8 ≤ k → (n % 256 ≡ 0 → ⊥) → is_multiple k n ≡ false
no_multiple k n h ne =
    let s : k - 8 + 8 ≡ k = omega arith in
    let m : n % 2 ^ k % 2 ^ 8 ≡ n % 2 ^ 8 = subst (λ (j : ℕ). n % 2 ^ j % 2 ^ 8 ≡ n % 2 ^ 8) s (mod-mod-pow n (k - 8) 8) in
    ne_eqb (n % 2 ^ k) 0 (λ e. ne (omega arith))

counts_quiet : (s : ℕ) (pin : Bool) (n : ℕ) → (n % 256 ≡ 0 → ⊥) → counts s pin n ≡ false
counts_quiet s pin n ne =
    ap (both (runs (s / 4) pin)) (no_multiple (timer_exponent (s % 4)) n (omega (arith, timer_exponent_lem (s % 4) (mod-lt s (lit< tt)))) ne) ∙ both_false (runs (s / 4) pin)

tbi? : (p n : ℕ) → p < 16 → (n % 256 ≡ 0 → ⊥) → Dec (0 < tbi_exponent p) → tbi_sets p n ≡ false
tbi? p n h ne (yes l) = rw (no_multiple (tbi_exponent p) n (tbi_coarse p h l) ne) (both_false (ltb 0 (tbi_exponent p)))
tbi? p n h ne (no off) = rw (le-ltb 0 (tbi_exponent p) (omega arith))

pub tbi_quiet : (p n : ℕ) → p < 16 → (n % 256 ≡ 0 → ⊥) → tbi_sets p n ≡ false
tbi_quiet p n h ne = tbi? p n h ne (dec_lt 0 (tbi_exponent p))

pub met_quiet : (r : Rates) (t : Time) → r.p25 < 16 → (t.base % 256 ≡ 0 → ⊥) → met r t ≡ t
unfolding met
met_quiet r t h ne =
    rw (counts_quiet r.p28 r.p83 t.base ne, counts_quiet r.p29 r.p81 t.base ne, tbi_quiet r.p25 t.base h ne)

-- a cycle at whose end no multiple of 256 is met moves the time base alone
pub tick_quiet : (r : Rates) (t : Time) → r.p25 < 16 → ((gained t).base % 256 ≡ 0 → ⊥) → tick r t ≡ gained t
unfolding tick
tick_quiet r t h ne = met_quiet r (gained t) h ne

-- and so do n cycles that meet none
abbrev pub later : ℕ → Time → Time
later d t = record { base = t.base + d; ta = t.ta; tb = t.tb; il = t.il }

pub passed_quiet : (n : ℕ) (r : Rates) (t : Time) → r.p25 < 16 → t.base < 2 ^ 22 → t.base % 256 + 8 * n < 256 → passed n r t ≡ later (8 * n) t
unfolding passed
passed_quiet zero r t h b l = ap (λ (x : ℕ). record { base = x; ta = t.ta; tb = t.tb; il = t.il }) (omega arith)
passed_quiet (suc n) r t h b l =
    ap (passed n r) (tick_quiet r t h (λ e. omega arith))
    ∙ passed_quiet n r (gained t) h (omega arith) (omega arith)
    ∙ ap (λ (x : ℕ). record { base = x; ta = t.ta; tb = t.tb; il = t.il }) (omega arith)

-- no edge, no count
pub no_event : (p28 p29 : ℕ) (t : Time) → event_count p28 p29 false false t ≡ t
unfolding event_count
no_event p28 p29 t = rw (both_false (eqb (p28 / 4) 1), both_false (eqb (p29 / 4) 1))

-- the time base after n cycles
pub passed_base : (n : ℕ) (r : Rates) (t : Time) → t.base < 2 ^ 22 → (passed n r t).base ≡ (t.base + 8 * n) % 2 ^ 22
unfolding passed tick met
passed_base zero r t b = omega arith
passed_base (suc n) r t b = passed_base n r (tick r t) (omega arith) ∙ omega arith

-- a cycle less to pass
pub passed_less : (n k : ℕ) (r : Rates) (t : Time) → k < n → passed (n - k) r t ≡ passed (n - (k + 1)) r (tick r t)
unfolding passed
passed_less n k r t h = let e : n - k ≡ suc (n - (k + 1)) = omega arith in rw e

pub passed_none : (n k : ℕ) (r : Rates) (t : Time) → n ≤ k → passed (n - k) r t ≡ t
unfolding passed
passed_none n k r t h = let e : n - k ≡ 0 = omega arith in rw e

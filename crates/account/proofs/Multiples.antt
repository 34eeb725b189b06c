-- How many multiples of a period are met: a sum over the cycles, and a difference of quotients.
use mathlib.Core.Path.{◌≡◌, refl, sym, ap, subst, ◌∙◌}
use mathlib.Core.Bool.{true, false}
use Prim.Native.Nat.{ℕ, zero, suc, ◌+◌, ◌-◌, ◌*◌, ◌/◌, ◌%◌, ◌^◌, ◌<◌, ◌≤◌}
use native.Mathlib.Decide.{dec_lt}
use native.Mathlib.Nat.{mod-lt}
use native.Mathlib.Omega.{arith}
use lib.Dec.{eqb}
use lib.Pow.{pow_pos, pow-add, split, high, low, mod-mod-pow}
use borrow.Author.Tests.{eq-eqb, ne_eqb}
use Rattle.bits.specs.Bits.{bit_of}
use Rattle.clock.specs.Clock.{is_multiple}
use Rattle.account.specs.Account.{multiples_met, MetByQuotients}

-- some cycles and then more
pub met_sum : (e base a b : ℕ) → base < 2 ^ 22 → multiples_met e base (a + b) ≡ multiples_met e base a + multiples_met e ((base + 8 * a) % 2 ^ 22) b
met_sum e base zero b h = let z : 0 + b ≡ b = omega arith in let s : (base + 8 * 0) % 2 ^ 22 ≡ base = omega arith in rw (z, s) (omega arith)
met_sum e base (suc a) b h =
    let z : suc a + b ≡ suc (a + b) = omega arith in
    let s : ((base + 8) % 2 ^ 22 + 8 * a) % 2 ^ 22 ≡ (base + 8 * suc a) % 2 ^ 22 = omega arith in
    let rest = met_sum e ((base + 8) % 2 ^ 22) a b (omega arith) in
    rw z (omega (arith, rw s at rest))

-- a period is a multiple of 8, and so is what a multiple of 8 leaves by it
eighths : (e : ℕ) → 3 ≤ e → 2 ^ e % 8 ≡ 0
eighths e h =
    let s : e - 3 + 3 ≡ e = omega arith in
    let p : 2 ^ e ≡ 2 ^ (e - 3) * 8 = subst (λ (j : ℕ). 2 ^ j ≡ 2 ^ (e - 3) * 8) s (pow-add 2 (e - 3) 3) in
    omega (arith, p)

left_eighths : (e x : ℕ) → 3 ≤ e → x % 8 ≡ 0 → x % 2 ^ e % 8 ≡ 0
left_eighths e x h z =
    let s : e - 3 + 3 ≡ e = omega arith in
    subst (λ (j : ℕ). x % 2 ^ j % 8 ≡ x % 8) s (mod-mod-pow x (e - 3) 3) ∙ z

-- a cycle adds one to the quotient exactly where it ends at a multiple
quotient? : (e q r : ℕ) → r % 8 ≡ 0 → 2 ^ e % 8 ≡ 0 → r < 2 ^ e → Dec (r + 8 < 2 ^ e) → (q * 2 ^ e + r + 8) / 2 ^ e ≡ bit_of (is_multiple e (q * 2 ^ e + r + 8)) + q
quotient? e q r z p h (yes l) =
    let s : q * 2 ^ e + r + 8 ≡ q * 2 ^ e + (r + 8) = omega arith in
    let none : is_multiple e (q * 2 ^ e + (r + 8)) ≡ false = ne_eqb _ 0 (λ n. omega (arith, sym (low q e l) ∙ n)) in
    rw (s, high q e l, none) (omega arith)
quotient? e q r z p h (no n) =
    let s : q * 2 ^ e + r + 8 ≡ suc q * 2 ^ e + 0 = omega arith in
    let met : is_multiple e (suc q * 2 ^ e + 0) ≡ true = eq-eqb _ 0 (low (suc q) e (pow_pos e)) in
    rw (s, high (suc q) e (pow_pos e), met) (omega arith)

quotient_step : (e x : ℕ) → 3 ≤ e → x % 8 ≡ 0 → (x + 8) / 2 ^ e ≡ bit_of (is_multiple e (x + 8)) + x / 2 ^ e
quotient_step e x h z =
    subst (λ (y : ℕ). (y + 8) / 2 ^ e ≡ bit_of (is_multiple e (y + 8)) + x / 2 ^ e) (split x e)
    (quotient? e (x / 2 ^ e) (x % 2 ^ e) (left_eighths e x h z) (eighths e h) (mod-lt x (pow_pos e)) (dec_lt (x % 2 ^ e + 8) (2 ^ e)))

-- the time base is a number modulo 2^22, of which every period is a divisor: the count goes by any number that leaves the same
wraps : (e x : ℕ) → e ≤ 22 → is_multiple e (x % 2 ^ 22) ≡ is_multiple e x
wraps e x h =
    let s : 22 - e + e ≡ 22 = omega arith in
    ap (λ (y : ℕ). eqb y 0) (subst (λ (j : ℕ). x % 2 ^ j % 2 ^ e ≡ x % 2 ^ e) s (mod-mod-pow x (22 - e) e))

met_over : (e base x n : ℕ) → 3 ≤ e → e ≤ 22 → base % 2 ^ 22 ≡ x % 2 ^ 22 → x % 8 ≡ 0 → multiples_met e base n + x / 2 ^ e ≡ (x + 8 * n) / 2 ^ e
met_over e base x zero l h s z = let none : x + 8 * 0 ≡ x = omega arith in rw none (omega arith)
met_over e base x (suc n) l h s z =
    let next : (base + 8) % 2 ^ 22 ≡ (x + 8) % 2 ^ 22 = omega arith in
    let now : bit_of (is_multiple e ((base + 8) % 2 ^ 22)) ≡ bit_of (is_multiple e (x + 8)) = ap bit_of (ap (is_multiple e) next ∙ wraps e (x + 8) h) in
    let rest = met_over e ((base + 8) % 2 ^ 22) (x + 8) n l h (omega arith) (omega arith) in
    let ends : (x + 8 + 8 * n) / 2 ^ e ≡ (x + 8 * suc n) / 2 ^ e = ap (λ (y : ℕ). y / 2 ^ e) (omega arith) in
    let q = quotient_step e x l z in
    omega (arith, now, rest, ends, q)

pub met_by_quotients : MetByQuotients
met_by_quotients e base n l h z = let m = met_over e base base n l h refl z in omega (arith, m)

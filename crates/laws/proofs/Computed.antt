-- A test that the checker computes for all numbers below a bound, carried to each of them.
use mathlib.Core.Path.{◌≡◌, refl, sym, ap, subst, ◌∙◌}
use mathlib.Core.Bool.{Bool, true, false, not}
use mathlib.Core.List.{List, [], ◌∷◌}
use Prim.Native.Nat.{ℕ, zero, suc, ◌+◌, ◌<◌}
use native.Mathlib.Omega.{arith}
use native.Mathlib.Nat.{not-suc-le-zero, add-zero, zero-add, add-suc, suc-add}
use native.Mathlib.Decide.{ℕ_discrete}
use lib.ListN.{get_or}
use lib.Dec.{T, eqb, eqb→eq, not_T}
use Rattle.laws.specs.Choice.{both}

abbrev pub implies : Bool → Bool → Bool
implies true b = b
implies false b = true

-- the test f passes at each number below n
abbrev pub below : ℕ → (ℕ → Bool) → Bool
below zero f = true
below (suc n) f = both (f n) (below n f)

pub true→T : {b : Bool} → b ≡ true → T b
true→T e = subst T (sym e) tt

pub T→true : (b : Bool) → T b → b ≡ true
T→true true t = refl
T→true false t = absurd t

pub both_left : (a b : Bool) → T (both a b) → T a
both_left true b t = tt
both_left false b t = t

pub both_right : (a b : Bool) → T (both a b) → T b
both_right true b t = t
both_right false b t = absurd t

pub both_i : (a b : Bool) → T a → T b → T (both a b)
both_i true b s t = t
both_i false b s t = absurd s

pub modus : (a b : Bool) → T (implies a b) → T a → T b
modus true b t h = t
modus false b t h = absurd h

at_step : (f : ℕ → Bool) (n k : ℕ) → T (f n) → (k < n → T (f k)) → k < suc n → Dec (k ≡ n) → T (f k)
at_step f n k s g h (yes e) = subst (λ (m : ℕ). T (f m)) (sym e) s
at_step f n k s g h (no ne) = g (omega arith)

pub at : (f : ℕ → Bool) (n : ℕ) → T (below n f) → (k : ℕ) → k < n → T (f k)
at f zero t k h = absurd (not-suc-le-zero h)
at f (suc n) t k h =
    at_step f n k (both_left (f n) (below n f) t) (λ g. at f n (both_right (f n) (below n f) t) k g) h (ℕ_discrete k n)

-- the test f, where the test g passes
pub where_at : (g f : ℕ → Bool) (n : ℕ) → T (below n (λ k. implies (g k) (f k))) → (k : ℕ) → k < n → T (g k) → T (f k)
where_at g f n t k h e = modus (g k) (f k) (at (λ k. implies (g k) (f k)) n t k h) e

-- a number that is no key of a `match`: the last arm's key first, as the checker has them
abbrev pub NoKey : ℕ → List ℕ → Type 0
NoKey d [] = Unit
NoKey d (k ∷ ks) = NoKey d ks × (d ≡ k → ⊥)

abbrev pub out : List ℕ → ℕ → Bool
out [] d = true
out (k ∷ ks) d = both (not (eqb d k)) (out ks d)

no_key_out : (ks : List ℕ) (d : ℕ) → NoKey d ks → T (out ks d)
no_key_out [] d r = tt
no_key_out (k ∷ ks) d r =
    both_i (not (eqb d k)) (out ks d) (not_T (eqb d k) (λ t. r.1 (eqb→eq d k t))) (no_key_out ks d r.0)

-- the test f, at a number that is no key
pub rest_at : (f : ℕ → Bool) (ks : List ℕ) (n : ℕ) → T (below n (λ k. implies (out ks k) (f k))) → (d : ℕ) → d < n → NoKey d ks → T (f d)
rest_at f ks n t d h r = where_at (out ks) f n t d h (no_key_out ks d r)

-- what f gives from i on, n of them: a constant table is such a list, and each of its entries what f gives
abbrev pub listed : (ℕ → ℕ) → ℕ → ℕ → List ℕ
listed f i zero = []
listed f i (suc n) = f i ∷ listed f (suc i) n

listed_from : (f : ℕ → ℕ) (i n k : ℕ) → k < n → get_or (listed f i n) k 0 ≡ f (i + k)
listed_from f i zero k h = absurd (not-suc-le-zero h)
listed_from f i (suc n) zero h = ap f (sym (add-zero i))
listed_from f i (suc n) (suc k) h = listed_from f (suc i) n k (omega arith) ∙ ap f (suc-add i k ∙ sym (add-suc i k))

pub listed_at : (f : ℕ → ℕ) (n k : ℕ) → k < n → get_or (listed f 0 n) k 0 ≡ f k
listed_at f n k h = listed_from f 0 n k h ∙ ap f (zero-add k)

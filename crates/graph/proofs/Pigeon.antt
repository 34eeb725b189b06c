-- The pigeonhole: a function from 0 .. n to the numbers below n takes a value twice.
use mathlib.Core.Path.{◌≡◌, sym, ◌∙◌}
use mathlib.Core.Logic.{◌⊎◌, inl, inr, ⊎_elim}
use Prim.Native.Nat.{ℕ, zero, suc, ◌<◌}
use native.Mathlib.Nat.{not-suc-le-zero}
use native.Mathlib.Omega.{arith}
use native.Mathlib.Decide.{ℕ_discrete}

-- x is a value of f below m, or not
find : (f : ℕ → ℕ) (x m : ℕ) → ((i : ℕ) × (i < m) × (f i ≡ x)) ⊎ ((i : ℕ) → i < m → f i ≡ x → ⊥)
find f x zero = inr (λ i l e. not-suc-le-zero l)
find f x (suc m) = go (find f x m) (ℕ_discrete (f m) x)
  where
    go : ((i : ℕ) × (i < m) × (f i ≡ x)) ⊎ ((i : ℕ) → i < m → f i ≡ x → ⊥) → Dec (f m ≡ x) → ((i : ℕ) × (i < suc m) × (f i ≡ x)) ⊎ ((i : ℕ) → i < suc m → f i ≡ x → ⊥)
    go (inl a) d = inl (a.0, omega (arith, a.1), a.2)
    go (inr b) (yes e) = inl (m, omega arith, e)
    go (inr b) (no n) = inr (λ i l e. last i l e (ℕ_discrete i m))
      where
        last : (i : ℕ) → i < suc m → f i ≡ x → Dec (i ≡ m) → ⊥
        last i l e (yes q) = n (rw q at e)
        last i l e (no q) = b i (omega arith) e

-- y in the place of m
sub : {x m : ℕ} → ℕ → Dec (x ≡ m) → ℕ
sub y (yes e) = y
sub {x} y (no n) = x

unfoldable pub Twice : (ℕ → ℕ) → ℕ → Type 0
Twice f n = (i : ℕ) × (j : ℕ) × (i < j) × (j < suc n) × (f i ≡ f j)

pigeon_suc : (m : ℕ) → ((f : ℕ → ℕ) → ((i : ℕ) → i < suc m → f i < m) → Twice f m) → (f : ℕ → ℕ) → ((i : ℕ) → i < suc (suc m) → f i < suc m)
    → ((i : ℕ) → i < suc m → f i ≡ f (suc m) → ⊥) → Twice f (suc m)
unfolding sub Twice
pigeon_suc m ih f below new =
    let t = ih g (λ i l. low i l (ℕ_discrete (f i) m)) in
    (t.0, t.1, t.2, omega (arith, t.3), back t.0 t.1 (omega (arith, t.2, t.3)) t.3 (ℕ_discrete (f t.0) m) (ℕ_discrete (f t.1) m) t.4)
  where
    g : ℕ → ℕ
    g i = sub (f (suc m)) (ℕ_discrete (f i) m)

    low : (i : ℕ) → i < suc m → (q : Dec (f i ≡ m)) → sub (f (suc m)) q < m
    low i l (yes e) =
        let other : f (suc m) ≡ m → ⊥ = λ e'. new i l (e ∙ sym e') in
        omega (arith, below (suc m) (omega arith), other)
    low i l (no n) = omega (arith, below i (omega arith), n)

    back : (i j : ℕ) → i < suc m → j < suc m → (p : Dec (f i ≡ m)) (q : Dec (f j ≡ m)) → sub (f (suc m)) p ≡ sub (f (suc m)) q → f i ≡ f j
    back i j li lj (yes p) (yes q) e = p ∙ sym q
    back i j li lj (yes p) (no q) e = absurd (new j lj (sym e))
    back i j li lj (no p) (yes q) e = absurd (new i li e)
    back i j li lj (no p) (no q) e = e

pub pigeon : (n : ℕ) (f : ℕ → ℕ) → ((i : ℕ) → i < suc n → f i < n) → Twice f n
unfolding Twice
pigeon zero f below = absurd (not-suc-le-zero (below 0 (omega arith)))
pigeon (suc m) f below =
    ⊎_elim (λ a. (a.0, suc m, a.1, omega arith, a.2)) (λ b. pigeon_suc m (pigeon m) f below b) (find f (f (suc m)) (suc m))

-- Where a relation on numbers below n never leads back, it can be followed only so far.
use mathlib.Core.Path.{◌≡◌}
use mathlib.Core.List.{List, [], ◌∷◌}
use Prim.Native.Nat.{ℕ, zero, suc, ◌+◌, ◌<◌}
use native.Mathlib.Nat.{not-suc-le-zero}
use native.Mathlib.Omega.{arith}
use native.Mathlib.Decide.{ℕ_discrete}
use lib.ListN.{length, get_or}
use Rattle.graph.proofs.Pigeon.{Twice, pigeon}
use Rattle.routines.specs.Calling.{Plus, once, more}

-- what can be followed from v ends
pub data Acc (R : ℕ → ℕ → Type 0) : ℕ → Type 0 where
  acc : {v : ℕ} → ((w : ℕ) → R v w → Acc R w) → Acc R v

pub plus_snoc : {R : ℕ → ℕ → Type 0} {a b c : ℕ} → Plus R a b → R b c → Plus R a c
plus_snoc (once x) y = more x (once y)
plus_snoc (more x p) y = more x (plus_snoc p y)

-- the way to v, the latest first
pub data Trail (R : ℕ → ℕ → Type 0) (P : ℕ → Type 0) : ℕ → List ℕ → Type 0 where
  alone : {v : ℕ} → Trail R P v []
  by : {u v : ℕ} {l : List ℕ} → P u → R u v → Trail R P u l → Trail R P v (u ∷ l)

trail_in : {R : ℕ → ℕ → Type 0} {P : ℕ → Type 0} {v : ℕ} {l : List ℕ} → P v → Trail R P v l → (i : ℕ) → i < suc (length l) → P (get_or (v ∷ l) i 0)
trail_in p t zero h = p
trail_in p alone (suc i) h = absurd (omega (arith, h))
trail_in p (by q r t) (suc i) h = trail_in q t i (omega (arith, h))

trail_between : {R : ℕ → ℕ → Type 0} {P : ℕ → Type 0} {v : ℕ} {l : List ℕ} → Trail R P v l → (i j : ℕ) → i < j → j < suc (length l) → Plus R (get_or (v ∷ l) j 0) (get_or (v ∷ l) i 0)
trail_between alone i j h t = absurd (omega (arith, h, t))
trail_between (by p r s) zero zero h t = absurd (not-suc-le-zero h)
trail_between (by p r s) zero (suc zero) h t = once r
trail_between (by p r s) zero (suc (suc j)) h t = plus_snoc (trail_between s zero (suc j) (omega arith) (omega (arith, t))) r
trail_between (by p r s) (suc i) zero h t = absurd (not-suc-le-zero h)
trail_between (by p r s) (suc i) (suc j) h t = trail_between s i j (omega (arith, h)) (omega (arith, t))

module _ (R : ℕ → ℕ → Type 0) (P : ℕ → Type 0) (n : ℕ) (closed : (v w : ℕ) → P v → R v w → P w) (small : (v : ℕ) → P v → v < n) (no-cycle : (v : ℕ) → P v → Plus R v v → ⊥) where
  pub too_long : (v : ℕ) (l : List ℕ) → P v → Trail R P v l → length l ≡ n → ⊥
  unfolding Twice
  too_long v l p t e =
      let q = pigeon n (λ i. get_or (v ∷ l) i 0) (λ i h. small (get_or (v ∷ l) i 0) (trail_in p t i (omega (arith, h, e)))) in
      no-cycle (get_or (v ∷ l) q.0 0) (trail_in p t q.0 (omega (arith, q.2, q.3, e))) (rw (← q.4) at (trail_between t q.0 q.1 q.2 (omega (arith, q.3, e))))

  follow : (k v : ℕ) (l : List ℕ) → P v → Trail R P v l → length l + k ≡ n → Acc R v
  follow zero v l p t e = absurd (too_long v l p t (omega arith))
  follow (suc k) v l p t e = acc (λ w r. follow k w (v ∷ l) (closed v w p r) (by p r t) (omega arith))

  pub accessible : (v : ℕ) → P v → Acc R v
  accessible v p = follow n v [] p alone (omega arith)

  -- a way back is shorter than n
  pub trail-few : (v : ℕ) (l : List ℕ) → P v → Trail R P v l → length l < n
  trail-few v l p alone = omega (arith, small v p)
  trail-few v l p (by {u = u} {l = t} q r s) = go (trail-few u t q s) (ℕ_discrete (suc (length t)) n)
    where
      go : length t < n → Dec (suc (length t) ≡ n) → suc (length t) < n
      go h (yes e) = absurd (too_long v (u ∷ t) p (by q r s) e)
      go h (no e) = omega arith

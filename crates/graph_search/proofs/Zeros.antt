-- Laws on the elements of a list that are 0, and on a store.
use mathlib.Core.Path.{◌≡◌, refl, ap}
use mathlib.Core.List.{List, [], ◌∷◌}
use Prim.Native.Nat.{ℕ, zero, suc, ◌+◌, ◌≤◌, ◌<◌}
use native.Mathlib.Nat.{not-suc-le-zero, le_of_suc-le-suc}
use native.Mathlib.Omega.{arith}
use native.Mathlib.Decide.{ℕ_discrete, dec_lt}
use lib.ListN.{length, get_or, set, replicate, get_or-eq_default}
use lib.Seq.{get_or-set_same, get_or-set_other}
use mir.Val.{Fits}
use mir.Syntax.{w16, w64}
use Rattle.graph_search.specs.Marks.{Marked, Blank, Within, zeros}

pub zeros_set : (l : List ℕ) (i x : ℕ) → i < length l → get_or l i 0 ≡ 0 → zeros (set l i (suc x)) + 1 ≡ zeros l
unfolding zeros
zeros_set [] i x h e = absurd (not-suc-le-zero h)
zeros_set (zero ∷ l) zero x h e = omega arith
zeros_set (suc y ∷ l) zero x h e = omega arith
zeros_set (zero ∷ l) (suc i) x h e = omega (arith, zeros_set l i x (le_of_suc-le-suc h) e)
zeros_set (suc y ∷ l) (suc i) x h e = zeros_set l i x (le_of_suc-le-suc h) e

pub zeros_le : (l : List ℕ) → zeros l ≤ length l
unfolding zeros
zeros_le [] = omega arith
zeros_le (zero ∷ l) = omega (arith, zeros_le l)
zeros_le (suc x ∷ l) = omega (arith, zeros_le l)

pub zeros_all : (l : List ℕ) → Blank l → zeros l ≡ length l
unfolding zeros
zeros_all [] h = refl
zeros_all (zero ∷ l) h = ap suc (zeros_all l (record { at = λ i. h.at (suc i) }))
zeros_all (suc x ∷ l) h = omega (arith, h.at 0)

-- what is at an index after a store
pub cases_set : (P : ℕ → Type 0) (l : List ℕ) (i j a : ℕ) → i < length l → (j ≡ i → P a) → ((j ≡ i → ⊥) → P (get_or l j 0)) → P (get_or (set l i a) j 0)
cases_set P l i j a h same other = go (ℕ_discrete j i)
  where
    go : Dec (j ≡ i) → P (get_or (set l i a) j 0)
    go (yes e) = rw (e, get_or-set_same l i a 0 h) (same e)
    go (no n) = rw (get_or-set_other l i j a 0 n) (other n)

pub marked_lt : (m : List ℕ) (v : ℕ) → Marked m v → v < length m
marked_lt m v h = go (dec_lt v (length m))
  where
    go : Dec (v < length m) → v < length m
    go (yes l) = l
    go (no n) = omega (arith, get_or-eq_default m 0 {n = v} (omega arith))

-- an array as it is declared
pub blank_zeros : (n : ℕ) → Blank (replicate n 0)
blank_zeros n = record { at = at n }
  where
    at : (k i : ℕ) → get_or {A = ℕ} (replicate k 0) i 0 ≡ 0
    at zero i = refl
    at (suc k) zero = refl
    at (suc k) (suc i) = at k i

pub within_blank : {l : List ℕ} {n : ℕ} → 0 < n → Blank l → Within l n
within_blank h b = record { at = λ i. omega (arith, b.at i) }

pub within_set : {l : List ℕ} {n : ℕ} (i x : ℕ) → i < length l → x < n → Within l n → Within (set l i x) n
within_set {l} {n} i x h lt w = record { at = λ j. cases_set (λ y. y < n) l i j x h (λ _. lt) (λ _. w.at j) }

pub within_at : {l : List ℕ} {n n' : ℕ} → n' ≡ n → Within l n → Within l n'
within_at e w = rw e w

pub wide16 : {x : ℕ} → Fits w16 x → Fits w64 x
wide16 {x} h = record { fits = omega (arith, h.fits) }

-- The longest path is a path, none has more, and there is one only; the least number is one only.
use mathlib.Core.Path.{◌≡◌, refl, ap}
use mathlib.Core.Logic.{◌⊎◌, inl, inr}
use mathlib.Core.List.{List, ◌∷◌}
use Prim.Native.Nat.{ℕ, ◌+◌, ◌/◌, ◌≤◌}
use native.Mathlib.Omega.{arith}
use Rattle.graph.specs.Graph.{Graph, Path, ends, goes, sum, AtMost, Longest, stop, by_next, by_other, Least}

pub least_unique : {P : ℕ → Type 0} {a b : ℕ} → Least P a → Least P b → a ≡ b
least_unique {a = a} {b = b} p q = omega (arith, p.least b q.holds, q.least a p.holds)

-- two numbers have the same half: the least of either kind has the least half
pub least_address : {P : ℕ → Type 0} {v : ℕ} → Least P v → Least (λ a. (u : ℕ) × P u × (u / 2 ≡ a)) (v / 2)
least_address {P} {v} p = record { holds = (v, p.holds, refl); least = λ b q. omega (arith, p.least q.0 q.1, q.2) }

pub longest_path : {g : Graph} {c : ℕ → ℕ} {v : ℕ} {l : List ℕ} → Longest g c v l → Path g v l
longest_path (stop k) = ends k
longest_path (by_next k b m) = goes (k, inl refl) (longest_path b)
longest_path (by_other k b m) = goes (k, inr refl) (longest_path b)

pub longest_unique : {g : Graph} {c : ℕ → ℕ} {v : ℕ} {l l' : List ℕ} → Longest g c v l → Longest g c v l' → l ≡ l'
longest_unique (stop k) (stop k') = refl
longest_unique (stop k) (by_next k' b m) = absurd (omega arith)
longest_unique (stop k) (by_other k' b m) = absurd (omega arith)
longest_unique (by_next k b m) (stop k') = absurd (omega arith)
longest_unique (by_other k b m) (stop k') = absurd (omega arith)
longest_unique (by_next {v} k b m) (by_next k' b' m') = ap (λ (l : List ℕ). v ∷ l) (longest_unique b b')
longest_unique (by_other {v} k b m) (by_other k' b' m') = ap (λ (l : List ℕ). v ∷ l) (longest_unique b b')
longest_unique (by_next {l = l} k b m) (by_other {l = l'} k' b' m') = absurd (omega (arith, m l' (longest_path b'), m' l (longest_path b)))
longest_unique (by_other {l = l} k b m) (by_next {l = l'} k' b' m') = absurd (omega (arith, m l' (longest_path b'), m' l (longest_path b)))

pub longest_most : {g : Graph} {c : ℕ → ℕ} {v : ℕ} {l : List ℕ} → Longest g c v l → AtMost g c v (sum c l)
unfolding sum
longest_most (stop k) l' (ends k') = omega arith
longest_most (stop k) l' (goes e p) = absurd (omega (arith, e.0))
longest_most (by_next k b m) l' (ends k') = absurd (omega arith)
longest_most (by_other k b m) l' (ends k') = absurd (omega arith)
longest_most {g} {c} (by_next {v} {l} k b m) l'' (goes {w = w} {l = l'} e p) = go (λ q. longest_most b l' q) e.1
  where
    go : (Path g (g.next v) l' → sum c l' ≤ sum c l) → (w ≡ g.next v) ⊎ (w ≡ g.other v) → c v + sum c l' ≤ c v + sum c l
    go ih (inl n) = omega (arith, ih (rw n at p))
    go ih (inr o) = omega (arith, m l' (rw o at p))
longest_most {g} {c} (by_other {v} {l} k b m) l'' (goes {w = w} {l = l'} e p) = go (λ q. longest_most b l' q) e.1
  where
    go : (Path g (g.other v) l' → sum c l' ≤ sum c l) → (w ≡ g.next v) ⊎ (w ≡ g.other v) → c v + sum c l' ≤ c v + sum c l
    go ih (inl n) = omega (arith, m l' (rw n at p))
    go ih (inr o) = omega (arith, ih (rw o at p))

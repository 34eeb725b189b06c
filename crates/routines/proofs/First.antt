-- Of two paths not each comes before the other; so the first of those with the largest measure is one only.
use mathlib.Core.Path.{◌≡◌, refl, sym}
use mathlib.Core.Logic.{◌⊎◌, inl, inr}
use mathlib.Core.List.{List, ◌∷◌}
use Prim.Native.Nat.{ℕ}
use native.Mathlib.Omega.{arith}
use Rattle.routines.specs.Calling.{Flow, Before, turns, later, FirstOf}

-- paths of which one comes before the other begin alike
pub head_same : {f : Flow} {a b : ℕ} {l m : List ℕ} → Before f (a ∷ l) (b ∷ m) → a ≡ b
head_same (turns k p q ne) = refl
head_same (later p) = refl

pub heads_same : {f : Flow} {a b : ℕ} {l m s t : List ℕ} → Before f s t → s ≡ a ∷ l → t ≡ b ∷ m → a ≡ b
heads_same (turns k p q ne) e e' = cc
heads_same (later p) e e' = cc

asym : {f : Flow} {l m s t : List ℕ} → Before f l m → Before f s t → l ≡ t → m ≡ s → ⊥
asym (turns k a b ne) (turns k' a' b' ne') e e' = ne (cc)
asym (turns {w = w} {x = x} {l = l} {m = m} k a b ne) (later {l = s} {m = t} q) e e' =
    let g : s ≡ x ∷ m = cc in
    let h : t ≡ w ∷ l = cc in
    ne (sym (heads_same q g h))
asym (later {l = l} {m = m} p) (turns {w = w} {x = x} {l = s} {m = t} k a b ne) e e' =
    let g : l ≡ x ∷ t = cc in
    let h : m ≡ w ∷ s = cc in
    ne (sym (heads_same p g h))
asym (later p) (later q) e e' = asym p q (cc) (cc)

pub before_asym : {f : Flow} {l m : List ℕ} → Before f l m → Before f m l → ⊥
before_asym p q = asym p q refl refl

pub first_unique : {f : Flow} {S : List ℕ → Type 0} {measure : List ℕ → ℕ} {l m : List ℕ} → FirstOf f S measure l → FirstOf f S measure m → l ≡ m
first_unique {f} {measure = measure} {l = l} {m = m} a b = go (a.first m b.in_it same) (b.first l a.in_it (sym same))
  where
    same : measure m ≡ measure l
    same = omega (arith, a.most m b.in_it, b.most l a.in_it)

    go : (m ≡ l) ⊎ Before f l m → (l ≡ m) ⊎ Before f m l → l ≡ m
    go (inl e) q = sym e
    go (inr p) (inl e) = e
    go (inr p) (inr q) = absurd (before_asym p q)

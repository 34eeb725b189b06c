-- Laws of the loops that lay nodes.
use mathlib.Core.Path.{◌≡◌, refl, ◌∙◌}
use mathlib.Core.Logic.{◌⊎◌, inl, inr}
use mathlib.Core.List.{List}
use Prim.Native.Nat.{ℕ, ◌+◌, ◌≤◌, ◌<◌}
use native.Mathlib.Omega.{arith}
use native.Mathlib.Decide.{ℕ_discrete}
use lib.ListN.{length, get_or, set, length-set}
use lib.Seq.{get_or-set_same, get_or-set_other}
use Rattle.counts.specs.Radix.{size}
use Rattle.routines_counted.specs.Counting.{counts_of}
use Rattle.routines_counted.specs.Nodes.{LaysTo, Apart, LaidAll}

-- one node more
module _ (P : ℕ → ℕ → Type 0) (base : ℕ) (y : List ℕ) where
  pub lays-none : LaysTo P base 0 y y
  lays-none = record { len = refl; done = λ d h. absurd (omega (arith, h)); others = λ i h. refl }

  pub lays_more : (t node w : ℕ) (y' : List ℕ) → LaysTo P base t y y' → node ≡ base + t → node < length y' → P t w → LaysTo P base (t + 1) y (set y' node w)
  lays_more t node w y' a e h is = record { len = length-set y' node w ∙ a.len; done = λ d k. done d k (ℕ_discrete d t); others = λ i k. others i k }
    where
      done : (d : ℕ) → d < t + 1 → Dec (d ≡ t) → P d (get_or (set y' node w) (base + d) 0)
      done d k (yes z) = rw (z, ← e, get_or-set_same y' node w 0 h) is
      done d k (no z) = rw (get_or-set_other y' node (base + d) w 0 (λ q. omega (arith, q, e, z))) (a.done d (omega (arith, k, z)))

      others : (i : ℕ) → (i < base) ⊎ (base + (t + 1) ≤ i) → get_or (set y' node w) i 0 ≡ get_or y i 0
      others i (inl k) = get_or-set_other y' node i w 0 (λ q. omega (arith, q, e, k)) ∙ a.others i (inl k)
      others i (inr k) = get_or-set_other y' node i w 0 (λ q. omega (arith, q, e, k)) ∙ a.others i (inr (omega (arith, k)))

  pub lays-end : (t s : ℕ) (y' : List ℕ) → t ≡ s → LaysTo P base t y y' → LaysTo P base s y y'
  lays-end t s y' e a = rw (← e) a

-- one place more
module _ (P : ℕ → ℕ → ℕ → Type 0) (l ms bs marks : List ℕ) where
  pub all_none : (y : List ℕ) → LaidAll P l ms bs marks 0 y
  all_none y = record { at = λ v d h m k. absurd (omega (arith, h)) }

  pub all_same : (t : ℕ) (y : List ℕ) → get_or marks t 0 ≡ 0 → LaidAll P l ms bs marks t y → LaidAll P l ms bs marks (t + 1) y
  all_same t y z a = record { at = λ v d h m k. go v d h m k (ℕ_discrete v t) }
    where
      go : (v d : ℕ) → v < t + 1 → 0 < get_or marks v 0 → d < size (counts_of l) (get_or ms v 0) → Dec (v ≡ t) → P v d (get_or y (get_or bs v 0 + d) 0)
      go v d h m k (yes e) = absurd (omega (arith, z, rw e at m))
      go v d h m k (no e) = a.at v d (omega (arith, h, e)) m k

  pub all_more : (t n : ℕ) (y y' : List ℕ) → t < n → Apart l ms bs marks n → (get_or marks t 0 ≡ 0 → ⊥) → LaidAll P l ms bs marks t y → LaysTo (P t) (get_or bs t 0) (size (counts_of l) (get_or ms t 0)) y y'
      → LaidAll P l ms bs marks (t + 1) y'
  all_more t n y y' lt apart z a b = record { at = λ v d h m k. go v d h m k (ℕ_discrete v t) }
    where
      go : (v d : ℕ) → v < t + 1 → 0 < get_or marks v 0 → d < size (counts_of l) (get_or ms v 0) → Dec (v ≡ t) → P v d (get_or y' (get_or bs v 0 + d) 0)
      go v d h m k (yes e) = rw e (b.done d (rw e at k))
      go v d h m k (no e) =
          let before = apart.at v t (omega (arith, h, e)) lt m (omega (arith, z)) in
          rw (b.others (get_or bs v 0 + d) (inl (omega (arith, before, k)))) (a.at v d (omega (arith, h, e)) m k)

  pub all_end : (t n : ℕ) (y : List ℕ) → t ≡ n → LaidAll P l ms bs marks t y → LaidAll P l ms bs marks n y
  all_end t n y e a = rw (← e) a

-- Laws of where the nodes of the places begin.
use mathlib.Core.Path.{◌≡◌, refl, sym, ap, ◌∙◌}
use mathlib.Core.List.{List}
use Prim.Native.Nat.{ℕ, zero, suc, ◌+◌, ◌≤◌, ◌<◌}
use native.Mathlib.Omega.{arith}
use native.Mathlib.Numerals.{add-one}
use native.Mathlib.Decide.{ℕ_discrete}
use borrow.Author.Tests.{lt-ltb, le-ltb}
use lib.ListN.{length, get_or, set}
use lib.Seq.{get_or-set_same, get_or-set_other}
use Rattle.counts.specs.Counts.{Count}
use Rattle.counts.specs.Radix.{size}
use Rattle.routines_counted.specs.Counting.{Sizes}
use Rattle.routines_counted.specs.Bases.{nodes_before, BasesTo, Based}

module _ (C : List Count) (ms marks : List ℕ) where
  pub before-none : (v : ℕ) → get_or marks v 0 ≡ 0 → nodes_before C ms marks (v + 1) ≡ nodes_before C ms marks v
  unfolding nodes_before
  before-none v z = rw (add-one v, le-ltb 0 (get_or marks v 0) (omega (arith, z))) (omega arith)

  pub before_more : (v : ℕ) → (get_or marks v 0 ≡ 0 → ⊥) → nodes_before C ms marks (v + 1) ≡ nodes_before C ms marks v + size C (get_or ms v 0)
  unfolding nodes_before
  before_more v z = rw (add-one v, lt-ltb 0 (get_or marks v 0) (omega (arith, z))) refl

  -- a place has as many nodes before it as a place before that, or more
  pub before-le : (v w : ℕ) → v ≤ w → nodes_before C ms marks v ≤ nodes_before C ms marks w
  before-le v zero h = omega (arith, ap (λ (z : ℕ). nodes_before C ms marks z) (zero_of v h))
    where
      zero_of : (v : ℕ) → v ≤ 0 → v ≡ 0
      zero_of v h = omega (arith, h)
  before-le v (suc w) h = go (ℕ_discrete v (suc w)) (λ k. before-le v w k)
    where
      step : nodes_before C ms marks w ≤ nodes_before C ms marks (suc w)
      step = by (ℕ_discrete (get_or marks w 0) 0)
        where
          by : Dec (get_or marks w 0 ≡ 0) → nodes_before C ms marks w ≤ nodes_before C ms marks (suc w)
          by (yes z) = omega (arith, rw (add-one w) at (before-none w z))
          by (no z) = omega (arith, rw (add-one w) at (before_more w z))

      go : Dec (v ≡ suc w) → (v ≤ w → nodes_before C ms marks v ≤ nodes_before C ms marks w) → nodes_before C ms marks v ≤ nodes_before C ms marks (suc w)
      go (yes e) ih = omega (arith, ap (λ (z : ℕ). nodes_before C ms marks z) e)
      go (no e) ih = omega (arith, ih (omega (arith, h, e)), step)

  -- what comes after v, by its mark and its size
  abbrev After : ℕ → ℕ → Type 0
  After v r = (r ≤ 32768 → r ≡ nodes_before C ms marks (v + 1)) × (32768 < r → 32768 < nodes_before C ms marks (v + 1))

  pub after_none : (v total : ℕ) → total ≡ nodes_before C ms marks v → get_or marks v 0 ≡ 0 → After v total
  after_none v total e z = (λ h. e ∙ sym (before-none v z), λ h. omega (arith, h, e, before-none v z))

  pub after-large : (v s : ℕ) → (get_or marks v 0 ≡ 0 → ⊥) → Sizes C (get_or ms v 0) s → 32768 < s → After v s
  after-large v s z a h = (λ k. absurd (omega (arith, h, k)), λ k. omega (arith, a.over h, before_more v z))

  pub after_more : (v total s : ℕ) → total ≡ nodes_before C ms marks v → (get_or marks v 0 ≡ 0 → ⊥) → Sizes C (get_or ms v 0) s → s ≤ 32768 → After v (total + s)
  after_more v total s e z a h = let size_is = a.within h in (λ k. omega (arith, e, size_is, before_more v z), λ k. omega (arith, k, e, size_is, before_more v z))

  pub start_none : 0 ≡ nodes_before C ms marks 0
  unfolding nodes_before
  start_none = refl

  pub bases-none : (bs : List ℕ) → BasesTo C ms marks 0 bs
  bases-none bs = record { at = λ v h m. absurd (omega (arith, h)); none = λ v h m. absurd (omega (arith, h)) }

  pub bases-more : (t total b : ℕ) (bs : List ℕ) → t < length bs → total ≡ nodes_before C ms marks t → (0 < get_or marks t 0 → b ≡ total) × (get_or marks t 0 ≡ 0 → b ≡ 0) → BasesTo C ms marks t bs → BasesTo C ms marks (t + 1) (set bs t b)
  bases-more t total b bs h e is a = record { at = λ v k m. at v k m (ℕ_discrete v t); none = λ v k m. none v k m (ℕ_discrete v t) }
    where
      at : (v : ℕ) → v < t + 1 → 0 < get_or marks v 0 → Dec (v ≡ t) → get_or (set bs t b) v 0 ≡ nodes_before C ms marks v
      at v k m (yes z) = rw (z, get_or-set_same bs t b 0 h) (is.0 (rw z at m) ∙ e)
      at v k m (no z) = rw (get_or-set_other bs t v b 0 z) (a.at v (omega (arith, k, z)) m)

      none : (v : ℕ) → v < t + 1 → get_or marks v 0 ≡ 0 → Dec (v ≡ t) → get_or (set bs t b) v 0 ≡ 0
      none v k m (yes z) = rw (z, get_or-set_same bs t b 0 h) (is.1 (rw z at m))
      none v k m (no z) = rw (get_or-set_other bs t v b 0 z) (a.none v (omega (arith, k, z)) m)

  pub based-over : (v r : ℕ) (bs : List ℕ) → v < length marks → After v r → 32768 < r → Based C ms marks bs r
  based-over v r bs h a k = record { all = λ z. absurd (omega (arith, k, z)); over = λ z. omega (arith, a.1 k, before-le (v + 1) (length marks) (omega (arith, h))) }

  pub based-all : (v r : ℕ) (bs : List ℕ) → v ≡ length marks → r ≤ 32768 → r ≡ nodes_before C ms marks v → BasesTo C ms marks v bs → Based C ms marks bs r
  based-all v r bs e h is a = record { all = λ z. rw (← e) (is, a); over = λ z. absurd (omega (arith, z, h)) }

-- The steps of choosing where calls go on.
use mathlib.Core.Path.{◌≡◌, refl, ap, ◌∙◌}
use mathlib.Core.List.{List}
use Prim.Native.Nat.{ℕ, ◌+◌, ◌<◌}
use native.Mathlib.Omega.{arith}
use native.Mathlib.Decide.{ℕ_discrete}
use lib.ListN.{length, get_or, set, length-set}
use lib.Seq.{get_or-set_same, get_or-set_other}
use borrow.Author.Tests.{eq-eqb, ne_eqb}
use Rattle.routines_numbered.specs.Packed.{into_in, kind_in}
use Rattle.routines_known.specs.Choosing.{known_next, chosen_word, ChosenTo}

module _ (l : List ℕ) (w : ℕ) where
  pub chosen-other : (kind_in w ≡ 3 → ⊥) → chosen_word l w ≡ w
  unfolding chosen_word
  chosen-other k = rw (ne_eqb (kind_in w) 3 k) refl

  pub chosen-marked : kind_in w ≡ 3 → (get_or l (into_in w) 0 ≡ 0 → ⊥) → chosen_word l w ≡ w
  unfolding chosen_word
  chosen-marked k h = rw (eq-eqb (kind_in w) 3 k, ne_eqb (get_or l (into_in w) 0) 0 h) refl

  pub chosen-known : kind_in w ≡ 3 → get_or l (into_in w) 0 ≡ 0 → chosen_word l w ≡ known_next w
  unfolding chosen_word
  chosen-known k h = rw (eq-eqb (kind_in w) 3 k, eq-eqb (get_or l (into_in w) 0) 0 h) refl

module _ (x l : List ℕ) where
  pub chosen_none : ChosenTo x l 0 x
  chosen_none = record { len = refl; done = λ v h. absurd (omega (arith, h)); rest = λ v h. refl }

  pub chosen_more : (t : ℕ) (x' : List ℕ) (y : ℕ) → ChosenTo x l t x' → t < length x → y ≡ chosen_word l (get_or x' t 0) → ChosenTo x l (t + 1) (set x' t y)
  chosen_more t x' y a h e =
      record {
        len = length-set x' t y ∙ a.len;
        done = λ v k. done v k (ℕ_discrete v t);
        rest = λ v k. get_or-set_other x' t v y 0 (λ z. omega (arith, k, z)) ∙ a.rest v (omega (arith, k));
      }
    where
      done : (v : ℕ) → v < t + 1 → Dec (v ≡ t) → get_or (set x' t y) v 0 ≡ chosen_word l (get_or x v 0)
      done v k (yes z) = rw (z, get_or-set_same x' t y 0 (omega (arith, h, a.len))) (e ∙ ap (chosen_word l) (a.rest t (omega arith)))
      done v k (no z) = get_or-set_other x' t v y 0 z ∙ a.done v (omega (arith, k, z))

  pub chosen-end : {t n : ℕ} {x' : List ℕ} → t ≡ n → ChosenTo x l t x' → ChosenTo x l n x'
  chosen-end e a = rw e at a

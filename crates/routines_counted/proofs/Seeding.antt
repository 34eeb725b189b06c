-- Laws of the words with the places at an address as ends.
use mathlib.Core.Path.{◌≡◌, refl, sym, ap, ◌∙◌}
use mathlib.Core.Logic.{◌⊎◌, inl, inr}
use mathlib.Core.List.{List}
use Prim.Native.Nat.{ℕ, ◌+◌, ◌/◌, ◌<◌}
use native.Mathlib.Omega.{arith}
use native.Mathlib.Decide.{ℕ_discrete}
use lib.Dec.{eqb}
use borrow.Author.Tests.{ne_eqb}
use lib.ListN.{length, get_or, set}
use lib.Seq.{get_or-set_same, get_or-set_other}
use Rattle.laws.specs.Choice.{pick}
use Rattle.routines_numbered.specs.Packed.{place_in, node_in, packed, Fits}
use Rattle.routines_numbered.proofs.Packed.{next_of, other-of, into-of, kind_of, known_of}
use Rattle.routines_counted.specs.Overs.{GoesOver, Stays}
use Rattle.routines_counted.specs.Seeds.{SeededIs, SeededTo}

end_fits : Fits 0 0 0 0 4 0
end_fits = record { place_lt = omega arith; next_lt = omega arith; other_lt = omega arith; into_lt = omega arith; kind_lt = omega arith; cost_lt = omega arith }

address_of_lem : (word p : ℕ) → p ≡ place_in word → p / 2 ≡ (node_in word).address
unfolding node_in
address_of_lem word p e = ap (λ (z : ℕ). z / 2) e

module _ (word at p : ℕ) (place : p ≡ place_in word) where
  pub seed-there : (r : ℕ) → p / 2 ≡ at → r ≡ packed 0 0 0 0 4 0 → SeededIs word at r
  seed-there r e er =
      let here : (node_in word).address ≡ at = sym (address_of_lem word p place) ∙ e in
      record {
        there = λ z. (rw er (kind_of end_fits), rw er (known_of end_fits));
        on = λ n. absurd (n here);
        call = λ n. absurd (n here);
        end = λ n. absurd (n here);
        next = inr (rw er (next_of end_fits));
        other = inr (rw er (other-of end_fits));
        into = rw er (into-of end_fits);
      }

  pub seed-out : (p / 2 ≡ at → ⊥) → Stays word → SeededIs word at 0
  unfolding node_in
  seed-out n s =
      record {
        there = λ z. absurd (n (address_of_lem word p place ∙ z));
        on = λ a k. absurd (s.not_on k);
        call = λ a k. absurd (s.no_call k);
        end = λ a b c. refl;
        next = inr refl;
        other = inr refl;
        into = refl;
      }

  module _ {over_next over_other : ℕ} (o : GoesOver word over_next over_other) where
    pub on_fits : Fits 0 over_next over_other 0 1 0
    unfolding node_in
    on_fits = record { place_lt = omega arith; next_lt = omega (arith, o.next); other_lt = lt (ℕ_discrete (node_in word).kind 1); into_lt = omega arith; kind_lt = omega arith; cost_lt = omega arith }
      where
        lt : Dec ((node_in word).kind ≡ 1) → over_other < 32768
        lt (yes e) = let z : over_other ≡ (node_in word).other = o.other ∙ rw e refl in omega (arith, z)
        lt (no e) = let z : over_other ≡ (node_in word).next = o.other ∙ rw (ne_eqb (node_in word).kind 1 e) refl in omega (arith, z)

    pub seed-on : (r : ℕ) → (p / 2 ≡ at → ⊥) → r ≡ packed 0 over_next over_other 0 1 0 → SeededIs word at r
    seed-on r n er =
        record {
          there = λ z. absurd (n (address_of_lem word p place ∙ z));
          on = λ a k. (kind, next, is-other ∙ rw k refl);
          call = λ a k. (kind, next, is-other ∙ rw k refl);
          end = λ a b c. absurd (none b c o.goes);
          next = inl next;
          other = inl (where-other (ℕ_discrete (node_in word).kind 1));
          into = rw er (into-of on_fits);
        }
      where
        kind : (node_in r).kind ≡ 1
        kind = rw er (kind_of on_fits)

        next : (node_in r).next ≡ (node_in word).next
        next = rw er (next_of on_fits) ∙ o.next

        is-other : (node_in r).other ≡ pick (eqb (node_in word).kind 1) (node_in word).other (node_in word).next
        is-other = rw er (other-of on_fits) ∙ o.other

        where-other : Dec ((node_in word).kind ≡ 1) → ((node_in r).other ≡ (node_in word).other) ⊎ ((node_in r).other ≡ (node_in word).next)
        where-other (yes e) = inl (is-other ∙ rw e refl)
        where-other (no e) = inr (is-other ∙ rw (ne_eqb (node_in word).kind 1 e) refl)

        none : ((node_in word).kind ≡ 1 → ⊥) → ((node_in word).kind ≡ 3 → ⊥) → ((node_in word).kind ≡ 1) ⊎ ((node_in word).kind ≡ 3) → ⊥
        none b c (inl e) = b e
        none b c (inr e) = c e

pub seeded_none : (x : List ℕ) (at : ℕ) (y : List ℕ) → SeededTo x at 0 y
seeded_none x at y = record { is = λ v h. absurd (omega (arith, h)) }

pub seeded_more : (x : List ℕ) (at t w : ℕ) (y : List ℕ) → t < length y → SeededTo x at t y → SeededIs (get_or x t 0) at w → SeededTo x at (t + 1) (set y t w)
seeded_more x at t w y h a is = record { is = λ v k. go v k (ℕ_discrete v t) }
  where
    go : (v : ℕ) → v < t + 1 → Dec (v ≡ t) → SeededIs (get_or x v 0) at (get_or (set y t w) v 0)
    go v k (yes e) = rw (e, get_or-set_same y t w 0 h) is
    go v k (no e) = rw (get_or-set_other y t v w 0 e) (a.is v (omega (arith, k, e)))

pub seeded_end : (x : List ℕ) (at t n : ℕ) (y : List ℕ) → t ≡ n → SeededTo x at t y → SeededTo x at n y
seeded_end x at t n y e a = rw (← e) a

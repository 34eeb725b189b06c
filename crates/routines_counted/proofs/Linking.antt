-- Laws of the words that link nodes.
use mathlib.Core.Path.{◌≡◌, sym, ap, ◌∙◌}
use mathlib.Core.Logic.{◌⊎◌, inl, inr}
use mathlib.Core.List.{List}
use Prim.Native.Nat.{ℕ, ◌+◌, ◌<◌}
use native.Mathlib.Omega.{arith}
use lib.ListN.{get_or}
use Rattle.routines_numbered.specs.Packed.{next_in, other_in, into_in, kind_in, node_in, nodes_in, packed, Fits}
use Rattle.routines_numbered.proofs.Packed.{next_of, other-of, into-of, kind_of, known_of}
use Rattle.counts.specs.Laying.{Numbering, led_to, first_node}
use Rattle.routines_counted.specs.Nodes.{numbering_of, Places, Asked, LinkedIs}

module _ {x l ms bs : List ℕ} {n v d : ℕ} (a : Asked x l ms bs n v d) where
  pub place_here : Places x l ms bs v
  place_here = a.numbered.places v a.place

  pub next_place : {w : ℕ} → w ≡ next_in (get_or x v 0) → Places x l ms bs w
  unfolding nodes_in node_in
  next_place {w} e = a.numbered.places w (omega (arith, e, (a.numbered.links v a.place).next))

  pub other_place : {w : ℕ} → w ≡ other_in (get_or x v 0) → Places x l ms bs w
  unfolding nodes_in node_in
  other_place {w} e = a.numbered.places w (omega (arith, e, (a.numbered.links v a.place).other))

  pub into-place : {w : ℕ} → w ≡ into_in (get_or x v 0) → Places x l ms bs w
  unfolding nodes_in node_in
  into-place {w} e = a.numbered.places w (omega (arith, e, (a.numbered.links v a.place).into))

pub kind_here : (x : List ℕ) (v k : ℕ) → k ≡ kind_in (get_or x v 0) → (nodes_in x v).kind ≡ k
unfolding nodes_in node_in
kind_here x v k e = sym e

pub fork_fits : (a b : ℕ) → a < 32768 → b < 32768 → Fits 0 a b 0 1 0
fork_fits a b h k = record { place_lt = omega arith; next_lt = h; other_lt = k; into_lt = omega arith; kind_lt = omega arith; cost_lt = omega arith }

pub call_fits : (a b i : ℕ) → a < 32768 → b < 32768 → i < 32768 → Fits 0 a b i 3 0
call_fits a b i h k m = record { place_lt = omega arith; next_lt = h; other_lt = k; into_lt = m; kind_lt = omega arith; cost_lt = omega arith }

module _ (x l ms bs : List ℕ) (v d : ℕ) where
  abbrev N : Numbering
  N = numbering_of x l ms bs

  pub fork-linked : (w o y z r : ℕ) → (nodes_in x v).kind ≡ 1 → w ≡ next_in (get_or x v 0) → o ≡ other_in (get_or x v 0) → (y ≡ led_to N v d w) × (y < 32768) → (z ≡ led_to N v d o) × (z < 32768) → r ≡ packed 0 y z 0 1 0
      → LinkedIs x l ms bs v d r
  unfolding nodes_in node_in
  fork-linked w o y z r k ew eo ey ez er =
      let fits = fork_fits y z ey.1 ez.1 in
      record {
        end = λ e. absurd (no e);
        on = λ e. (rw er (kind_of fits), rw er (next_of fits ∙ ey.0 ∙ ap (led_to N v d) ew), rw er (other-of fits ∙ ez.0 ∙ ap (led_to N v d) eo));
        call = λ e. absurd (omega (arith, k, e));
      }
    where
      no : ((nodes_in x v).kind ≡ 2) ⊎ ((nodes_in x v).kind ≡ 4) → ⊥
      no (inl e) = omega (arith, k, e)
      no (inr e) = omega (arith, k, e)

  pub call-linked : (w i y h j r : ℕ) → get_or bs v 0 + d < 32768 → (nodes_in x v).kind ≡ 3 → w ≡ next_in (get_or x v 0) → i ≡ into_in (get_or x v 0) → (y ≡ led_to N v d w) × (y < 32768) → h ≡ get_or bs v 0 + d → (j ≡ first_node N i) × (j < 32768)
      → r ≡ packed 0 y h j 3 0 → LinkedIs x l ms bs v d r
  unfolding nodes_in node_in
  call-linked w i y h j r here k ew ei ey eh ej er =
      let fits = call_fits y h j ey.1 (omega (arith, here, eh)) ej.1 in
      record {
        end = λ e. absurd (no e);
        on = λ e. absurd (omega (arith, k, e));
        call = λ e. (rw er (kind_of fits), rw er (next_of fits ∙ ey.0 ∙ ap (led_to N v d) ew), rw er (other-of fits ∙ eh), rw er (into-of fits ∙ ej.0 ∙ ap (first_node N) ei));
      }
    where
      no : ((nodes_in x v).kind ≡ 2) ⊎ ((nodes_in x v).kind ≡ 4) → ⊥
      no (inl e) = omega (arith, k, e)
      no (inr e) = omega (arith, k, e)

  pub end-linked : (k r : ℕ) → (nodes_in x v).kind ≡ k → (k ≡ 1 → ⊥) → (k ≡ 3 → ⊥) → r ≡ packed 0 0 0 0 4 0 → LinkedIs x l ms bs v d r
  end-linked k r e a b er =
      let fits : Fits 0 0 0 0 4 0 = record { place_lt = omega arith; next_lt = omega arith; other_lt = omega arith; into_lt = omega arith; kind_lt = omega arith; cost_lt = omega arith } in
      record {
        end = λ z. (rw er (kind_of fits), rw er (known_of fits));
        on = λ z. absurd (a (sym e ∙ z));
        call = λ z. absurd (b (sym e ∙ z));
      }

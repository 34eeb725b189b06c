-- Laws of the places of words in their routines, calls stepped over.
use mathlib.Core.Path.{◌≡◌, refl, ◌∙◌}
use mathlib.Core.Logic.{◌⊎◌, inl, inr, ⊎_elim}
use mathlib.Core.List.{List}
use Prim.Native.Nat.{ℕ, ◌<◌}
use native.Mathlib.Omega.{arith}
use native.Mathlib.Decide.{ℕ_discrete}
use lib.Dec.{eqb}
use borrow.Author.Tests.{ne_eqb}
use lib.ListN.{get_or}
use Rattle.laws.specs.Choice.{pick}
use Rattle.graph.specs.Graph.{GoesOn}
use Rattle.graph.specs.Laid.{Inside}
use Rattle.routines_numbered.specs.Packed.{node_in, nodes_in}
use Rattle.routines_known.specs.Marking.{Sized}
use Rattle.std.specs.Prelude.{Option, None, Some}
use Rattle.graph_search.specs.Search.{GoesTo, Follows}
use Rattle.routines_counted.specs.Overs.{steps_in, GoesOver, Stays, OverIs}

module _ (x : List ℕ) (v : ℕ) where
  pub stays : Stays (get_or x v 0) → GoesOn (steps_in x) v → ⊥
  unfolding steps_in nodes_in
  stays s g = let z : ◌≡◌ {A = ℕ} 0 1 = rw (ne_eqb (node_in (get_or x v 0)).kind 1 s.not_on, ne_eqb (node_in (get_or x v 0)).kind 3 s.no_call) at g in omega (arith, z)

  module _ {a b : ℕ} (over : GoesOver (get_or x v 0) a b) where
    pub goes_on : GoesOn (steps_in x) v
    unfolding steps_in nodes_in
    goes_on = ⊎_elim (λ z. rw z refl) (λ z. rw z refl) over.goes

    pub next_is : a ≡ (steps_in x).next v
    unfolding steps_in nodes_in
    next_is = over.next

    pub other_is : b ≡ (steps_in x).other v
    unfolding steps_in nodes_in
    other_is = over.other ∙ ⊎_elim (λ z. rw z refl) (λ z. rw z refl) over.goes

    -- what follows is a place
    pub goes_to : {n : ℕ} → Sized x n → v < n → GoesTo (steps_in x) n v a b
    unfolding nodes_in
    goes_to {n} sized h =
        record {
          on = goes_on;
          next = next_is;
          next_lt = omega (arith, over.next, (sized.links v h).next);
          other = other_is;
          other_lt = other_lt (ℕ_discrete (node_in (get_or x v 0)).kind 1);
        }
      where
        other_lt : Dec ((node_in (get_or x v 0)).kind ≡ 1) → b < n
        other_lt (yes e) = let z : b ≡ (node_in (get_or x v 0)).other = over.other ∙ rw e refl in omega (arith, z, (sized.links v h).other)
        other_lt (no e) = let z : b ≡ (node_in (get_or x v 0)).next = over.other ∙ rw (ne_eqb (node_in (get_or x v 0)).kind 1 e) refl in omega (arith, z, (sized.links v h).next)

-- what is told of a place of the words
pub follows : (x : List ℕ) (v : ℕ) {n : ℕ} → Sized x n → v < n → (r : Option (ℕ × ℕ)) → OverIs (get_or x v 0) r → Follows (steps_in x) n v r
follows x v sized h None s = stays x v s
follows x v sized h (Some s) o = goes_to x v o sized h

pub steps_inside : {x : List ℕ} {n : ℕ} → Sized x n → Inside (steps_in x) n
unfolding steps_in
steps_inside {x} {n} sized = record { edge = λ v w h e. go v w h e.1 (ℕ_discrete (nodes_in x v).kind 3) }
  where
    go : (v w : ℕ) → v < n → (w ≡ (nodes_in x v).next) ⊎ (w ≡ pick (eqb (nodes_in x v).kind 3) (nodes_in x v).next (nodes_in x v).other) → Dec ((nodes_in x v).kind ≡ 3) → w < n
    go v w h (inl e) d = rw e (sized.links v h).next
    go v w h (inr e) (yes d) = let z : w ≡ (nodes_in x v).next = e ∙ rw d refl in rw z (sized.links v h).next
    go v w h (inr e) (no d) = let z : w ≡ (nodes_in x v).other = e ∙ rw (ne_eqb (nodes_in x v).kind 3 d) refl in rw z (sized.links v h).other

pub sized_at : {x : List ℕ} {n n' : ℕ} → n' ≡ n → Sized x n → Sized x n'
sized_at e s = rw e s

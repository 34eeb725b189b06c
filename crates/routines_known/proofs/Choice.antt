-- Words that say where their calls go on are the flow by what is known after calls.
use mathlib.Core.Path.{◌≡◌, refl, sym, ◌∙◌}
use mathlib.Core.Bool.{true, false, not}
use mathlib.Core.List.{List}
use Prim.Native.Nat.{ℕ, ◌<◌}
use native.Mathlib.Omega.{arith}
use native.Mathlib.Decide.{ℕ_discrete, dec_lt}
use lib.ListN.{get_or}
use borrow.Author.Tests.{lt-ltb, le-ltb}
use Rattle.laws.specs.Choice.{pick}
use Rattle.routines.specs.Calling.{unknown, after}
use Rattle.routines.specs.Losing.{known_by}
use Rattle.routines.proofs.Chosen.{Chosen}
use Rattle.routines_numbered.specs.Packed.{place_in, next_in, other_in, into_in, kind_in, cost_in, node_in, Fits, name_in, nodes_in}
use Rattle.routines_numbered.proofs.Packed.{place_of, next_of, other-of, into-of, kind_of, cost-of}
use Rattle.routines_joined.specs.Words.{flow_at, Laid}
use Rattle.routines_known.specs.Choosing.{known_next, chosen_word, ChosenTo}
use Rattle.routines_known.specs.Marking.{marked_in}
use Rattle.routines_known.proofs.Choosing.{chosen-other, chosen-marked, chosen-known}

clear_mark : (l : List ℕ) (v : ℕ) → get_or l v 0 ≡ 0 → marked_in l v ≡ false
unfolding marked_in
clear_mark l v h = le-ltb 0 (get_or l v 0) (omega (arith, h))

set_mark : (l : List ℕ) (v : ℕ) → (get_or l v 0 ≡ 0 → ⊥) → marked_in l v ≡ true
unfolding marked_in
set_mark l v h = lt-ltb 0 (get_or l v 0) (omega (arith, h))

-- the word has what it had, but for where a call goes on
record SameBut (l : List ℕ) (w w' : ℕ) : Type 0 where
  pub place : place_in w' ≡ place_in w
  pub kind : kind_in w' ≡ kind_in w
  pub other : other_in w' ≡ other_in w
  pub into : into_in w' ≡ into_in w
  pub cost : cost_in w' ≡ cost_in w
  pub next : (kind_in w ≡ 3 → ⊥) → next_in w' ≡ next_in w
  pub marked : kind_in w ≡ 3 → (get_or l (into_in w) 0 ≡ 0 → ⊥) → next_in w' ≡ next_in w
  pub clear : kind_in w ≡ 3 → get_or l (into_in w) 0 ≡ 0 → next_in w' ≡ other_in w

same_word : (l : List ℕ) (w : ℕ) → (kind_in w ≡ 3 → get_or l (into_in w) 0 ≡ 0 → ⊥) → SameBut l w w
same_word l w h = record { place = refl; kind = refl; other = refl; into = refl; cost = refl; next = λ k. refl; marked = λ k i. refl; clear = λ k i. absurd (h k i) }

known_word : (l : List ℕ) (w : ℕ) → kind_in w ≡ 3 → get_or l (into_in w) 0 ≡ 0 → SameBut l w (known_next w)
unfolding node_in
known_word l w k h =
    let f : Fits (place_in w) (other_in w) (other_in w) (into_in w) (kind_in w) (cost_in w) = record { place_lt = omega arith; next_lt = omega arith; other_lt = omega arith; into_lt = omega arith; kind_lt = omega arith; cost_lt = omega arith } in
    record { place = place_of f; kind = kind_of f; other = other-of f; into = into-of f; cost = cost-of f; next = λ n. absurd (n k); marked = λ i n. absurd (n h); clear = λ i j. next_of f }

same_but : (l : List ℕ) (w : ℕ) → SameBut l w (chosen_word l w)
same_but l w = go (ℕ_discrete (kind_in w) 3) (ℕ_discrete (get_or l (into_in w) 0) 0)
  where
    go : Dec (kind_in w ≡ 3) → Dec (get_or l (into_in w) 0 ≡ 0) → SameBut l w (chosen_word l w)
    go (yes k) (yes h) = rw (chosen-known l w k h) (known_word l w k h)
    go (yes k) (no h) = rw (chosen-marked l w k h) (same_word l w (λ i j. h j))
    go (no k) h = rw (chosen-other l w k) (same_word l w (λ i j. k i))

module _ (x m l x' : List ℕ) {n : ℕ} (laid : Laid x m n) (calls : (v : ℕ) → (nodes_in x v).kind ≡ 3 → v < n) (c : ChosenTo x l n x')
    (first : (v : ℕ) → v < n → (nodes_in x v).kind ≡ 3 → (flow_at x m).from ((flow_at x m).entry v) ≡ (nodes_in x v).into) where
  word : (v : ℕ) → SameBut l (get_or x v 0) (get_or x' v 0)
  unfolding nodes_in node_in
  word v = go (dec_lt v n)
    where
      go : Dec (v < n) → SameBut l (get_or x v 0) (get_or x' v 0)
      go (yes h) = rw (c.done v h) (same_but l (get_or x v 0))
      go (no h) = rw (c.rest v (omega arith)) (same_word l (get_or x v 0) (λ k i. h (calls v k)))

  pub chosen-name : (v : ℕ) → name_in x' v ≡ name_in x v
  unfolding name_in
  chosen-name v = (word v).place

  pub chosen-cost : (v : ℕ) → (nodes_in x' v).cost ≡ (nodes_in x v).cost
  unfolding nodes_in node_in
  chosen-cost v = (word v).cost

  pub chosen-address : (v : ℕ) → (nodes_in x' v).address ≡ (nodes_in x v).address
  unfolding nodes_in node_in
  chosen-address v = rw (word v).place

  pub chosen-others : (v : ℕ) → (nodes_in x' v).other ≡ (nodes_in x v).other
  unfolding nodes_in node_in
  chosen-others v = (word v).other

  pub chosen-into : (v : ℕ) → (nodes_in x' v).into ≡ (nodes_in x v).into
  unfolding nodes_in node_in
  chosen-into v = (word v).into

  pub chosen-kind : (v : ℕ) → (nodes_in x' v).kind ≡ (nodes_in x v).kind
  unfolding nodes_in node_in
  chosen-kind v = (word v).kind

  next_lt : (v : ℕ) → v < n → (nodes_in x' v).next < n
  unfolding nodes_in node_in
  next_lt v h = go (ℕ_discrete (kind_in w) 3) (ℕ_discrete (get_or l (into_in w) 0) 0)
    where
      w : ℕ
      w = get_or x v 0

      go : Dec (kind_in w ≡ 3) → Dec (get_or l (into_in w) 0 ≡ 0) → next_in (get_or x' v 0) < n
      go (yes k) (yes i) = rw ((word v).clear k i) (laid.links v h).other
      go (yes k) (no i) = rw ((word v).marked k i) (laid.links v h).next
      go (no k) i = rw ((word v).next k) (laid.links v h).next

  -- the words are laid as they were
  pub chosen-laid : Laid x' m n
  unfolding nodes_in node_in name_in
  chosen-laid =
      record {
        words = c.len ∙ laid.words;
        map = laid.map;
        few = laid.few;
        some = laid.some;
        once = λ u v i j e. laid.once u v i j (sym (word u).place ∙ e ∙ (word v).place);
        links = λ v h. record { next = next_lt v h; other = rw (word v).other (laid.links v h).other; into = rw (word v).into (laid.links v h).into };
        entry_lt = λ v h k. rw ((word v).into, (word (into_in (get_or x v 0))).place) (laid.entry_lt v h (sym (word v).kind ∙ k));
        map_le = laid.map_le;
      }

  -- by them it goes the ways of the flow that knows SF by the marks
  pub chosen : Chosen (flow_at x' m) unknown (flow_at x m) (known_by (flow_at x m) (marked_in l))
  unfolding flow_at after nodes_in node_in
  chosen =
      record {
        start = refl;
        from = λ e. refl;
        kind = λ v. (word v).kind;
        next = λ v k. (word v).next (λ i. omega (arith, k, i, (word v).kind));
        other = λ v k. (word v).other;
        entry = λ v k. rw ((word v).kind, (word v).into, (word (into_in (get_or x v 0))).place) refl;
        goes_on = λ v k. let i = sym (word v).kind ∙ k in goes v i (ℕ_discrete (get_or l (into_in (get_or x v 0)) 0) 0);
      }
    where
      goes : (v : ℕ) → kind_in (get_or x v 0) ≡ 3 → Dec (get_or l (into_in (get_or x v 0)) 0 ≡ 0)
          → next_in (get_or x' v 0) ≡ pick (not (marked_in l ((flow_at x m).from ((flow_at x m).entry v)))) (other_in (get_or x v 0)) (next_in (get_or x v 0))
      goes v k (yes h) = rw (first v (calls v k) k, clear_mark l (into_in (get_or x v 0)) h) ((word v).clear k h)
      goes v k (no h) = rw (first v (calls v k) k, set_mark l (into_in (get_or x v 0)) h) ((word v).marked k h)

-- The marks by number tell what is known after the calls of the flow.
use mathlib.Core.Path.{◌≡◌, sym, ap, subst, ◌∙◌}
use mathlib.Core.Bool.{true}
use mathlib.Core.List.{List}
use Prim.Native.Nat.{ℕ, ◌<◌}
use native.Mathlib.Omega.{arith}
use lib.Dec.{ltb→lt}
use lib.ListN.{length, get_or}
use borrow.Author.Tests.{lt-ltb}
use Rattle.laws.proofs.Computed.{true→T}
use Rattle.graph_search.specs.Marks.{Marked}
use Rattle.graph_search.proofs.Zeros.{marked_lt}
use Rattle.routines.specs.Calling.{Recurs}
use Rattle.routines.specs.Answer.{Judged}
use Rattle.routines.specs.Shape.{Widens}
use Rattle.routines.specs.Losing.{Loses, returns, by_next, by_other, past_known, past_unknown, Region, Marks, KnownAfter, known_by}
use Rattle.routines.proofs.Knowing.{knows}
use Rattle.routines_numbered.specs.Packed.{nodes_in}
use Rattle.routines_joined.specs.Words.{flow_at, Laid}
use Rattle.routines_known.specs.Marking as marking
use Rattle.routines_known.specs.Marking.{flow_on, AllLose, Lost, IdleTo, marked_in}

is_marked : (l : List ℕ) (v : ℕ) → marked_in l v ≡ true → Marked l v
unfolding marked_in
is_marked l v e = ltb→lt 0 (get_or l v 0) (true→T e)

marks_it : (l : List ℕ) (v : ℕ) → Marked l v → marked_in l v ≡ true
unfolding marked_in
marks_it l v h = lt-ltb 0 (get_or l v 0) h

-- a call leads to the first place of the routine that it names
module _ (x m : List ℕ) {n : ℕ} (laid : Laid x m n) (first : (v : ℕ) → v < n → (nodes_in x v).kind ≡ 3 → (flow_at x m).from ((flow_at x m).entry v) ≡ (nodes_in x v).into) where
  loses-at : (v : ℕ) → v < n → Loses (flow_on x) v → Loses (flow_at x m) v
  unfolding flow_on flow_at
  loses-at v h (returns e k) = returns e k
  loses-at v h (by_next e l) = by_next e (loses-at (nodes_in x v).next (laid.links v h).next l)
  loses-at v h (by_other e l) = by_other e (loses-at (nodes_in x v).other (laid.links v h).other l)
  loses-at v h (past_known e l) = past_known e (loses-at (nodes_in x v).other (laid.links v h).other l)
  loses-at v h (past_unknown e i l) =
      past_unknown e (subst (λ u. Loses (flow_at x m) u) (sym (first v h e)) (loses-at (nodes_in x v).into (laid.links v h).into i)) (loses-at (nodes_in x v).next (laid.links v h).next l)

  module _ (l : List ℕ) (len : length l ≡ n) (all : AllLose (flow_on x) l) (idle : IdleTo (flow_on x) l n) where
    lost-marked : (v : ℕ) → v < n → Lost (flow_on x) l v → marked_in l v ≡ true
    lost-marked v h lost = marks_it l v (idle.at v h lost)

    marks : Marks (flow_at x m) (λ v. v < n) (marked_in l)
    unfolding flow_on flow_at
    marks =
        record {
          sound = λ v e. let k = is_marked l v e in loses-at v (omega (arith, marked_lt l v k, len)) (all.at v k);
          returns = λ v h e k. lost-marked v h (marking.Lost.returns e k);
          by_next = λ v h e k. lost-marked v h (marking.Lost.by_next e (is_marked l (nodes_in x v).next k));
          by_other = λ v h e k. lost-marked v h (marking.Lost.by_other e (is_marked l (nodes_in x v).other k));
          past_known = λ v h e k. lost-marked v h (marking.Lost.past_known e (is_marked l (nodes_in x v).other k));
          past_unknown = λ v h e i k.
              lost-marked v h (marking.Lost.past_unknown e (is_marked l (nodes_in x v).into (ap (marked_in l) (sym (first v h e)) ∙ i)) (is_marked l (nodes_in x v).next k));
        }

    -- nothing recurs, and the marks say what is known after calls
    pub calls-judged : Region (flow_at x m) (λ v. v < n) → Widens (flow_at x m) → KnownAfter (flow_at x m) → ((e : ℕ) → Recurs (flow_at x m) e → ⊥) → Judged (flow_at x m) (known_by (flow_at x m) (marked_in l))
    calls-judged region widens after none = record { no_recursion = none; knows = knows (flow_at x m) (λ v. v < n) (marked_in l) region marks widens after }

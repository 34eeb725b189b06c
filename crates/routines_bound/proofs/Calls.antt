-- Calls are judged before the rest: where there are none, there is nothing to judge; else the words that say where their calls go on have the answers of those that they were chosen from.
use mathlib.Core.Path.{◌≡◌, sym, ap, fun_ext, ◌∙◌}
use mathlib.Core.List.{List}
use Prim.Native.Nat.{ℕ, ◌<◌}
use lib.ListN.{length}
use Rattle.std.specs.Prelude.{None}
use Rattle.routines.specs.Calling.{called, unknown, Live, call}
use Rattle.routines.specs.Answer.{Found, Judged, FlowAnswer, Answer, judged}
use Rattle.routines.proofs.Chosen.{chosen_recurs, chosen-widens, flow-answer-to}
use Rattle.routines.proofs.Done.{in-lt}
use Rattle.routines_numbered.specs.Packed.{nodes_in}
use Rattle.routines_joined.specs.Words.{flow_at}
use Rattle.routines_joined.specs.Refused.{NothingRecurs, address_in}
use Rattle.routines_joined.proofs.Nodes.{small}
use Rattle.routines_known.specs.Choosing.{ChosenTo}
use Rattle.routines_known.specs.Marking.{flow_on, AllLose, IdleTo}
use Rattle.routines_known.proofs.Known.{calls-judged}
use Rattle.routines_known.proofs.Choice.{chosen, chosen-laid, chosen-cost, chosen-address, chosen-others, chosen-into, chosen-kind}
use Rattle.routines_sums.specs.Ways.{costs_in}
use Rattle.routines_bound.specs.Handler.{Words, HandlerWords, Settles, CallsJudged}

-- no call
module _ (x m : List ℕ) {n : ℕ} (words : Words x m n) (no_call : (v : ℕ) → v < n → (nodes_in x v).kind ≡ 3 → ⊥) where
  not-called : {e : ℕ} → Live (flow_at x m) unknown (called e) → ⊥
  unfolding flow_at
  not-called (call {r} {v} l i k) = no_call v (in-lt (flow_at x m) unknown (small x m words.laid) l i) k

  plain-judged : Judged (flow_at x m) unknown
  plain-judged = record { no_recursion = λ e w. not-called w.0; knows = record { yes_if = λ e l h. absurd (not-called l); only_if = λ e l h. absurd (not-called l) } }

  pub plain-calls : CallsJudged x m n x None
  plain-calls = record { settles = record { words = words; none = plain-judged.no_recursion }; answers = λ p p' q q' r a. judged plain-judged a }

-- calls, of which l marks the numbers that lose SF, and x' says where they go on
module _ (x m l x' : List ℕ) {n : ℕ} (h : HandlerWords x m n) (none : NothingRecurs (flow_at x m)) (len : length l ≡ n) (all : AllLose (flow_on x) l) (idle : IdleTo (flow_on x) l n) (c : ChosenTo x l n x') where
  other-same : (v : ℕ) → (flow_at x' m).kind v ≡ 3 → (flow_at x' m).other v ≡ (flow_at x m).other v
  unfolding flow_at
  other-same v k = chosen-others x m l x' h.words.laid h.calls c h.words.first v

  first-same : (v : ℕ) → v < n → (nodes_in x' v).kind ≡ 3 → (flow_at x' m).from ((flow_at x' m).entry v) ≡ (nodes_in x' v).into
  unfolding flow_at
  first-same v i k =
      let w = chosen x m l x' h.words.laid h.calls c h.words.first in
      ap (λ (e : ℕ). (flow_at x m).from e) (w.entry v k) ∙ h.words.first v i (sym (w.kind v) ∙ k) ∙ sym (chosen-into x m l x' h.words.laid h.calls c h.words.first v)

  chosen-settles : Settles x' m n
  chosen-settles =
      let w = chosen x m l x' h.words.laid h.calls c h.words.first in
      record {
        words = record {
          laid = chosen-laid x m l x' h.words.laid h.calls c h.words.first;
          pays = λ v i a b.
              let k = chosen-kind x m l x' h.words.laid h.calls c h.words.first v in
              rw (chosen-cost x m l x' h.words.laid h.calls c h.words.first v) (h.words.pays v i (rw k at a) (rw k at b));
          first = first-same;
          widens = chosen-widens w other-same h.words.widens;
        };
        none = chosen_recurs w h.words.widens none;
      }

  costs-same : costs_in x' ≡ costs_in x
  unfolding costs_in
  costs-same = fun_ext (chosen-cost x m l x' h.words.laid h.calls c h.words.first)

  address_same : address_in x' ≡ address_in x
  address_same = fun_ext (chosen-address x m l x' h.words.laid h.calls c h.words.first)

  chosen_answer : {p p' q q' : List ℕ} {r : Found} → FlowAnswer (flow_at x' m) (costs_in x') (address_in x') p p' q q' unknown r → Answer (flow_at x m) (costs_in x) (address_in x) p p' q q' r
  chosen_answer a =
      judged (calls-judged x m h.words.laid h.words.first l len all idle h.region h.words.widens h.known_after none)
      (flow-answer-to (chosen x m l x' h.words.laid h.calls c h.words.first) (rw (costs-same, address_same) at a))

  pub chosen-calls : CallsJudged x m n x' None
  chosen-calls = record { settles = chosen-settles; answers = λ p p' q q' r a. chosen_answer a }

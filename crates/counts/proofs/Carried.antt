-- What is answered under counts of the flow on numbers is answered of the flow on places; and what is answered where the place after each call is chosen, of the flow that it was chosen from.
use mathlib.Core.Path.{◌≡◌, sym, ap, ◌∙◌}
use mathlib.Core.Bool.{Bool}
use mathlib.Core.List.{List}
use Prim.Native.Nat.{ℕ, ◌<◌}
use Rattle.routines.specs.Calling.{Flow, after}
use Rattle.routines.specs.Numbered.{Numbered}
use Rattle.routines.proofs.Paired.{Paired, paired-sym, Same, after-to, recurs_to, judged-to}
use Rattle.routines.proofs.Renamed.{paired}
use Rattle.routines.proofs.Chosen.{Chosen}
use Rattle.counts.specs.Counts.{Count}
use Rattle.counts.specs.CountedAnswer.{CountedFound, CountedFlowAnswer, CountedAnswer}
use Rattle.counts.proofs.Alike.{Alike, flow-answer-to}

alike_of : {f g : Flow} {S : ℕ → ℕ → Type 0} → Paired f g S → (K : ℕ → Bool) → Alike f K g K S
alike_of a K =
    record {
      one = a.one;
      one_back = a.one_back;
      start = a.start;
      kind = a.kind;
      next = a.next;
      other = a.other;
      past = after-to a K;
      entry = a.entry;
      into = a.into;
    }

paired_answer : {f g : Flow} {S : ℕ → ℕ → Type 0} → Paired f g S → {c d address index : ℕ → ℕ} → Same S c d → Same S address index → {C : List Count} {p p' q q' : List ℕ} {x : CountedFound}
    → CountedAnswer f c address C p p' q q' x → CountedAnswer g d index C p p' q q' x
paired_answer a cost same (CountedAnswer.gives_24 l k) = CountedAnswer.gives_24 (record { holds = recurs_to a _ l.holds; least = λ e r. l.least e (recurs_to (paired-sym a) e r) }) k
paired_answer a cost same {C = C} (CountedAnswer.judged {K = K} j y) = CountedAnswer.judged (judged-to a K j) (flow-answer-to (alike_of a K) same C cost y)

-- where each number costs what its place does, and has its address
pub renamed_by : {f g : Flow} {name : ℕ → ℕ} {n : ℕ} → Numbered f g name n → {c d cycles address : ℕ → ℕ} → ((v : ℕ) → v < n → c v ≡ cycles (name v)) → ((v : ℕ) → v < n → d v ≡ address (name v))
    → {C : List Count} {p p' q q' : List ℕ} {x : CountedFound} → CountedAnswer g c d C p p' q q' x → CountedAnswer f cycles address C p p' q q' x
renamed_by a {cycles = cycles} {address = address} cost at y =
    paired_answer (paired a) (λ v w s. cost v s.found ∙ ap cycles s.is) (λ v w s. at v s.found ∙ ap address s.is) y

-- the places are the same
chosen_alike : {f : Flow} {K : ℕ → Bool} {g : Flow} {L : ℕ → Bool} → Chosen f K g L → Alike f K g L (λ v w. v ≡ w)
chosen_alike {f} {K} {g} {L} a =
    record {
      one = λ s t. sym s ∙ t;
      one_back = λ s t. s ∙ sym t;
      start = a.start;
      kind = λ {v} s. a.kind v ∙ ap g.kind s;
      next = λ {v} s k. a.next v k ∙ ap g.next s;
      other = λ {v} s k. a.other v k ∙ ap g.other s;
      past = λ {v} s k. a.goes_on v k ∙ ap (after g L) s;
      entry = λ {v} s k. a.entry v k ∙ ap g.entry s;
      into = λ {v} s k. a.from (f.entry v) ∙ ap g.from (a.entry v k ∙ ap g.entry s);
    }

pub chosen_answer : {f : Flow} {K : ℕ → Bool} {g : Flow} {L : ℕ → Bool} → Chosen f K g L → {c address : ℕ → ℕ} {C : List Count} {p p' q q' : List ℕ} {x : CountedFound}
    → CountedFlowAnswer f c address C p p' q q' K x → CountedFlowAnswer g c address C p p' q q' L x
chosen_answer a {c = c} {address = address} {C = C} y = flow-answer-to (chosen_alike a) (λ v w s. ap address s) C (λ v w s. ap c s) y

-- The answers of why by what is found, in the order of refusal; and two that conform are one.
use mathlib.Core.Path.{◌≡◌, refl, sym, ap, ◌∙◌}
use mathlib.Core.List.{List}
use mathlib.Core.Logic.{inl, inr}
use Prim.Native.Nat.{ℕ}
use native.Mathlib.Decide.{ℕ_discrete}
use lib.Dec.{eqb}
use borrow.Author.Tests.{eqb-false}
use lib.ListN.{length, get_or}
use Rattle.std.specs.Prelude.{Option, Some, None, Result, Ok, Err}
use Rattle.laws.specs.Choice.{pick}
use Rattle.numbers.specs.declared.Refusal.{Refusal}
use Rattle.numbers.specs.Numbered.{refusal_number}
use Rattle.numbers.proofs.OneNumber.{one_refusal, refusal_some}
use Rattle.numbers.specs.ComesBack.{Paper, answered, value_at}
use Rattle.device.specs.Device.{image_size}
use Rattle.device.specs.declared.Options.{Options}
use Rattle.frame.specs.Frame.{frame_of}
use Rattle.frame.specs.declared.Pins.{Pins}
use Rattle.record.specs.Valid.{Valid}
use Rattle.record.specs.declared.Machine.{Machine}
use Rattle.record.proofs.valid.Validity.{valid?}
use Rattle.step.specs.Answers.{Refuses}
use Rattle.step.proofs.Answering.{not_both, same_pins}
use Rattle.step_why.specs.declared.Reason.{Reason}
use Rattle.step_why.specs.Why.{why_of}
use Rattle.step_why.specs.Answers.{values_of, paper_of, WhyAnswer}

module _ (image : List ℕ) (o : Options) (m : Machine) (frame : List ℕ) where
  pub refused_by : (refusal : Refusal) → Refuses image o.device m refusal → WhyAnswer image o m frame (paper_of (Err refusal))
  refused_by refusal (inl (e, n)) = rw e (record { refused_1 = λ _. refl; refused_2 = λ s. absurd (n s); refused_3 = λ s. absurd (n s); says = λ s. absurd (n s) })
  refused_by refusal (inr (e, s, n)) = rw e (record { refused_1 = λ q. absurd (q s); refused_2 = λ _ _. refl; refused_3 = λ _ v. absurd (n v); says = λ _ v. absurd (n v) })

  module _ (s : length image ≡ image_size o.device) (v : Valid o.device m) where
    pub unseen : frame_of o.device frame ≡ None → WhyAnswer image o m frame (paper_of (Err Refusal.NoFrame))
    unseen n = record { refused_1 = λ q. absurd (q s); refused_2 = λ _ q. absurd (q v); refused_3 = λ _ _ _. refl; says = λ _ _ p q. absurd (not_both q n) }

    pub says : (pins : Pins) (w : Reason) → frame_of o.device frame ≡ Some pins → w ≡ why_of o m.core pins → WhyAnswer image o m frame (paper_of (Ok w))
    says pins w f e =
        record {
          refused_1 = λ q. absurd (q s);
          refused_2 = λ _ q. absurd (q v);
          refused_3 = λ _ _ n. absurd (not_both f n);
          says = λ _ _ p q. ap (λ (w : Reason). answered (values_of w)) (e ∙ ap (λ (p : Pins). why_of o m.core p) (same_pins f q));
        }

  -- what is found decides number and values
  paper-by : (p q : Paper) → WhyAnswer image o m frame p → WhyAnswer image o m frame q → Dec (length image ≡ image_size o.device) → Dec (Valid o.device m) → (f : Option Pins) → frame_of o.device frame ≡ f → p ≡ q
  paper-by p q a b (no n) v f e = a.refused_1 n ∙ sym (b.refused_1 n)
  paper-by p q a b (yes l) (no n) f e = a.refused_2 l n ∙ sym (b.refused_2 l n)
  paper-by p q a b (yes l) (yes v) None e = a.refused_3 l v e ∙ sym (b.refused_3 l v e)
  paper-by p q a b (yes l) (yes v) (Some pins) e = a.says l v pins e ∙ sym (b.says l v pins e)

  pub one_paper : (p q : Paper) → WhyAnswer image o m frame p → WhyAnswer image o m frame q → p ≡ q
  one_paper p q a b =
      paper-by p q a b (ℕ_discrete (length image) (image_size o.device)) (valid? o.device m) (frame_of o.device frame) refl

-- an answer from its number and values
abbrev from_values : ℕ → ℕ → ℕ → Reason
from_values case source set =
    pick (eqb case 1) Reason.Waiting
    (pick (eqb case 2) Reason.Disabled
    (pick (eqb case 3) Reason.Nothing
    (pick (eqb case 4) (Reason.Masked set)
    (pick (eqb case 5) (Reason.Level set) (Reason.Accepted (record { source = source; waiting = set }))))))

back : (reason : Reason) → from_values (get_or (values_of reason) 0 0) (get_or (values_of reason) 1 0) (get_or (values_of reason) 2 0) ≡ reason
back Reason.Waiting = refl
back Reason.Disabled = refl
back Reason.Nothing = refl
back (Reason.Masked s) = refl
back (Reason.Level s) = refl
back (Reason.Accepted t) = refl

abbrev from_paper : Paper → Reason
from_paper p = from_values (value_at p 0) (value_at p 1) (value_at p 2)

same-answer : (r s : Result Reason Refusal) → paper_of r ≡ paper_of s → r ≡ s
same-answer (Ok a) (Ok b) e = ap Ok (sym (back a) ∙ (ap from_paper e ∙ back b))
same-answer (Err a) (Err b) e = ap Err (one_refusal a b (ap (λ (p : Paper). p.number) e))
same-answer (Ok a) (Err b) e = absurd (eqb-false (refusal_number b) 0 (refusal_some b) (sym (ap (λ (p : Paper). p.number) e)))
same-answer (Err a) (Ok b) e = absurd (eqb-false (refusal_number a) 0 (refusal_some a) (ap (λ (p : Paper). p.number) e))

pub one_answer : (image : List ℕ) (o : Options) (m : Machine) (frame : List ℕ) (r s : Result Reason Refusal) → WhyAnswer image o m frame (paper_of r) → WhyAnswer image o m frame (paper_of s) → r ≡ s
one_answer image o m frame r s a b = same-answer r s (one_paper image o m frame (paper_of r) (paper_of s) a b)

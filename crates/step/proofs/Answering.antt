-- The answers of the calls by what is found, in the order of refusal; and two that conform are one.
use mathlib.Core.Path.{◌≡◌, refl, sym, ap, subst, ◌∙◌}
use mathlib.Core.Bool.{Bool, true, false}
use mathlib.Core.List.{List}
use mathlib.Core.Logic.{inl, inr}
use Prim.Native.Nat.{ℕ}
use native.Mathlib.Decide.{ℕ_discrete}
use lib.Dec.{T}
use lib.ListN.{length}
use Rattle.std.specs.Prelude.{Option, Some, None, Ok}
use Rattle.std.specs.Option.{ok_or}
use Rattle.laws.specs.Choice.{pick}
use Rattle.numbers.specs.ComesBack.{no_frame}
use Rattle.numbers.specs.Numbered.{refusal_number}
use Rattle.numbers.specs.declared.Refusal.{Refusal}
use Rattle.laws.proofs.Computed.{true→T}
use Rattle.device.specs.Device.{image_size, digits_of, rom_of}
use Rattle.frame.specs.Frame.{is_frame, frame_of, pins_of, PinsInRange}
use Rattle.frame.specs.declared.Pins.{Pins}
use Rattle.frame.proofs.Characters.{in_range}
use Rattle.record.specs.Valid.{Valid}
use Rattle.record.specs.declared.Machine.{Machine}
use Rattle.record.proofs.valid.Validity.{valid?}
use Rattle.step.specs.Step.{step_of}
use Rattle.step.specs.Advance.{done_by, Advances}
use Rattle.step.specs.Answers.{StepPaper, step_refused, stepped, Refuses, StepOf}
use Rattle.device.specs.declared.Device.{Device}
use Rattle.device.specs.declared.Options.{Options}
use Rattle.step.specs.declared.Advanced.{Advanced}

-- a test that is denied, and one that is not
pub denied : (b : Bool) → b ≡ false → T b → ⊥
denied b e t = subst T e t

pub passes : (b : Bool) → b ≡ true → T b
passes b e = true→T e

-- a frame is seen or not, and shows one set of pins
pub not_both : {f : Option Pins} {p : Pins} → f ≡ Some p → f ≡ None → ⊥
not_both e n = cc

pub seen-by : {f : Option Pins} (refusal : Refusal) {p : Pins} → ok_or f refusal ≡ Ok p → f ≡ Some p
seen-by {f = Some q} refusal e = cc
seen-by {f = None} refusal e = absurd (cc)

pub same_pins : {f : Option Pins} {p q : Pins} → f ≡ Some p → f ≡ Some q → p ≡ q
same_pins e n = cc

range_of : (d : Device) (cs : List ℕ) (p : Pins) (t : Bool) → is_frame (digits_of d) cs ≡ t → pick t (Some (pins_of cs)) None ≡ Some p → PinsInRange d p
range_of d cs p true t e = subst (PinsInRange d) (same_pins refl e) (in_range d cs t)
range_of d cs p false t e = absurd (not_both e refl)

pub seen_in_range : (d : Device) (cs : List ℕ) (p : Pins) → frame_of d cs ≡ Some p → PinsInRange d p
unfolding frame_of
seen_in_range d cs p e = range_of d cs p (is_frame (digits_of d) cs) refl e

module _ (image : List ℕ) (o : Options) (m : Machine) (frame : List ℕ) where
  pub step-refused : (refusal : Refusal) → Refuses image o.device m refusal → StepOf image o m frame (step_refused (refusal_number refusal) m)
  step-refused refusal (inl (e, n)) = rw e (record { refused_1 = λ _. refl; refused_2 = λ s. absurd (n s); refused_3 = λ s. absurd (n s); steps = λ s. absurd (n s) })
  step-refused refusal (inr (e, s, n)) = rw e (record { refused_1 = λ q. absurd (q s); refused_2 = λ _ _. refl; refused_3 = λ _ v. absurd (n v); steps = λ _ v. absurd (n v) })

  module _ (s : length image ≡ image_size o.device) (v : Valid o.device m) where
    pub step-unseen : frame_of o.device frame ≡ None → StepOf image o m frame (step_refused no_frame m)
    step-unseen n = record { refused_1 = λ q. absurd (q s); refused_2 = λ _ q. absurd (q v); refused_3 = λ _ _ _. refl; steps = λ _ _ p q. absurd (not_both q n) }

    pub step-made : (pins : Pins) (k : List ℕ) (x : Advanced) → frame_of o.device frame ≡ Some pins → Advances (step_of (rom_of image) o m pins) k x → StepOf image o m frame (stepped (done_by x k))
    step-made pins k x f g =
        record {
          refused_1 = λ q. absurd (q s);
          refused_2 = λ _ q. absurd (q v);
          refused_3 = λ _ _ n. absurd (not_both f n);
          steps = λ _ _ p q. ap stepped g.same ∙ ap (λ (p : Pins). stepped (step_of (rom_of image) o m p)) (same_pins f q);
        }

-- what is found decides the answer
answer_by : (image : List ℕ) (o : Options) (m : Machine) (frame : List ℕ) (r s : StepPaper) → StepOf image o m frame r → StepOf image o m frame s → Dec (length image ≡ image_size o.device) → Dec (Valid o.device m) → (f : Option Pins) → frame_of o.device frame ≡ f → r ≡ s
answer_by image o m frame r s a b (no n) v f e = a.refused_1 n ∙ sym (b.refused_1 n)
answer_by image o m frame r s a b (yes l) (no n) f e = a.refused_2 l n ∙ sym (b.refused_2 l n)
answer_by image o m frame r s a b (yes l) (yes v) None e = a.refused_3 l v e ∙ sym (b.refused_3 l v e)
answer_by image o m frame r s a b (yes l) (yes v) (Some p) e = a.steps l v p e ∙ sym (b.steps l v p e)

pub one_answer : (image : List ℕ) (o : Options) (m : Machine) (frame : List ℕ) (r s : StepPaper) → StepOf image o m frame r → StepOf image o m frame s → r ≡ s
one_answer image o m frame r s a b = answer_by image o m frame r s a b (ℕ_discrete (length image) (image_size o.device)) (valid? o.device m) (frame_of o.device frame) refl

-- The answers of the two calls by what is found, in the order of refusal; two that conform are one; and both calls in turn are a step.
use mathlib.Core.Path.{◌≡◌, refl, sym, ap, subst, ◌∙◌}
use mathlib.Core.Bool.{true, false, not}
use mathlib.Core.List.{List}
use mathlib.Core.Logic.{inl, inr}
use Prim.Native.Nat.{ℕ}
use native.Mathlib.Decide.{ℕ_discrete}
use lib.ListN.{length}
use Rattle.std.specs.Prelude.{Option, Some, None, Result}
use Rattle.laws.specs.Choice.{both}
use Rattle.numbers.specs.ComesBack.{record_outside_the_ranges, no_frame}
use Rattle.numbers.specs.Numbered.{refusal_number}
use Rattle.numbers.specs.declared.Refusal.{Refusal}
use Rattle.numbers.specs.declared.Stop.{Stop}
use Rattle.device.specs.Device.{image_size, rom_of}
use Rattle.frame.specs.Frame.{frame_of}
use Rattle.frame.specs.declared.Pins.{Pins}
use Rattle.record.specs.Valid.{ValidCore, Valid}
use Rattle.record.specs.With.{assembled, core_with_mark}
use Rattle.record.specs.declared.Core.{Core}
use Rattle.record.specs.declared.Machine.{Machine}
use Rattle.record.proofs.valid.Validity.{valid?}
use Rattle.row.specs.Rows.{spent}
use Rattle.row.specs.Turns.{Gives}
use Rattle.row.specs.declared.Turn.{Turn}
use Rattle.step_look.specs.Look.{is_running, looked}
use Rattle.step_look.specs.declared.Looked.{Looked}
use Rattle.step_look.proofs.LookValid.{running_is}
use Rattle.step_act.specs.Act.{act_of}
use Rattle.step_act.specs.Runs.{Runs}
use Rattle.step.specs.Advance.{acted, done_by, Advances}
use Rattle.step.specs.Step.{look_step, act_step, step_of}
use Rattle.step.specs.Answers.{StepPaper, step_refused, stepped, Refuses}
use Rattle.device.specs.declared.Device.{Device}
use Rattle.device.specs.declared.Options.{Options}
use Rattle.step.specs.declared.Advanced.{Advanced}
use Rattle.step.proofs.StepValid.{look_valid}
use Rattle.step.proofs.Stepping.{acted-done, act-runs}
use Rattle.step.proofs.Answering.{not_both, same_pins, seen_in_range}
use Rattle.step.specs.Apart.{LookOf, ActOf, in_turn, StepIsBoth}

-- a record that acts
pub acting : {d : Device} (m : Core) → ValidCore d m → is_running m.mode ≡ true → Runs d m
acting m v r = record { valid = v; running = running_is m.mode r }

-- the second call on lent RAM, by its two ways
module _ (rom : ℕ → ℕ → ℕ) (o : Options) (m : Core) (l : List ℕ) where
  pub idles : both (is_running m.mode) (not m.mark) ≡ false → Advances (act_step rom o (assembled m l)) l (record { stop = None; cycles = 0; core = core_with_mark m false })
  unfolding act_step
  idles t = record { same = rw t }

  pub acts : (k : List ℕ) (x : Result Turn Stop) → is_running m.mode ≡ true → m.mark ≡ false → Gives (act_of rom o (assembled m l)) m k x → Advances (act_step rom o (assembled m l)) k (acted m x)
  acts k x t f g = record { same = acted-done m k x ∙ rw (act-runs rom o (assembled m l) t f) g.same }

module _ (o : Options) (m : Machine) (frame : List ℕ) where
  pub look-refused : (Valid o.device m → ⊥) → LookOf o m frame (step_refused record_outside_the_ranges m)
  look-refused n = record { refused_2 = λ _. refl; refused_3 = λ v. absurd (n v); looks = λ v. absurd (n v) }

  module _ (v : Valid o.device m) where
    pub look-unseen : frame_of o.device frame ≡ None → LookOf o m frame (step_refused no_frame m)
    look-unseen n = record { refused_2 = λ q. absurd (q v); refused_3 = λ _ _. refl; looks = λ _ p q. absurd (not_both q n) }

    pub look-made : (pins : Pins) (l : Looked) → frame_of o.device frame ≡ Some pins → l ≡ looked o m.core pins → LookOf o m frame (stepped (spent l.cycles (assembled l.core m.ram)))
    unfolding look_step
    look-made pins l f e =
        record {
          refused_2 = λ q. absurd (q v);
          refused_3 = λ _ n. absurd (not_both f n);
          looks = λ _ p q. rw e (ap (λ (p : Pins). stepped (look_step o m p)) (same_pins f q));
        }

module _ (image : List ℕ) (o : Options) (m : Machine) where
  pub act-refused : (refusal : Refusal) → Refuses image o.device m refusal → ActOf image o m (step_refused (refusal_number refusal) m)
  act-refused refusal (inl (e, n)) = rw e (record { refused_1 = λ _. refl; refused_2 = λ s. absurd (n s); acts = λ s. absurd (n s) })
  act-refused refusal (inr (e, s, n)) = rw e (record { refused_1 = λ q. absurd (q s); refused_2 = λ _ _. refl; acts = λ _ v. absurd (n v) })

  pub act-made : (k : List ℕ) (x : Advanced) → length image ≡ image_size o.device → Valid o.device m → Advances (act_step (rom_of image) o m) k x → ActOf image o m (stepped (done_by x k))
  act-made k x s v g =
      record { refused_1 = λ q. absurd (q s); refused_2 = λ _ q. absurd (q v); acts = λ _ _. ap stepped g.same }

-- what is found decides the answer
look_by : (o : Options) (m : Machine) (frame : List ℕ) (r s : StepPaper) → LookOf o m frame r → LookOf o m frame s → Dec (Valid o.device m) → (f : Option Pins) → frame_of o.device frame ≡ f → r ≡ s
look_by o m frame r s a b (no n) f e = a.refused_2 n ∙ sym (b.refused_2 n)
look_by o m frame r s a b (yes v) None e = a.refused_3 v e ∙ sym (b.refused_3 v e)
look_by o m frame r s a b (yes v) (Some p) e = a.looks v p e ∙ sym (b.looks v p e)

pub one_look : (o : Options) (m : Machine) (frame : List ℕ) (r s : StepPaper) → LookOf o m frame r → LookOf o m frame s → r ≡ s
one_look o m frame r s a b = look_by o m frame r s a b (valid? o.device m) (frame_of o.device frame) refl

act_by : (image : List ℕ) (o : Options) (m : Machine) (r s : StepPaper) → ActOf image o m r → ActOf image o m s → Dec (length image ≡ image_size o.device) → Dec (Valid o.device m) → r ≡ s
act_by image o m r s a b (no n) v = a.refused_1 n ∙ sym (b.refused_1 n)
act_by image o m r s a b (yes l) (no n) = a.refused_2 l n ∙ sym (b.refused_2 l n)
act_by image o m r s a b (yes l) (yes v) = a.acts l v ∙ sym (b.acts l v)

pub one_act : (image : List ℕ) (o : Options) (m : Machine) (r s : StepPaper) → ActOf image o m r → ActOf image o m s → r ≡ s
one_act image o m r s a b = act_by image o m r s a b (ℕ_discrete (length image) (image_size o.device)) (valid? o.device m)

-- both calls in turn
both_steps : (image : List ℕ) (o : Options) (m : Machine) (pins : Pins) (first second : StepPaper) → first ≡ stepped (look_step o m pins) → second ≡ stepped (act_step (rom_of image) o first.machine) → in_turn first second ≡ stepped (step_of (rom_of image) o m pins)
unfolding step_of
both_steps image o m pins first second e f = rw (f, e)

pub step_is_both : StepIsBoth
step_is_both image o m frame pins first second s v f a b =
    let e = a.looks v pins f in
    let valid : Valid o.device first.machine = subst (λ (r : StepPaper). Valid o.device r.machine) (sym e) (look_valid o m pins v (seen_in_range o.device frame pins f)) in
    record {
      refused_1 = λ q. absurd (q s);
      refused_2 = λ _ q. absurd (q v);
      refused_3 = λ _ _ n. absurd (not_both f n);
      steps = λ _ _ p q. both_steps image o m pins first second e (b.acts s valid) ∙ ap (λ (p : Pins). stepped (step_of (rom_of image) o m p)) (same_pins f q);
    }

-- The step is what the answer says of it, and the stored due source is the first of those that the answer names.
use Prim.Native.Nat.{ℕ, suc, ◌<◌, ◌^◌}
use mathlib.Core.Path.{◌≡◌, refl, sym, ap, subst, ◌∙◌}
use mathlib.Core.Bool.{Bool, true, false, not}
use mathlib.Core.List.{List, [], ◌∷◌}
use native.Mathlib.Decide.{ℕ_discrete}
use native.Mathlib.Omega.{arith}
use lib.Dec.{eqb, ltb}
use lib.ListN.{length, get_or}
use borrow.Author.Tests.{eqb-false, ltb-true, lt-ltb, le-leb}
use Rattle.laws.specs.Choice.{both}
use Rattle.laws.proofs.Choices.{both_false}
use Rattle.laws.proofs.Computed.{true→T}
use Rattle.bits.specs.Bits.{highest_bit, without_bit}
use Rattle.numbers.specs.ComesBack.{Paper, answered, refused, stack_level}
use Rattle.device.specs.Device.{image_size, rom_of}
use Rattle.device.specs.declared.Options.{Options}
use Rattle.std.specs.Prelude.{Option, Some, None}
use Rattle.frame.specs.Frame.{PinsInRange, frame_of}
use Rattle.frame.specs.declared.Pins.{Pins}
use Rattle.due.specs.Due.{due_source, latch_of_source}
use Rattle.due.proofs.Sources.{number_tells}
use Rattle.record.specs.Stack.{can_push, CanPush, accepted}
use Rattle.record.specs.Valid.{ValidInterrupts, Valid}
use Rattle.record.specs.declared.Machine.{Machine}
use Rattle.record.proofs.Range.{can-push}
use Rattle.record.proofs.valid.Validity.{valid?}
use Rattle.row.specs.Rows.{Done, spent, stops}
use Rattle.step_look.specs.Look.{is_running, looked}
use Rattle.step_look.proofs.LookValid.{waited_marked}
use Rattle.step_act.specs.Act.{source_of, accept_of, run_one, accept_or_run, after_time, act_of}
use Rattle.step_act.proofs.Stops.{act-keeps}
use Rattle.step.specs.Step.{look_step, unmarked, step_of}
use Rattle.step.specs.Answers.{StepPaper, stepped, StepOf}
use Rattle.step.proofs.Answering.{seen_in_range}
use Rattle.step.proofs.StepValid.{look_valid}
use Rattle.step.proofs.Stepping.{step-runs, step_waits}
use Rattle.step_why.specs.declared.Reason.{Reason}
use Rattle.step_why.specs.declared.Taken.{Taken}
use Rattle.step_why.specs.Why.{due_set, why_seen, why_of}
use Rattle.step_why.specs.Answers.{values_of, WhyAnswer}
use Rattle.step_why.specs.Accepting.{Accepts, acted_by, sighted, SaysAccepted, AcceptsByRule, StepAccepts, LastExactly, StepByAnswer, AnswerTellsStep, CallsTellAlike}
use Rattle.step_why.proofs.Sources.{first_is_highest, none_latched, none-due, some-due}
use Rattle.step_why.proofs.Reasons.{takes, by-reason, of-waiting}

-- a reason's number, its source and its set; reasons of two numbers are two
abbrev value_in : ℕ → Reason → ℕ
value_in i r = get_or (values_of r) i 0

apart : {A : Type 0} {r s : Reason} → eqb (value_in 0 r) (value_in 0 s) ≡ false → r ≡ s → A
apart {r = r} {s = s} f e = absurd (eqb-false (value_in 0 r) (value_in 0 s) f (ap (value_in 0) e))

-- a record that has seen the frame
module _ (m : Machine) (v : ValidInterrupts m.core.ints) where
  abbrev il : ℕ
  il = m.core.ints.il

  abbrev mask : ℕ
  mask = m.core.ints.mask

  source_is : m.core.ints.ei ≡ true → source_of m.core ≡ due_source il mask
  unfolding source_of
  source_is e = rw e

  no_source : m.core.ints.ei ≡ false → source_of m.core ≡ 6
  unfolding source_of
  no_source e = rw e

  accepts-only : (t : Taken) → why_seen m.core ≡ Reason.Accepted t → Accepts m t.source
  accepts-only t =
      by-reason m.core (λ r. r ≡ Reason.Accepted t → Accepts m t.source)
      (record {
        on-disabled = λ _. apart refl;
        on-nothing = λ _. apart refl;
        on-masked = λ _. apart refl;
        on-level = λ _ _ _. apart refl;
        on-taken = λ e n p q.
            let s : due_source il mask ≡ t.source = ap (value_in 1) q in
            record { ei = e; first = s; some = subst (λ (s : ℕ). s < 6) s (ltb-true (due_source il mask) 6 (some-due il mask v.il v.mask n)); level = can-push p };
      })

  level-true : CanPush m.core → can_push m.core ≡ true
  level-true h = rw (le-leb 1 m.core.ptrs.sp h.above, le-leb m.core.ptrs.sp 13 h.below)

  accepts-always : (source : ℕ) → Accepts m source → why_seen m.core ≡ Reason.Accepted (record { source = source; waiting = without_bit (due_set il mask) (2 ^ source) })
  accepts-always source a =
      let some : due_set il mask ≡ 0 → ⊥ = λ z. let six = none-due il mask v.il v.mask z in let first = a.first in let below = a.some in omega arith in
      let latched : il ≡ 0 → ⊥ = λ z. some (none_latched il mask z) in
      rw (← takes m.core a.ei latched (due_set il mask) refl some (level-true a.level), a.first)

  module _ (rom : ℕ → ℕ → ℕ) (o : Options) where
    runs : ltb (source_of m.core) 6 ≡ false → act_of rom o m ≡ after_time (run_one rom o m)
    unfolding act_of accept_or_run
    runs e = rw e

    runs-when-none : due_set il mask ≡ 0 → (ei : Bool) → m.core.ints.ei ≡ ei → act_of rom o m ≡ after_time (run_one rom o m)
    runs-when-none z true e = runs (rw (source_is e, none-due il mask v.il v.mask z))
    runs-when-none z false e = runs (rw (no_source e))

    module _ (enabled : m.core.ints.ei ≡ true) (some : due_set il mask ≡ 0 → ⊥) where
      accepting : act_of rom o m ≡ after_time (accept_of m (due_source il mask))
      unfolding act_of accept_or_run
      accepting = rw (source_is enabled, some-due il mask v.il v.mask some)

      takes-it : can_push m.core ≡ true → act_of rom o m ≡ after_time (spent 2 (accepted m (due_source il mask)))
      unfolding accept_of
      takes-it p = accepting ∙ rw p

      stops-it : can_push m.core ≡ false → (act_of rom o m).stop ≡ stack_level
      unfolding accept_of
      stops-it p = ap (λ (x : Done). x.stop) accepting ∙ rw p

      refuses-it : can_push m.core ≡ false → act_of rom o m ≡ stops stack_level m
      refuses-it p =
          let s = stops-it p in
          act-keeps rom o m v.due (λ z. let d : ◌≡◌ {A = ℕ} 0 32 = sym z ∙ s in omega arith) ∙ ap (λ (n : ℕ). stops n m) s

    acted : act_of rom o m ≡ acted_by rom o m (why_seen m.core)
    acted =
        by-reason m.core (λ r. act_of rom o m ≡ acted_by rom o m r)
        (record {
          on-disabled = λ e. runs (rw (no_source e));
          on-nothing = λ z. runs-when-none z m.core.ints.ei refl;
          on-masked = λ z. runs-when-none z m.core.ints.ei refl;
          on-level = λ e n p. refuses-it e n p;
          on-taken = λ e n p. takes-it e n p;
        })

  stored : latch_of_source m.core.ints.due ≡ highest_bit (due_set il mask)
  stored =
      ap latch_of_source v.due ∙ (number_tells il mask ∙ sym (first_is_highest il mask v.il v.mask))

  stored_refused : (due : ℕ) → why_seen m.core ≡ Reason.Level due → latch_of_source m.core.ints.due ≡ highest_bit due
  stored_refused due =
      by-reason m.core (λ r. r ≡ Reason.Level due → latch_of_source m.core.ints.due ≡ highest_bit due)
      (record {
        on-disabled = λ _. apart refl;
        on-nothing = λ _. apart refl;
        on-masked = λ _. apart refl;
        on-level = λ _ _ _ q. stored ∙ ap highest_bit (ap (value_in 2) q);
        on-taken = λ _ _ _. apart refl;
      })

-- the record that the first call leaves
module _ (o : Options) (m : Machine) (pins : Pins) (valid : Valid o.device m) (range : PinsInRange o.device pins) where
  abbrev after : Machine
  after = sighted o m pins

  ints : ValidInterrupts after.core.ints
  ints = (look_valid o m pins valid range).core.ints

  why-runs : is_running m.core.mode ≡ true → why_of o m.core pins ≡ why_seen after.core
  unfolding why_of look_step looked
  why-runs t = rw t

  act-runs : (rom : ℕ → ℕ → ℕ) → is_running m.core.mode ≡ true → step_of rom o m pins ≡ act_of rom o after
  unfolding look_step looked
  act-runs rom t = rw t (step-runs rom o m pins t)

  running-by : (t : Bool) → is_running m.core.mode ≡ t → (why_of o m.core pins ≡ Reason.Waiting → ⊥) → is_running m.core.mode ≡ true
  running-by true e n = e
  running-by false e n = absurd (n (sym (of-waiting o m.core pins e)))

  only : (t : Taken) → why_of o m.core pins ≡ Reason.Accepted t → AcceptsByRule o m pins t.source
  only t q =
      let r = running-by (is_running m.core.mode) refl (λ w. apart refl (sym w ∙ q)) in
      (r, accepts-only after ints t (sym (why-runs r) ∙ q))

  always : (source : ℕ) → AcceptsByRule o m pins source → SaysAccepted o m pins source
  always source a = (_, why-runs a.0 ∙ accepts-always after ints source a.1)

  waits-by : (rom : ℕ → ℕ → ℕ) (t : Bool) → is_running m.core.mode ≡ t → why_of o m.core pins ≡ Reason.Waiting → step_of rom o m pins ≡ spent (look_step o m pins).cycles (unmarked after)
  unfolding look_step looked
  waits-by rom true t q =
      by-reason after.core (λ r. r ≡ Reason.Waiting → step_of rom o m pins ≡ spent (look_step o m pins).cycles (unmarked after))
      (record { on-disabled = λ _. apart refl; on-nothing = λ _. apart refl; on-masked = λ _. apart refl; on-level = λ _ _ _. apart refl; on-taken = λ _ _ _. apart refl })
      (sym (why-runs t) ∙ q)
  waits-by rom false t q = rw t (step_waits rom o m pins t)

  step-acts : (rom : ℕ → ℕ → ℕ) → is_running m.core.mode ≡ true → step_of rom o m pins ≡ acted_by rom o after (why_of o m.core pins)
  step-acts rom t = act-runs rom t ∙ (acted after ints rom o ∙ ap (acted_by rom o after) (sym (why-runs t)))

  step_by_answer : (rom : ℕ → ℕ → ℕ) → StepByAnswer o m pins rom
  step_by_answer rom = record { acts = step-acts rom; waits = waits-by rom (is_running m.core.mode) refl }

  -- a running record's look leaves it running and without a mark
  look-acts : is_running m.core.mode ≡ true → both (is_running after.core.mode) (not after.core.mark) ≡ true
  unfolding look_step looked
  look-acts t = rw t (rw t refl)

  by-words : (rom : ℕ → ℕ → ℕ) (source : ℕ) → AcceptsByRule o m pins source → StepAccepts o m pins rom source
  by-words rom source a =
      let is : source_of after.core ≡ source = source_is after ints a.1.ei ∙ a.1.first in
      record {
        acts = look-acts a.0;
        is-source = is;
        due = rw is (lt-ltb source 6 a.1.some);
        level = level-true after ints a.1.level;
        is-acceptance = step-acts rom a.0 ∙ ap (acted_by rom o after) (always source a).1;
      }

  -- a record that waits comes out of the look marked
  runs_by : (t : Bool) → is_running m.core.mode ≡ t → both (is_running after.core.mode) (not after.core.mark) ≡ true → is_running m.core.mode ≡ true
  unfolding look_step looked
  runs_by true t e = t
  runs_by false t e = absurd (true→T (rw (t, waited_marked o.wake m.core pins, both_false) at e))

  enabled-by : (t : Bool) → after.core.ints.ei ≡ t → ltb (source_of after.core) 6 ≡ true → after.core.ints.ei ≡ true
  enabled-by true t e = t
  enabled-by false t e = absurd (true→T (rw (no_source after ints t) at e))

  in_words : (rom : ℕ → ℕ → ℕ) (source : ℕ) → StepAccepts o m pins rom source → AcceptsByRule o m pins source
  in_words rom source a =
      let ei = enabled-by after.core.ints.ei refl a.due in (
        runs_by (is_running m.core.mode) refl a.acts,
        record { ei = ei; first = sym (source_is after ints ei) ∙ a.is-source; some = subst (λ (s : ℕ). s < 6) a.is-source (ltb-true (source_of after.core) 6 a.due); level = can-push a.level },
      )

  last_exactly : (rom : ℕ → ℕ → ℕ) → LastExactly o m pins rom
  last_exactly rom =
      record {
        only_then = λ source s. by-words rom source (only (record { source = source; waiting = s.0 }) s.1);
        always_then = λ source a. always source (in_words rom source a);
        in_words = in_words rom;
        by-words = by-words rom;
      }

  refused-first : (due : ℕ) → why_of o m.core pins ≡ Reason.Level due → latch_of_source after.core.ints.due ≡ highest_bit due
  refused-first due q =
      let r = running-by (is_running m.core.mode) refl (λ w. apart refl (sym w ∙ q)) in
      stored_refused after ints due (sym (why-runs r) ∙ q)

  accepted-first : (t : Taken) → why_of o m.core pins ≡ Reason.Accepted t → latch_of_source after.core.ints.due ≡ t.source
  accepted-first t q =
      ap latch_of_source ints.due ∙ (number_tells after.core.ints.il after.core.ints.mask ∙ (only t q).1.first)

pub answer_tells_step : AnswerTellsStep
answer_tells_step o m pins valid range =
    record {
      last_exactly = last_exactly o m pins valid range;
      step_by_answer = step_by_answer o m pins valid range;
      stored_is_first =
          record {
            of-all = stored (sighted o m pins) (ints o m pins valid range);
            of-refused = refused-first o m pins valid range;
            of-accepted = accepted-first o m pins valid range;
          };
    }

-- the reason of the answer's values
accepted_by : (w : Reason) (source waiting : ℕ) → values_of w ≡ 6 ∷ source ∷ waiting ∷ [] → w ≡ Reason.Accepted (record { source = source; waiting = waiting })
accepted_by Reason.Waiting s t e = absurd (omega (arith, ap (λ (l : List ℕ). get_or l 0 0) e))
accepted_by Reason.Disabled s t e = absurd (omega (arith, ap (λ (l : List ℕ). get_or l 0 0) e))
accepted_by Reason.Nothing s t e = absurd (omega (arith, ap (λ (l : List ℕ). get_or l 0 0) e))
accepted_by (Reason.Masked l) s t e = absurd (omega (arith, ap (λ (l : List ℕ). get_or l 0 0) e))
accepted_by (Reason.Level l) s t e = absurd (omega (arith, ap (λ (l : List ℕ). get_or l 0 0) e))
accepted_by (Reason.Accepted x) s t e =
    let a : x.source ≡ s = ap (λ (l : List ℕ). get_or l 1 0) e in
    let b : x.waiting ≡ t = ap (λ (l : List ℕ). get_or l 2 0) e in
    rw (← a, ← b)

not_refused : {p : Paper} {l : List ℕ} (k : ℕ) → p ≡ refused (suc k) → p ≡ answered l → ⊥
not_refused {p} k e q = let z : suc k ≡ 0 = ap (λ (x : Paper). x.number) (sym e ∙ q) in omega arith

module _ (image : List ℕ) (o : Options) (m : Machine) (frame : List ℕ) (p : Paper) (r : StepPaper) (w : WhyAnswer image o m frame p) (s : StepOf image o m frame r) where
  abbrev Accepting : ℕ → Type 0
  Accepting source = (pins : Pins) × (frame_of o.device frame ≡ Some pins) × StepAccepts o m pins (rom_of image) source × (r ≡ stepped (after_time (spent 2 (accepted (sighted o m pins) source))))

  tells-by : (source waiting : ℕ) → p ≡ answered (6 ∷ source ∷ waiting ∷ []) → Dec (length image ≡ image_size o.device) → Dec (Valid o.device m) → (f : Option Pins) → frame_of o.device frame ≡ f → Accepting source
  tells-by source waiting q (no n) v f e = absurd (not_refused 0 (w.refused_1 n) q)
  tells-by source waiting q (yes l) (no n) f e = absurd (not_refused 1 (w.refused_2 l n) q)
  tells-by source waiting q (yes l) (yes v) None e = absurd (not_refused 2 (w.refused_3 l v e) q)
  tells-by source waiting q (yes l) (yes v) (Some pins) e =
      let same : values_of (why_of o m.core pins) ≡ 6 ∷ source ∷ waiting ∷ [] = ap (λ (x : Paper). x.values) (sym (w.says l v pins e) ∙ q) in
      let a = ((answer_tells_step o m pins v (seen_in_range o.device frame pins e)).last_exactly (rom_of image)).only_then source (waiting, accepted_by (why_of o m.core pins) source waiting same) in
      (pins, e, a, s.steps l v pins e ∙ ap stepped a.is-acceptance)

pub calls_tell_alike : CallsTellAlike
calls_tell_alike image o m frame p r w s =
    record {
      only_then = λ source waiting q. tells-by image o m frame p r w s source waiting q (ℕ_discrete (length image) (image_size o.device)) (valid? o.device m) (frame_of o.device frame) refl;
      always_then = λ l v pins e source a.
          let t = ((answer_tells_step o m pins v (seen_in_range o.device frame pins e)).last_exactly (rom_of image)).always_then source a in
          (t.0, w.says l v pins e ∙ ap (λ (x : Reason). answered (values_of x)) t.1);
    }

-- The three demands, each from the laws that prove its lines.
use Rattle.std.specs.Prelude.{Some, Result}
use Prim.Native.Nat.{ℕ, ◌<◌}
use mathlib.Core.List.{List}
use mathlib.Core.Path.{◌≡◌, refl, sym, ap, subst, ◌∙◌}
use native.Mathlib.Decide.{dec_lt}
use native.Mathlib.Omega.{arith}
use lib.ListN.{length}
use Rattle.numbers.specs.ComesBack.{Paper}
use Rattle.numbers.specs.declared.Refusal.{Refusal}
use Rattle.device.specs.Device.{image_size}
use Rattle.device.specs.declared.Device.{Device}
use Rattle.device.specs.declared.Options.{Options}
use Rattle.frame.specs.Frame.{frame_of}
use Rattle.frame.specs.declared.Pins.{Pins}
use Rattle.record.specs.Valid.{Valid}
use Rattle.record.specs.declared.Machine.{Machine}
use Rattle.record.proofs.valid.Validity.{valid?}
use Rattle.record_bytes.specs.Layout.{record_bytes, Holds}
use Rattle.record_bytes.proofs.Tells.{one_record}
use Rattle.step.specs.Answers.{StepPaper, StepOf}
use Rattle.run.proofs.StaysValid.{stays_valid}
use Rattle.display.specs.Display.{DisplayOf}
use Rattle.writer.proofs.RoundTrip.{read_then_written, written_then_read, cut_code}
use Rattle.routines.specs.Answer.{Kept, Found, PathAnswer, Answer, gives_24, judged, gives_21, gives_22, bounded, gives_25, gives_23, gives_23_depth, gives_n}
use Rattle.routines.specs.Calling.{Flow}
use Rattle.bound_calls.specs.CallAnswer.{CallAnswer, gives_1, gives_2, gives_20, by_flow, paper_of_found}
use Rattle.bound_calls.proofs.CallUnique.{one_answer_with_calls}
use Rattle.bound_calls.proofs.OldStands.{old_answer_stands}
use Rattle.bound_calls_runs.proofs.DemandOfCalls.{demand_3_of_calls, demand_3_of_answers_at_depth_0}
use Rattle.record_calls.specs.Calls.{number_of, no_record, record_of, Answers, StepCall, DisplayCall}
use Rattle.record_calls.proofs.Kept.{Leaves, refused, stopped, step_left, reset_kept}
use Rattle.demands.specs.Demands.{LeavesRecord, refusal_keeps, stop_leaves, GivesStep, FirstDemand, SecondDemand, ThirdDemand, Demands}

module _ {o : Options} {bytes frame bytes' : List ℕ} where
  leaves : (m : Machine) → Holds bytes m → {after : Machine} → bytes' ≡ record_bytes after → Leaves o m frame after → LeavesRecord o bytes frame bytes'
  leaves m h e (refused same) = refusal_keeps (e ∙ (ap record_bytes same ∙ sym h.same))
  leaves m h e (stopped pins seen same) = stop_leaves m pins h seen (e ∙ ap record_bytes same)

  step-leaves : {image : List ℕ} {number cycles : ℕ} → StepCall image o bytes frame number cycles bytes' → (number ≡ 0 → ⊥) → (cycles ≡ 0) × LeavesRecord o bytes frame bytes'
  step-leaves (no_record n a) nz = (a.none, refusal_keeps a.kept)
  step-leaves (record_of m h a) nz =
      let l = step_left a nz in
      (l.0, leaves m h a.left l.1)

display_by : {d : Device} {m : Machine} {dots dots' : List ℕ} (r : Result Unit Refusal) → DisplayOf d m dots dots' r → (number_of r ≡ 0 → ⊥) → Dec (Valid d m) → Dec (length dots < 40) → dots' ≡ dots
display_by r a nz (no n) s = (a.outside n).kept
display_by r a nz (yes v) (yes s) = (a.short v s).kept
display_by r a nz (yes v) (no s) = absurd (nz (ap number_of (a.shown v (omega arith)).0))

display_kept : {d : Device} {bytes dots : List ℕ} {number : ℕ} {dots' : List ℕ} → DisplayCall d bytes dots number dots' → (number ≡ 0 → ⊥) → dots' ≡ dots
display_kept (no_record h a) nz = a.kept
display_kept {d} {dots = dots} (record_of m h a) nz = display_by a.r a.shows (λ z. nz (a.refusal ∙ z)) (valid? d m) (dec_lt (length dots) 40)

module _ {p p' q q' : List ℕ} where
  path-kept : {address : ℕ → ℕ} {N d : ℕ} {path deep : List ℕ} {x : Found} → PathAnswer address p p' q q' N d path deep x → ((paper_of_found x).number ≡ 0 → ⊥) → Kept p p' q q'
  path-kept (gives_25 n k) nz = k
  path-kept (gives_23 n s k) nz = k
  path-kept (gives_23_depth n s t k) nz = k
  path-kept (gives_n n s t e g) nz = absurd (nz refl)

  answer-kept : {f : Flow} {cycles address : ℕ → ℕ} {x : Found} → Answer f cycles address p p' q q' x → ((paper_of_found x).number ≡ 0 → ⊥) → Kept p p' q q'
  answer-kept (gives_24 l k) nz = k
  answer-kept (judged j (gives_21 l k)) nz = k
  answer-kept (judged j (gives_22 n l k)) nz = k
  answer-kept (judged j (bounded h a)) nz = path-kept a nz

  call_kept : {d : Device} {image : List ℕ} {p3 start : ℕ} {paper : Paper} → CallAnswer d image p3 start p p' q q' paper → (paper.number ≡ 0 → ⊥) → Kept p p' q q'
  call_kept (gives_1 n k) nz = k
  call_kept (gives_2 l n k) nz = k
  call_kept (gives_20 l n s k) nz = k
  call_kept (by_flow l n s a) nz = answer-kept a nz

demand_1 : FirstDemand
demand_1 = record {
  step = step-leaves;
  reset = reset_kept;
  display = display_kept;
  bound = λ a nz. let k = call_kept a.bounds (λ z. nz (a.answer ∙ z)) in (k.first, k.second);
  valid = stays_valid;
}

module _ {image : List ℕ} {o : Options} {frame : List ℕ} {number cycles : ℕ} {bytes' : List ℕ} where
  gives : (m : Machine) → Answers (StepOf image o m frame) number cycles bytes' → length image ≡ image_size o.device → Valid o.device m → (pins : Pins)
      → frame_of o.device frame ≡ Some pins → GivesStep image o m pins number cycles bytes'
  gives m a l v pins seen =
      let e = a.promised.steps l v pins seen in
      record { stop = a.answer ∙ ap (λ (r : StepPaper). r.number) e; spent = a.spent ∙ ap (λ (r : StepPaper). r.cycles) e; left = a.left ∙ ap (λ (r : StepPaper). record_bytes r.machine) e }

  gives-step : {bytes : List ℕ} → StepCall image o bytes frame number cycles bytes' → (m : Machine) → Holds bytes m → length image ≡ image_size o.device → Valid o.device m → (pins : Pins)
      → frame_of o.device frame ≡ Some pins → GivesStep image o m pins number cycles bytes'
  gives-step (no_record n a) m h = absurd (n m h)
  gives-step (record_of k held a) m h = gives m (subst (λ (x : Machine). Answers (StepOf image o x frame) number cycles bytes') (one_record k m held h) a)

demand_2 : SecondDemand
demand_2 = record { step = gives-step; read_then_written = read_then_written; written_then_read = written_then_read; cut_short = cut_code }

demand_3 : ThirdDemand
demand_3 = record { one_answer = one_answer_with_calls; old_answer = old_answer_stands; runs = demand_3_of_calls; runs_without_calls = demand_3_of_answers_at_depth_0 }

pub demands : Demands
demands = record { first = demand_1; second = demand_2; third = demand_3 }

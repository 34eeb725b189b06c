-- What every call on a record gives back, where it refuses nothing, is valid.
use Prim.Native.Nat.{ℕ, suc, ◌+◌, ◌*◌, ◌<◌}
use mathlib.Core.Bool.{Bool, true, false}
use mathlib.Core.List.{List, [], ◌∷◌}
use mathlib.Core.Logic.{⊎_elim}
use mathlib.Core.Path.{◌≡◌, refl, ap}
use native.Mathlib.Decide.{dec_lt, ℕ_discrete}
use native.Mathlib.Omega.{arith}
use lib.Dec.{eqb}
use lib.ListN.{length, get_or}
use Rattle.std.specs.Prelude.{Option, Some, None, Result, Ok}
use Rattle.numbers.specs.declared.Refusal.{Refusal}
use Rattle.laws.proofs.Choices.{picked_by}
use Rattle.device.specs.Device.{image_size, frame_size, rom_of, OfBytes}
use Rattle.device.specs.declared.Device.{Device}
use Rattle.device.specs.declared.Options.{Options}
use Rattle.frame.specs.Frame.{frame_of, are_frames, frames_of, PinsInRange}
use Rattle.frame.specs.declared.Pins.{Pins}
use Rattle.frame.proofs.Sequence.{length-frames, number-in-range}
use Rattle.record.specs.Valid.{Valid}
use Rattle.record.specs.declared.Machine.{Machine}
use Rattle.record.proofs.valid.Validity.{valid?}
use Rattle.record.specs.Start.{reset_machine, ResetOf}
use Rattle.record.proofs.start.Starting.{fresh_valid, reset_valid}
use Rattle.step.specs.Step.{step_of}
use Rattle.step.specs.Answers.{StepPaper, StepOf}
use Rattle.step.proofs.Answering.{seen_in_range}
use Rattle.step.proofs.StepValid.{look_valid, act_step_valid, step-valid}
use Rattle.step.specs.Apart.{LookOf, ActOf}
use Rattle.run.specs.Run.{RunPaper, run_over, run_of}
use Rattle.run.specs.Answers.{RunOf}
use Rattle.run.specs.StaysValid.{NoRefusal, StaysValid}

-- a number of the table's refusals
not_refused : {n : ℕ} → NoRefusal n → (k : ℕ) → n ≡ suc k → k < 29 → ⊥
not_refused ok k e h = ⊎_elim (λ z. omega arith) (λ z. omega arith) ok

reset_by : {d : Device} {m : Machine} (r : Result Machine Refusal) → ResetOf d m r → (after : Machine) → r ≡ Ok after → Dec (Valid d m) → Valid d after
reset_by {d} {m} r a after e (yes v) =
    let i = a.inside v in
    let same : after ≡ reset_machine d m = cc in
    rw same (reset_valid m v)
reset_by r a after e (no n) = let o = a.outside n in absurd (cc)

abbrev number_is : StepPaper → ℕ
number_is r = r.number

look_by : (o : Options) (m : Machine) (frame : List ℕ) (r : StepPaper) → LookOf o m frame r → NoRefusal r.number → Dec (Valid o.device m) → (f : Option Pins) → frame_of o.device frame ≡ f → Valid o.device r.machine
look_by o m frame r a ok (no n) f e = absurd (not_refused ok 1 (ap number_is (a.refused_2 n)) (omega arith))
look_by o m frame r a ok (yes v) None e = absurd (not_refused ok 2 (ap number_is (a.refused_3 v e)) (omega arith))
look_by o m frame r a ok (yes v) (Some pins) e = rw (a.looks v pins e) (look_valid o m pins v (seen_in_range o.device frame pins e))

module _ (image : List ℕ) (o : Options) (m : Machine) (bytes : OfBytes image) where
  act_by : (r : StepPaper) → ActOf image o m r → NoRefusal r.number → Dec (length image ≡ image_size o.device) → Dec (Valid o.device m) → Valid o.device r.machine
  act_by r a ok (no n) v = absurd (not_refused ok 0 (ap number_is (a.refused_1 n)) (omega arith))
  act_by r a ok (yes l) (no n) = absurd (not_refused ok 1 (ap number_is (a.refused_2 l n)) (omega arith))
  act_by r a ok (yes l) (yes v) = rw (a.acts l v) (act_step_valid (rom_of image) o m v bytes)

  step_by : (frame : List ℕ) (r : StepPaper) → StepOf image o m frame r → NoRefusal r.number → Dec (length image ≡ image_size o.device) → Dec (Valid o.device m) → (f : Option Pins) → frame_of o.device frame ≡ f
      → Valid o.device r.machine
  step_by frame r a ok (no n) v f e = absurd (not_refused ok 0 (ap number_is (a.refused_1 n)) (omega arith))
  step_by frame r a ok (yes l) (no n) f e = absurd (not_refused ok 1 (ap number_is (a.refused_2 l n)) (omega arith))
  step_by frame r a ok (yes l) (yes v) None e = absurd (not_refused ok 2 (ap number_is (a.refused_3 l v e)) (omega arith))
  step_by frame r a ok (yes l) (yes v) (Some pins) e = rw (a.steps l v pins e) (step-valid (rom_of image) o m pins v (seen_in_range o.device frame pins e) bytes)

-- a run goes from valid record to valid record
run_over_valid : (rom : ℕ → ℕ → ℕ) (o : Options) → ((p3 at : ℕ) → rom p3 at < 256) → (frames : List Pins) (other : Pins) → ((k : ℕ) → k < length frames → PinsInRange o.device (get_or frames k other))
    → (steps cycles : ℕ) (m : Machine) → Valid o.device m → Valid o.device (run_over rom o frames steps cycles m).machine
run_over_valid rom o bytes [] other shown steps cycles m v = v
run_over_valid rom o bytes (pins ∷ others) other shown steps cycles m v =
    let d = step_of rom o m pins in
    let next = step-valid rom o m pins v (shown 0 (omega arith)) bytes in
    picked_by (λ (r : RunPaper). Valid o.device r.machine) (eqb d.stop 0) _ _
    (λ t. run_over_valid rom o bytes others other (λ k h. shown (suc k) (omega arith)) (suc steps) (cycles + d.cycles) d.machine next) next

module _ (image : List ℕ) (o : Options) (m : Machine) (bytes : OfBytes image) (frames : List ℕ) where
  run-valid : Valid o.device m → are_frames o.device frames ≡ true → Valid o.device (run_of (rom_of image) o m (frames_of o.device frames)).machine
  unfolding run_of
  run-valid v good =
      let other : Pins = record { p0 = 0; p8 = 0; p4 = 0; speech = 0 } in
      run_over_valid (rom_of image) o bytes (frames_of o.device frames) other (λ k h. number-in-range o.device frames good k other (rw (← length-frames o.device frames good) h)) 0 0 m v

  abbrev ran-number : RunPaper → ℕ
  ran-number r = r.number

  run_by : (r : RunPaper) → RunOf image o m frames r → NoRefusal r.number → Dec (length image ≡ image_size o.device) → Dec (Valid o.device m) → Dec (65536 * frame_size o.device < length frames)
      → (b : Bool) → are_frames o.device frames ≡ b → Valid o.device r.machine
  run_by r a ok (no n) v h b e = absurd (not_refused ok 0 (ap ran-number (a.refused_1 n)) (omega arith))
  run_by r a ok (yes l) (no n) h b e = absurd (not_refused ok 1 (ap ran-number (a.refused_2 l n)) (omega arith))
  run_by r a ok (yes l) (yes v) (yes h) b e = absurd (not_refused ok 3 (ap ran-number (a.refused_4 l v h)) (omega arith))
  run_by r a ok (yes l) (yes v) (no h) false e = absurd (not_refused ok 2 (ap ran-number (a.refused_3 l v (omega arith) e)) (omega arith))
  run_by r a ok (yes l) (yes v) (no h) true e = rw (a.runs l v (omega arith) e) (run-valid v e)

pub stays_valid : StaysValid
stays_valid = record {
  fresh = fresh_valid;
  reset = λ d m r a after e. reset_by r a after e (valid? d m);
  look = λ o m frame r a ok. look_by o m frame r a ok (valid? o.device m) (frame_of o.device frame) refl;
  act = λ image o m r bytes a ok. act_by image o m bytes r a ok (ℕ_discrete (length image) (image_size o.device)) (valid? o.device m);
  step = λ image o m frame r bytes a ok. step_by image o m bytes frame r a ok (ℕ_discrete (length image) (image_size o.device)) (valid? o.device m) (frame_of o.device frame) refl;
  run = λ image o m frames r bytes a ok.
      run_by image o m bytes frames r a ok (ℕ_discrete (length image) (image_size o.device)) (valid? o.device m) (dec_lt (65536 * frame_size o.device) (length frames)) (are_frames o.device frames) refl;
}

-- "A refusal changes no buffer." "A stop now leaves the record as the first call left it" (Q-4): what a step and a reset leave where their number is not 0.
use Prim.Native.Nat.{ℕ}
use mathlib.Core.List.{List}
use mathlib.Core.Path.{◌≡◌, refl, sym, ap, ◌∙◌}
use native.Mathlib.Decide.{ℕ_discrete}
use lib.ListN.{length}
use Rattle.std.specs.Prelude.{Option, Some, None, Result, Ok, Err}
use Rattle.numbers.specs.declared.Refusal.{Refusal}
use Rattle.device.specs.declared.Device.{Device}
use Rattle.frame.specs.Frame.{frame_of}
use Rattle.frame.specs.declared.Pins.{Pins}
use Rattle.record.specs.Valid.{Valid}
use Rattle.record.specs.Start.{ResetOf}
use Rattle.record.specs.declared.Machine.{Machine}
use Rattle.record.proofs.valid.Validity.{valid?}
use Rattle.device.specs.Device.{image_size, rom_of}
use Rattle.record_bytes.specs.Layout.{record_bytes}
use Rattle.step.specs.Step.{look_step}
use Rattle.step.specs.Answers.{StepPaper, StepOf, stepped}
use Rattle.device.specs.declared.Options.{Options}
use Rattle.step.proofs.StepValid.{stop_leaves}
use Rattle.record_calls.specs.Calls.{number_of, left_by_reset, no_record, record_of, Answers, ResetCall}

-- the record after: of a refusal the one that came, of a stop the one that the look at the frame left
pub data Leaves (o : Options) (m : Machine) (frame : List ℕ) (after : Machine) : Type 0 where
  refused : after ≡ m → Leaves o m frame after
  stopped : (pins : Pins) → frame_of o.device frame ≡ Some pins → after ≡ (look_step o m pins).machine → Leaves o m frame after

module _ {image : List ℕ} {o : Options} {m : Machine} {frame : List ℕ} {r : StepPaper} where
  left_by : StepOf image o m frame r → (r.number ≡ 0 → ⊥) → Dec (length image ≡ image_size o.device) → Dec (Valid o.device m) → (f : Option Pins) → frame_of o.device frame ≡ f → (r.cycles ≡ 0) × Leaves o m frame r.machine
  left_by a nz (no l) v f e = (ap (λ (q : StepPaper). q.cycles) (a.refused_1 l), refused (ap (λ (q : StepPaper). q.machine) (a.refused_1 l)))
  left_by a nz (yes l) (no v) f e = (ap (λ (q : StepPaper). q.cycles) (a.refused_2 l v), refused (ap (λ (q : StepPaper). q.machine) (a.refused_2 l v)))
  left_by a nz (yes l) (yes v) None e = (ap (λ (q : StepPaper). q.cycles) (a.refused_3 l v e), refused (ap (λ (q : StepPaper). q.machine) (a.refused_3 l v e)))
  left_by a nz (yes l) (yes v) (Some p) e =
      let s = a.steps l v p e in
      let d = s ∙ ap stepped (stop_leaves (rom_of image) o m p (λ z. nz (ap (λ (q : StepPaper). q.number) s ∙ z))) in
      (ap (λ (q : StepPaper). q.cycles) d, stopped p e (ap (λ (q : StepPaper). q.machine) d))

pub step_left : {image : List ℕ} {o : Options} {m : Machine} {frame : List ℕ} {n c : ℕ} {z : List ℕ} (a : Answers (StepOf image o m frame) n c z) → (n ≡ 0 → ⊥) → (c ≡ 0) × Leaves o m frame a.r.machine
step_left {image} {o} {m} {frame} a nz =
    let l = left_by a.promised (λ z. nz (a.answer ∙ z)) (ℕ_discrete (length image) (image_size o.device)) (valid? o.device m) (frame_of o.device frame) refl in
    (a.spent ∙ l.0, l.1)

reset_undone : {d : Device} {m : Machine} (r : Result Machine Refusal) → ResetOf d m r → (number_of r ≡ 0 → ⊥) → left_by_reset m r ≡ m
reset_undone (Ok after) a nz = absurd (nz refl)
reset_undone (Err refusal) a nz = refl

pub reset_kept : {d : Device} {bytes : List ℕ} {n : ℕ} {z : List ℕ} → ResetCall d bytes n z → (n ≡ 0 → ⊥) → z ≡ bytes
reset_kept (no_record h a) nz = a.kept
reset_kept (record_of m h a) nz = a.left ∙ (ap record_bytes (reset_undone a.r a.resets (λ z. nz (a.refusal ∙ z))) ∙ sym h.same)

-- The answers of the call run by what is found, in the order of refusal; and two that conform are one.
use mathlib.Core.Path.{◌≡◌, refl, sym, ◌∙◌}
use mathlib.Core.Bool.{Bool, true, false}
use mathlib.Core.List.{List}
use mathlib.Core.Logic.{inl, inr}
use Prim.Native.Nat.{ℕ, ◌<◌, ◌≤◌, ◌*◌}
use native.Mathlib.Decide.{dec_lt, ℕ_discrete}
use native.Mathlib.Omega.{arith}
use lib.ListN.{length}
use Rattle.laws.proofs.Computed.{true→T}
use Rattle.numbers.specs.ComesBack.{no_frame, more_than_65536_frames}
use Rattle.numbers.specs.Numbered.{refusal_number}
use Rattle.numbers.specs.declared.Refusal.{Refusal}
use Rattle.device.specs.Device.{image_size, frame_size, rom_of}
use Rattle.frame.specs.Frame.{are_frames, frames_of}
use Rattle.record.specs.Valid.{Valid}
use Rattle.record.specs.declared.Machine.{Machine}
use Rattle.record.proofs.valid.Validity.{valid?}
use Rattle.device.specs.declared.Options.{Options}
use Rattle.step.specs.Answers.{Refuses}
use Rattle.run.specs.Run.{RunPaper, run_of}
use Rattle.run.specs.Answers.{run_refused, RunOf}

no_both : {b : Bool} → b ≡ true → b ≡ false → ⊥
no_both e n = true→T (sym (sym e ∙ n))

module _ (image : List ℕ) (o : Options) (m : Machine) (frames : List ℕ) where
  pub run-refused : (refusal : Refusal) → Refuses image o.device m refusal → RunOf image o m frames (run_refused (refusal_number refusal) m)
  run-refused refusal (inl (e, n)) = rw e (record { refused_1 = λ _. refl; refused_2 = λ s. absurd (n s); refused_4 = λ s. absurd (n s); refused_3 = λ s. absurd (n s); runs = λ s. absurd (n s) })
  run-refused refusal (inr (e, s, n)) = rw e (record { refused_1 = λ q. absurd (q s); refused_2 = λ _ _. refl; refused_4 = λ _ v. absurd (n v); refused_3 = λ _ v. absurd (n v); runs = λ _ v. absurd (n v) })

  module _ (s : length image ≡ image_size o.device) (v : Valid o.device m) where
    pub run-over : 65536 * frame_size o.device < length frames → RunOf image o m frames (run_refused more_than_65536_frames m)
    run-over h = record { refused_1 = λ q. absurd (q s); refused_2 = λ _ q. absurd (q v); refused_4 = λ _ _ _. refl; refused_3 = λ _ _ l. absurd (omega arith); runs = λ _ _ l. absurd (omega arith) }

    module _ (l : length frames ≤ 65536 * frame_size o.device) where
      pub run-unseen : are_frames o.device frames ≡ false → RunOf image o m frames (run_refused no_frame m)
      run-unseen f = record { refused_1 = λ q. absurd (q s); refused_2 = λ _ q. absurd (q v); refused_4 = λ _ _ h. absurd (omega arith); refused_3 = λ _ _ _ _. refl; runs = λ _ _ _ t. absurd (no_both t f) }

      pub run-made : (r : RunPaper) → are_frames o.device frames ≡ true → r ≡ run_of (rom_of image) o m (frames_of o.device frames) → RunOf image o m frames r
      run-made r t e = record { refused_1 = λ q. absurd (q s); refused_2 = λ _ q. absurd (q v); refused_4 = λ _ _ h. absurd (omega arith); refused_3 = λ _ _ _ f. absurd (no_both t f); runs = λ _ _ _ _. e }

-- what is found decides the answer
answer_by : (image : List ℕ) (o : Options) (m : Machine) (frames : List ℕ) (r q : RunPaper) → RunOf image o m frames r → RunOf image o m frames q → Dec (length image ≡ image_size o.device) → Dec (Valid o.device m) → Dec (65536 * frame_size o.device < length frames) → (b : Bool) → are_frames o.device frames ≡ b → r ≡ q
answer_by image o m frames r q a z (no n) v h b e = a.refused_1 n ∙ sym (z.refused_1 n)
answer_by image o m frames r q a z (yes s) (no n) h b e = a.refused_2 s n ∙ sym (z.refused_2 s n)
answer_by image o m frames r q a z (yes s) (yes v) (yes h) b e = a.refused_4 s v h ∙ sym (z.refused_4 s v h)
answer_by image o m frames r q a z (yes s) (yes v) (no h) false e = a.refused_3 s v (omega arith) e ∙ sym (z.refused_3 s v (omega arith) e)
answer_by image o m frames r q a z (yes s) (yes v) (no h) true e = a.runs s v (omega arith) e ∙ sym (z.runs s v (omega arith) e)

pub one_answer : (image : List ℕ) (o : Options) (m : Machine) (frames : List ℕ) (r q : RunPaper) → RunOf image o m frames r → RunOf image o m frames q → r ≡ q
one_answer image o m frames r q a z = answer_by image o m frames r q a z (ℕ_discrete (length image) (image_size o.device)) (valid? o.device m) (dec_lt (65536 * frame_size o.device) (length frames)) (are_frames o.device frames) refl

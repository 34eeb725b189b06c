-- From steps to the call run: it answers to the frames up to the step that ends the handler within N cycles, with RTI executed or a named stop.
use Rattle.std.specs.Prelude.{Some}
use mathlib.Core.Path.{◌≡◌, refl, ap, ◌∙◌}
use mathlib.Core.Logic.{inl, inr}
use mathlib.Core.Bool.{true}
use mathlib.Core.List.{List, [], ◌∷◌, ◌++◌}
use Prim.Native.Nat.{ℕ, suc, ◌+◌, ◌*◌, ◌/◌, ◌≤◌}
use native.Mathlib.Omega.{arith}
use lib.ListN.{length, take, length-take, length-append}
use lib.Seq.{take-suc, take-append_seam, get_or-append_seam}
use borrow.Author.Tests.{eq-eqb, ne_eqb}
use Rattle.device.specs.Device.{image_size, frame_size, rom_of}
use Rattle.frame.specs.Frame.{are_frames, frames_of}
use Rattle.frame.specs.declared.Pins.{Pins}
use Rattle.frame.proofs.Sequence.{length-frames, frame-number}
use Rattle.record.specs.Valid.{Valid}
use Rattle.record.specs.declared.Machine.{Machine}
use Rattle.step.specs.Step.{step_of}
use Rattle.device.specs.declared.Options.{Options}
use Rattle.run.specs.Run.{RunPaper, run_of}
use Rattle.run.specs.Answers.{RunOf, most_frames}
use Rattle.bound_runs.specs.Handler.{Ends, EndsWithin, RunEnds, RunEndsWithin}
use Rattle.run.proofs.Rest.{run-rest}
use Rattle.frame.proofs.First.{frames-take, are-take}
use Rattle.bound_runs.proofs.Buffers.{frames_fit}

-- the list with the element in its midst, up to that and with it
take_with : (before : List Pins) (last : Pins) (after : List Pins) → take (suc (length before)) (before ++ (last ∷ after)) ≡ before ++ (last ∷ [])
take_with before last after =
    take-suc (before ++ (last ∷ after)) (length before) last (rw length-append (omega arith))
    ∙ rw (take-append_seam before (last ∷ after), get_or-append_seam before last after last)

module _ (rom : ℕ → ℕ → ℕ) (o : Options) (m : Machine) (N : ℕ) (before : List Pins) (last : Pins) (z : (run_of rom o m before).number ≡ 0) where
  abbrev at_last : Machine
  at_last = (run_of rom o m before).machine

  -- the run's answer by how its last step ends
  run_ends : (run_of rom o m before).cycles + (step_of rom o at_last last).cycles ≤ N → Ends rom o at_last last → RunEnds rom o last (length before) N (run_of rom o m before) (run_of rom o m (before ++ (last ∷ [])))
  run_ends c (Ends.returns t) = rw (run-rest rom o before (last ∷ []) m z, eq-eqb (step_of rom o at_last last).stop 0 t.completes) (record { completes = z; cycles = c; ends = inl (refl, refl, t) })
  run_ends c (Ends.stops a b) = rw (run-rest rom o before (last ∷ []) m z, ne_eqb (step_of rom o at_last last).stop 0 (omega arith)) (record { completes = z; cycles = omega arith; ends = inr (a, b) })

module _ (image : List ℕ) (o : Options) (m : Machine) (frames : List ℕ) (len : length image ≡ image_size o.device) (valid : Valid o.device m) (good : are_frames o.device frames ≡ true) (few : length frames ≤ most_frames * frame_size o.device) where
  -- the call's answer to the first k frames
  answer-is : (k : ℕ) (l : List Pins) (r : RunPaper) → frame_size o.device * k ≤ length frames → take k (frames_of o.device frames) ≡ l → RunOf image o m (take (frame_size o.device * k) frames) r → r ≡ run_of (rom_of image) o m l
  answer-is k l r h e a = a.runs len valid (rw length-take (omega arith)) (are-take o.device k frames h good) ∙ ap (run_of (rom_of image) o m) (frames-take o.device k frames h ∙ e)

  -- as many frames as are asked of are in the buffer
  room : (N : ℕ) → N ≤ length (frames_of o.device frames) → (j : ℕ) → j ≤ N → frame_size o.device * j ≤ length frames
  room N enough j h =
      let many : N ≤ length frames / frame_size o.device = rw (← length-frames o.device frames good) enough in
      frames_fit o.device j (length frames) (omega arith)

  -- the call's answer to the frames before the last
  answer-before : (N : ℕ) → N ≤ length (frames_of o.device frames) → (e : EndsWithin (rom_of image) o m (frames_of o.device frames) N) (q : RunPaper)
      → RunOf image o m (take (frame_size o.device * length e.before) frames) q → q ≡ run_of (rom_of image) o m e.before
  answer-before N enough e q a =
      let k = length e.before in
      answer-is k e.before q (room N enough k (omega (arith, e.steps))) (rw e.parts (take-append_seam e.before (e.last ∷ e.after))) a

  pub ends-by-call : (N : ℕ) → N ≤ length (frames_of o.device frames) → EndsWithin (rom_of image) o m (frames_of o.device frames) N → RunEndsWithin image o m frames N
  ends-by-call N enough e =
      let k = length e.before in
      let many : N ≤ length frames / frame_size o.device = rw (← length-frames o.device frames good) enough in
      record {
        before = k;
        steps = e.steps;
        last = e.last;
        shown = frame-number o.device frames good k e.last (omega (arith, e.steps)) ∙ ap Some (rw e.parts (get_or-append_seam e.before e.last e.after e.last));
        answers =
            λ q r a b.
            rw (
              answer-before N enough e q a,
              answer-is (suc k) (e.before ++ (e.last ∷ [])) r (room N enough (suc k) e.steps) (rw e.parts (take_with e.before e.last e.after)) b,
            )
            (run_ends (rom_of image) o m N e.before e.last e.completes e.cycles e.ends);
      }

  -- the call's answer to the frames before the step that ends the handler, and that step's frame
  pub answer-then : (N : ℕ) (enough : N ≤ length (frames_of o.device frames)) (e : EndsWithin (rom_of image) o m (frames_of o.device frames) N) (q : RunPaper)
      → RunOf image o m (take (frame_size o.device * (ends-by-call N enough e).before) frames) q → q ≡ run_of (rom_of image) o m e.before
  unfolding ends-by-call
  answer-then N enough e q a = answer-before N enough e q a

  pub last_then : (N : ℕ) (enough : N ≤ length (frames_of o.device frames)) (e : EndsWithin (rom_of image) o m (frames_of o.device frames) N) → (ends-by-call N enough e).last ≡ e.last
  unfolding ends-by-call
  last_then N enough e = refl

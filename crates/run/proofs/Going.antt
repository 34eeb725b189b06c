-- A run that is under way: the record is valid, what is left are frames, and the whole run is what is left of it.
use mathlib.Core.Path.{◌≡◌, refl, sym, ap, subst, ◌∙◌}
use mathlib.Core.Bool.{true, false}
use mathlib.Core.List.{List, ◌∷◌, ◌++◌}
use Prim.Native.Nat.{ℕ, ◌+◌, ◌*◌, ◌^◌, ◌<◌, ◌≤◌}
use native.Mathlib.Omega.{arith}
use native.Mathlib.Nat.{zero-add}
use lib.ListN.{length, drop}
use lib.Seq.{take-length, take-append_seam, drop-append_seam}
use borrow.Author.Tests.{eq-eqb, ne_eqb, eqb-true}
use Rattle.std.specs.Prelude.{Option, Some, None}
use Rattle.std.proofs.Common.{length-append}
use Rattle.std.specs.Option.{is_some}
use Rattle.laws.specs.Choice.{both}
use Rattle.numbers.specs.declared.Stop.{Stop}
use Rattle.frame.specs.Frame.{PinsInRange, is_frame, are_frames, chars_at, frames_of, pins_of}
use Rattle.frame.specs.declared.Pins.{Pins}
use Rattle.frame.proofs.Characters.{both_first, both_second, in_range}
use Rattle.frame.proofs.Sequence.{are-next, frames-rest, frames-next, frames-end}
use Rattle.record.specs.Valid.{Valid}
use Rattle.record.specs.declared.Core.{Core}
use Rattle.record.specs.declared.Machine.{Machine}
use Rattle.row.specs.Rows.{Done}
use Rattle.record.specs.With.{assembled}
use Rattle.step.specs.Advance.{stop_or_0, Advances}
use Rattle.step.specs.Step.{step_of}
use Rattle.step.specs.declared.Advanced.{Advanced}
use Rattle.device.specs.Device.{digits_of, frame_size}
use Rattle.device.specs.declared.Device.{Device}
use Rattle.device.specs.declared.Device.TheVariants.{Em73862, Em73P982}
use Rattle.device.specs.declared.Options.{Options}
use Rattle.step.proofs.StepValid.{step-valid}
use Rattle.run.specs.Run.{RunPaper, run_over, run_of}

pub some_size : (d : Device) → 0 < frame_size d
some_size Em73862 = omega arith
some_size Em73P982 = omega arith

-- how many characters 65,536 frames take is a machine word
pub most_in_a_word : (d : Device) → 65536 * frame_size d < 2 ^ 64
most_in_a_word Em73862 = omega arith
most_in_a_word Em73P982 = omega arith

-- steps and the characters that their frames take
one_more : (d : Device) (piece others steps n : ℕ) → piece ≡ frame_size d → piece + others + frame_size d * steps ≡ n → others + frame_size d * (steps + 1) ≡ n
one_more Em73862 piece others steps n p e = omega arith
one_more Em73P982 piece others steps n p e = omega arith

pub fewer_steps : (d : Device) (left steps n : ℕ) → frame_size d ≤ left → left + frame_size d * steps ≡ n → n ≤ 65536 * frame_size d → steps < 65536
fewer_steps Em73862 left steps n l e h = omega arith
fewer_steps Em73P982 left steps n l e h = omega arith

-- a stop is no 0, and none is
pub stopped : (s : Option Stop) → is_some s ≡ true → stop_or_0 s ≡ 0 → ⊥
stopped None e z = absurd (cc)
stopped (Some Stop.UnassignedCode) e z = omega arith
stopped (Some Stop.AbsentRamAddress) e z = omega arith
stopped (Some Stop.StackLevel) e z = omega arith
stopped (Some Stop.AbsentPort) e z = omega arith
stopped (Some Stop.ReservedValue) e z = omega arith
stopped (Some Stop.PastEnd) e z = omega arith

pub completed : (s : Option Stop) → is_some s ≡ false → stop_or_0 s ≡ 0
completed None e = refl
completed (Some s) e = absurd (cc)

-- the pins of a piece that was cut off
pub whole-piece : (n : ℕ) (piece : List ℕ) → length piece ≡ n → chars_at n piece 0 ≡ piece
whole-piece n piece l = rw (← l) (take-length piece)

-- of the characters that are left, the first piece is a frame, and the others come after it
module _ (d : Device) (piece others : List ℕ) (l : length piece ≡ frame_size d) where
  first-piece : chars_at (frame_size d) (piece ++ others) 0 ≡ piece
  first-piece = rw (← l) (take-append_seam piece others)

  rest : drop (0 + frame_size d) (piece ++ others) ≡ others
  rest = rw (zero-add, ← l) (drop-append_seam piece others)

  some : 0 < length (piece ++ others)
  some = let z = some_size d in omega (arith, length-append piece others)

  good : are_frames d (piece ++ others) ≡ both (is_frame (digits_of d) piece) (are_frames d others)
  good = are-next d (piece ++ others) 0 some ∙ rw (first-piece, rest)

  next : frames_of d (piece ++ others) ≡ pins_of piece ∷ frames_of d others
  next = frames-next d (piece ++ others) 0 some ∙ rw (first-piece, rest)

-- with these characters left, after some steps
pub record Going (rom : ℕ → ℕ → ℕ) (o : Options) (frames : List ℕ) (whole : RunPaper) (core : Core) (ram left : List ℕ) (steps cycles : ℕ) : Type 0 where
  pub valid : Valid o.device (assembled core ram)
  pub good : are_frames o.device left ≡ true
  pub so_far : length left + frame_size o.device * steps ≡ length frames
  pub few : cycles ≤ 65535 * steps
  pub same : whole ≡ run_over rom o (frames_of o.device left) steps cycles (assembled core ram)

module _ (rom : ℕ → ℕ → ℕ) (o : Options) (frames : List ℕ) where
  pub starts : (m : Machine) (left : List ℕ) → left ≡ frames → Valid o.device m → are_frames o.device frames ≡ true → Going rom o frames (run_of rom o m (frames_of o.device frames)) m.core m.ram left 0 0
  unfolding run_of
  starts m left e v f = rw e (record { valid = v; good = f; so_far = omega arith; few = omega arith; same = refl })

  module _ (whole : RunPaper) (core : Core) (ram left : List ℕ) (steps cycles : ℕ) (g : Going rom o frames whole core ram left steps cycles) where
    -- at the end of the frames
    pub ended : length left < frame_size o.device → record { number = 0; steps = steps; cycles = cycles; machine = assembled core ram } ≡ whole
    ended h =
        let e = eqb-true 0 (length left) (sym (frames-rest o.device left 0 (omega arith) (omega arith)) ∙ g.good) in
        sym (g.same ∙ ap (λ (ps : List Pins). run_over rom o ps steps cycles (assembled core ram)) (frames-end o.device left 0 (omega arith)))

    module _ (piece others : List ℕ) (cut : left ≡ piece ++ others) (l : length piece ≡ frame_size o.device) where
      both-good : both (is_frame (digits_of o.device) piece) (are_frames o.device others) ≡ true
      both-good = sym (good o.device piece others l) ∙ rw (← cut) g.good

      pub is-frame : is_frame (digits_of o.device) piece ≡ true
      is-frame = both_first (is_frame (digits_of o.device) piece) (are_frames o.device others) both-good

      pub shows : PinsInRange o.device (pins_of piece)
      shows = in_range o.device piece is-frame

      pub fewer : length frames ≤ 65536 * frame_size o.device → steps < 65536
      fewer h = fewer_steps o.device (length left) steps (length frames) (rw cut (omega (arith, length-append piece others))) g.so_far h

      next-same : whole ≡ run_over rom o (pins_of piece ∷ frames_of o.device others) steps cycles (assembled core ram)
      next-same = g.same ∙ rw (cut, next o.device piece others l)

      module _ (k : List ℕ) (x : Advanced) (a : Advances (step_of rom o (assembled core ram) (pins_of piece)) k x) where
        -- one step more
        pub goes_on : stop_or_0 x.stop ≡ 0 → x.cycles < 65536 → ((p3 at : ℕ) → rom p3 at < 256) → Going rom o frames whole x.core k others (steps + 1) (cycles + x.cycles)
        goes_on z few bytes =
            record {
              valid = subst (λ (x : Done). Valid o.device x.machine) (sym a.same) (step-valid rom o (assembled core ram) (pins_of piece) g.valid shows bytes);
              good = both_second (is_frame (digits_of o.device) piece) (are_frames o.device others) both-good;
              so_far = one_more o.device (length piece) (length others) steps (length frames) l (omega (arith, g.so_far, ap length cut, length-append piece others));
              few = omega (arith, g.few);
              same = next-same ∙ rw (← a.same, eq-eqb (stop_or_0 x.stop) 0 z) (ap (λ (n : ℕ). run_over rom o (frames_of o.device others) n (cycles + x.cycles) (assembled x.core k)) (omega arith));
            }

        -- the run ends at a stop
        pub ends-early : (stop_or_0 x.stop ≡ 0 → ⊥) → record { number = stop_or_0 x.stop; steps = steps; cycles = cycles; machine = assembled x.core k } ≡ whole
        ends-early z = sym (next-same ∙ rw (← a.same, ne_eqb (stop_or_0 x.stop) 0 z))

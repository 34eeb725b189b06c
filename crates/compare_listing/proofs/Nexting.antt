-- A line of the script used: the answer stays.
use mathlib.Core.Path.{◌≡◌, refl, sym, ap, ◌∙◌}
use mathlib.Core.Bool.{Bool, true, false}
use mathlib.Core.List.{List, [], ◌∷◌}
use Prim.Native.Nat.{ℕ, ◌<◌}
use native.Mathlib.Omega.{arith}
use lib.ListN.{length}
use Rattle.laws.specs.Choice.{pick}
use Rattle.laws.proofs.Computed.{true→T}
use Rattle.device.specs.Device.{digits_of}
use Rattle.device.specs.declared.Device.{Device}
use Rattle.frame.specs.Frame.{frame_of}
use Rattle.frame.specs.declared.Pins.{Pins}
use Rattle.std.specs.Prelude.{Option, Some, None}
use Rattle.frame.proofs.Characters.{no_frame, not_seen}
use Rattle.frame.proofs.Sizes.{some}
use Rattle.record.specs.declared.Machine.{Machine}
use Rattle.record.specs.With.{assembled}
use Rattle.listing.specs.Listing.{Answer, answer_of, told_over}
use Rattle.listing.specs.Tells.{Tells}
use Rattle.listing.specs.declared.Told.{Told}
use Rattle.compare_lines.specs.Left.{OneLine, Onward, Placed}
use Rattle.compare_lines.specs.declared.Turned.{Turned}
use Rattle.compare_lines.specs.declared.Phase.{Phase}
use Rattle.compare_lines.specs.declared.Phase.TheVariants.{Found}
use Rattle.compare_listing.specs.Compared.{is_no_frame}
use Rattle.compare_listing.specs.Progress.{answer_from, Sound, Nexts}
use Rattle.compare_listing.specs.declared.Progress.{Progress}
use Rattle.compare_listing.proofs.OurLines.{answer-line}

-- a line that is no frame is the last
ends_by : (d : Device) (rom : ℕ → ℕ → ℕ) (m : Machine) (l : List ℕ) (f : Option Pins) → frame_of d l ≡ f → (answer_of d rom m l).ends ≡ false → is_no_frame (frame_of d l) ≡ false
unfolding answer_of
ends_by d rom m l (Some pins) e h = rw e
ends_by d rom m l None e h = let z : true ≡ false = rw e at h in absurd (true→T (sym z))

pub goes_on_frame : (d : Device) (rom : ℕ → ℕ → ℕ) (m : Machine) (l : List ℕ) → (answer_of d rom m l).ends ≡ false → is_no_frame (frame_of d l) ≡ false
goes_on_frame d rom m l h = ends_by d rom m l (frame_of d l) refl h

pub frame_some : (d : Device) (l : List ℕ) → is_no_frame (frame_of d l) ≡ false → 0 < length l
frame_some d [] e =
    let s = some d in
    let f = not_seen d [] (no_frame (digits_of d) [] (λ z. omega arith)) in
    let z : true ≡ false = rw f at e in
    absurd (true→T (sym z))
frame_some d (c ∷ l) e = omega arith

-- what the runner answers
abbrev answered : Device → (ℕ → ℕ → ℕ) → Progress → List ℕ → List ℕ → Answer
answered d rom p ram text = answer_of d rom (assembled p.core ram) text

module _ {d : Device} (rom : ℕ → ℕ → ℕ) {p : Progress} {ram ours ram' ours' : List ℕ} (text : List ℕ) {r : Told} (s : Sound d p ram ours) (ended : p.ended ≡ false) (bad : p.bad ≡ false) (t : Tells d (answered d rom p ram text) [] ours' ram' r) where
  told_line : OneLine ours'
  told_line = rw t.wrote (answer-line d rom (assembled p.core ram) text (omega (arith, ap length t.wrote, t.short)))

  next-sound : (line : ℕ) (phase : Phase) (bad' : Bool) → Placed phase (length ours') → (r.ended ≡ false → bad' ≡ false) → Sound d (record { core = r.core; ended = r.ended; bad = bad'; line = line; phase = phase }) ram' ours'
  next-sound line phase bad' placed fair =
      record { valid = rw t.machine t.valid; line = told_line; placed = placed; fair = fair }

  pub next-bad : r.ended ≡ true → is_no_frame (frame_of d text) ≡ true → Nexts d rom p ram ours text (record { core = r.core; ended = true; bad = true; line = p.line; phase = Found 0 }) ram' ours'
  unfolding answer_from
  next-bad e f =
      record {
        same = λ script theirs. rw (bad, ended, f);
        sound = rw e at (next-sound p.line (Found 0) true tt (λ z. absurd (true→T (sym z ∙ e))));
        count = omega arith;
      }

  next-same : {q : Turned} → is_no_frame (frame_of d text) ≡ false → Onward p.phase p.line (length ours) q → (script : List (List ℕ)) (theirs : List ℕ) → answer_from d rom p ram ours (text ∷ script) theirs ≡ answer_from d rom (record { core = r.core; ended = r.ended; bad = false; line = q.line; phase = q.phase }) ram' ours' script theirs
  unfolding answer_from
  next-same {q} f o script theirs =
      let e = o.same ours (answered d rom p ram text).text (pick (answered d rom p ram text).ends [] (told_over d rom (answered d rom p ram text).machine script)) theirs s.line refl in
      rw (bad, ended, f, t.ended, t.machine, t.wrote, e)

  pub next-good : {q : Turned} → is_no_frame (frame_of d text) ≡ false → Onward p.phase p.line (length ours) q → Nexts d rom p ram ours text (record { core = r.core; ended = r.ended; bad = false; line = q.line; phase = q.phase }) ram' ours'
  next-good {q} f o =
      record {
        same = next-same f o;
        sound = next-sound q.line q.phase false (o.placed (length ours')) (λ z. refl);
        count = omega (arith, o.line, frame_some d text f);
      }

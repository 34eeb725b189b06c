-- The listing is document 01's own, also at a stop.
use mathlib.Core.Path.{◌≡◌, refl, sym, ap, ◌∙◌}
use mathlib.Core.Bool.{Bool, true, false, not}
use mathlib.Core.List.{List, [], ◌∷◌, ◌++◌}
use Prim.Native.Nat.{ℕ}
use native.Mathlib.Decide.{ℕ_discrete}
use borrow.Author.Tests.{ne_eqb}
use lib.Dec.{eqb}
use lib.ListN.{length}
use Rattle.std.specs.Prelude.{Option, Some, None}
use Rattle.laws.specs.Choice.{pick}
use Rattle.laws.proofs.Computed.{true→T}
use Rattle.device.specs.Device.{image_size, rom_of}
use Rattle.device.specs.declared.Device.{Device}
use Rattle.device.specs.declared.Options.{Options}
use Rattle.frame.specs.Frame.{frame_of}
use Rattle.frame.specs.declared.Pins.{Pins}
use Rattle.record.specs.declared.Machine.{Machine}
use Rattle.record.specs.Start.{fresh_machine}
use Rattle.row.specs.Rows.{Done, stops}
use Rattle.step_look.specs.Look.{is_running, looked}
use Rattle.step_act.specs.Act.{act_of}
use Rattle.step.specs.Step.{look_step, step_of}
use Rattle.step.specs.Before.{undone, step_before}
use Rattle.step.proofs.AsBefore.{step_as_before}
use Rattle.step.proofs.StepValid.{stop_leaves, step-unmarked}
use Rattle.step.proofs.Stepping.{sighted, look-runs, step-runs, step_waits}
use Rattle.text.specs.Refusal.{refused_line}
use Rattle.listing.specs.Lines.{header, step_line}
use Rattle.text.specs.Script.{lines_of}
use Rattle.listing.specs.Listing.{options, Answer, step_answer, frame_answer, answer_of, told_over, listing_of}
use Rattle.listing.specs.Before.{frame_answer_before, told_before, listing_before, ListingAsBefore}

-- two answers to a line that print the same, and go on alike
record Alike (x y : Answer) : Type 0 where
  pub text : x.text ≡ y.text
  pub ends : x.ends ≡ y.ends
  pub machine : x.ends ≡ false → x.machine ≡ y.machine
  pub unmarked : x.ends ≡ false → x.machine.core.mark ≡ false

module _ (rom : ℕ → ℕ → ℕ) (o : Options) (m : Machine) (pins : Pins) (free : m.core.mark ≡ false) where
  abbrev now : Done
  now = step_of rom o m pins

  before-runs : is_running m.core.mode ≡ true → step_before rom o m pins ≡ undone m (act_of rom o (sighted rom o m pins))
  unfolding step_before looked
  before-runs t = rw (t, free)

  -- a stop gave the record from before
  before-stops : is_running m.core.mode ≡ true → (now.stop ≡ 0 → ⊥) → step_before rom o m pins ≡ stops now.stop m
  before-stops t z =
      let e : now.stop ≡ (act_of rom o (sighted rom o m pins)).stop = ap (λ (x : Done). x.stop) (step-runs rom o m pins t) in
      before-runs t ∙ rw (← e, ne_eqb now.stop 0 z)

  -- the look leaves what a line shows
  look-shows : is_running m.core.mode ≡ true → (n : ℕ) → step_line (look_step o m pins).machine.core 0 n ≡ step_line m.core 0 n
  unfolding step_line
  look-shows t n = rw (look-runs rom o m pins t)

  stopped : (t : Bool) → is_running m.core.mode ≡ t → (now.stop ≡ 0 → ⊥) → Alike (step_answer now) (step_answer (step_before rom o m pins))
  stopped true t z =
      let left = stop_leaves rom o m pins z in
      let ended = ap not (ne_eqb now.stop 0 z) in
      let goes : not (eqb now.stop 0) ≡ false → ⊥ = λ f. true→T (sym (sym ended ∙ f)) in
      record {
        text = ap (λ (x : Done). step_line x.machine.core x.cycles x.stop) left ∙ look-shows t now.stop ∙ sym (ap (λ (x : Done). step_line x.machine.core x.cycles x.stop) (before-stops t z));
        ends = sym (ap (λ (x : Done). not (eqb x.stop 0)) (before-stops t z));
        machine = λ f. absurd (goes f);
        unmarked = λ f. absurd (goes f);
      }
  stopped false t z = absurd (z (ap (λ (x : Done). x.stop) (step_waits rom o m pins t)))

  step-alike : Dec (now.stop ≡ 0) → Alike (step_answer now) (step_answer (step_before rom o m pins))
  step-alike (yes z) =
      let e = step_as_before rom o m pins free z in
      record {
        text = ap (λ (x : Done). (step_answer x).text) e;
        ends = ap (λ (x : Done). (step_answer x).ends) e;
        machine = λ _. ap (λ (x : Done). x.machine) e;
        unmarked = λ _. step-unmarked rom o m pins;
      }
  step-alike (no z) = stopped (is_running m.core.mode) refl z

module _ (d : Device) (rom : ℕ → ℕ → ℕ) where
  line-alike : (m : Machine) (f : Option Pins) → m.core.mark ≡ false → Alike (frame_answer d rom m f) (frame_answer_before d rom m f)
  line-alike m (Some pins) free = step-alike rom (options d) m pins free (ℕ_discrete (step_of rom (options d) m pins).stop 0)
  line-alike m None free = record { text = refl; ends = refl; machine = λ _. refl; unmarked = λ f. absurd (true→T (sym f)) }

  told_by : (a b : Answer) (ls : List (List ℕ)) (t : Bool) → a.ends ≡ t → Alike a b → ((n : Machine) → n.core.mark ≡ false → told_over d rom n ls ≡ told_before d rom n ls)
      → a.text ++ pick a.ends [] (told_over d rom a.machine ls) ≡ b.text ++ pick b.ends [] (told_before d rom b.machine ls)
  told_by a b ls true e h ih = rw (← h.ends, e, h.text)
  told_by a b ls false e h ih = rw (← h.ends, e, h.text, ← h.machine e, ih a.machine (h.unmarked e))

  told_alike : (ls : List (List ℕ)) (m : Machine) → m.core.mark ≡ false → told_over d rom m ls ≡ told_before d rom m ls
  unfolding answer_of
  told_alike [] m free = refl
  told_alike (l ∷ ls) m free =
      told_by (frame_answer d rom m (frame_of d l)) (frame_answer_before d rom m (frame_of d l)) ls (frame_answer d rom m (frame_of d l)).ends refl (line-alike m (frame_of d l) free) (λ n h. told_alike ls n h)

pub listing_as_before : ListingAsBefore
unfolding listing_of listing_before
listing_as_before d image script = ap (λ (told : List ℕ). pick (eqb (length image) (image_size d)) (header ++ told) (refused_line 1)) (told_alike d (rom_of image) (lines_of script) (fresh_machine d) refl)

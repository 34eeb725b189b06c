-- A line of the script answered: refused, or its step told.
use mathlib.Core.Path.{◌≡◌, refl, sym, ap, subst, ◌∙◌}
use mathlib.Core.Bool.{Bool, true, false}
use mathlib.Core.List.{List, ◌++◌}
use Prim.Native.Nat.{ℕ, ◌<◌}
use Rattle.device.specs.declared.Device.{Device}
use Rattle.frame.specs.Frame.{frame_of, PinsInRange}
use Rattle.frame.specs.declared.Pins.{Pins}
use Rattle.std.specs.Prelude.{Option, Some, None, is_some}
use Rattle.record.specs.Valid.{Valid}
use Rattle.record.specs.With.{assembled}
use Rattle.record.specs.declared.Core.{Core}
use Rattle.row.specs.Rows.{Done}
use Rattle.step.specs.Advance.{stop_or_0, Advances}
use Rattle.step.specs.declared.Advanced.{Advanced}
use Rattle.step.specs.Step.{step_of}
use Rattle.step.proofs.StepValid.{step-valid}
use Rattle.numbers.specs.declared.Stop.{Stop}
use Rattle.listing.proofs.Telling.{stops}
use Rattle.text.specs.Refusal.{refused_line}
use Rattle.listing.specs.Listing.{options}
use Rattle.listing.specs.declared.Told.{Told}
use Rattle.text_why.specs.Telling.{line_wanted, is_last, last_step, step_told, told_of, TellsWhy}

-- the step is STEP's; or not, and it is the last where it stops
module _ (only : Option ℕ) (step : ℕ) (stop : Option Stop) where
  pub ends-named : {b : Bool} → b ≡ is_last only step → b ≡ true → b ≡ last_step only step (stop_or_0 stop)
  ends-named e t = t ∙ rw (sym e ∙ t)

  pub ends-stopped : {b : Bool} → is_last only step ≡ false → b ≡ is_some stop → b ≡ last_step only step (stop_or_0 stop)
  ends-stopped e h = rw e (h ∙ stops stop)

module _ (d : Device) (rom : ℕ → ℕ → ℕ) (only : Option ℕ) (step : ℕ) (m : Core) (ram line : List ℕ) (valid : Valid d (assembled m ram)) {before after : List ℕ} where
  pub bad-line : frame_of d line ≡ None → after ≡ before ++ refused_line 3 → TellsWhy d (told_of d rom only step (assembled m ram) line) before after ram (record { core = m; ended = true })
  unfolding told_of
  bad-line e w = rw e (record { text = w; machine = refl; ended = refl; valid = valid })

  pub step-told : {pins : Pins} {k : List ℕ} {x : Advanced} {ended : Bool} → PinsInRange d pins → ((p3 at : ℕ) → rom p3 at < 256) → Advances (step_of rom (options d) (assembled m ram) pins) k x
      → after ≡ before ++ line_wanted (options d) only step m pins → ended ≡ last_step only step (stop_or_0 x.stop)
      → TellsWhy d (step_told (line_wanted (options d) only step m pins) only step (step_of rom (options d) (assembled m ram) pins)) before after k (record { core = x.core; ended = ended })
  step-told {pins = pins} p bytes g w last =
      record {
        text = w;
        machine = ap (λ (x : Done). x.machine) g.same;
        ended = last ∙ ap (λ (x : Done). last_step only step x.stop) g.same;
        valid = subst (Valid d) (sym (ap (λ (x : Done). x.machine) g.same)) (step-valid rom (options d) (assembled m ram) pins valid p bytes);
      }

  pub frame-told : {pins : Pins} {k : List ℕ} {r : Told} → frame_of d line ≡ Some pins → TellsWhy d (step_told (line_wanted (options d) only step m pins) only step (step_of rom (options d) (assembled m ram) pins)) before after k r
      → TellsWhy d (told_of d rom only step (assembled m ram) line) before after k r
  unfolding told_of
  frame-told e t = rw e t

-- What the program why makes of a line of the script. Sentences in quotation marks are of docs/PROGRAMS.md.
use Rattle.std.specs.Prelude.{ℕ, Bool, true, false, not, ◌≡◌, List, [], ◌++◌, eqb, Option, Some, None}
use Rattle.laws.specs.Choice.{pick, either}
use Rattle.device.specs.declared.Device.{Device}
use Rattle.device.specs.declared.Options.{Options}
use Rattle.frame.specs.Frame.{frame_of}
use Rattle.frame.specs.declared.Pins.{Pins}
use Rattle.record.specs.Valid.{Valid}
use Rattle.record.specs.With.{assembled}
use Rattle.record.specs.declared.Core.{Core}
use Rattle.record.specs.declared.Machine.{Machine}
use Rattle.row.specs.Rows.{Done}
use Rattle.step.specs.Step.{step_of}
use Rattle.step_why.specs.Why.{why_of}
use Rattle.listing.specs.Listing.{Answer, options, bad_answer}
use Rattle.listing.specs.declared.Told.{Told}
use Rattle.text_why.specs.Lines.{why_line}

-- "answers a line for each step, or with STEP .. only that step's": no step is named where no STEP is given
abbrev pub is_wanted : Option ℕ → ℕ → Bool
is_wanted None step = true
is_wanted (Some only) step = eqb step only

abbrev pub line_wanted : Options → Option ℕ → ℕ → Core → Pins → List ℕ
line_wanted o only step m pins = pick (is_wanted only step) (why_line o.device step m (why_of o m pins)) []

-- "It ends with the step that stops", and with STEP's
abbrev pub is_last : Option ℕ → ℕ → Bool
is_last None step = false
is_last (Some only) step = eqb step only

abbrev pub last_step : Option ℕ → ℕ → ℕ → Bool
last_step only step stop = either (is_last only step) (not (eqb stop 0))

abbrev pub step_told : List ℕ → Option ℕ → ℕ → Done → Answer
step_told text only step x = record { text = text; machine = x.machine; ends = last_step only step x.stop }

-- "steps through the script as the runner does"; "a bad line is refused 03 in place of its answer, also where it stands before STEP"
abbrev pub frame_told : Device → (ℕ → ℕ → ℕ) → Option ℕ → ℕ → Machine → Option Pins → Answer
frame_told d rom only step m (Some pins) = step_told (line_wanted (options d) only step m.core pins) only step (step_of rom (options d) m pins)
frame_told d rom only step m None = bad_answer m

unfoldable pub told_of : Device → (ℕ → ℕ → ℕ) → Option ℕ → ℕ → Machine → List ℕ → Answer
told_of d rom only step m line = frame_told d rom only step m (frame_of d line)

-- the text before and after, and RAM after
pub record TellsWhy (d : Device) (a : Answer) (before after ram : List ℕ) (r : Told) : Type 0 where
  pub text : after ≡ before ++ a.text
  pub machine : assembled r.core ram ≡ a.machine
  pub ended : r.ended ≡ a.ends
  pub valid : Valid d (assembled r.core ram)

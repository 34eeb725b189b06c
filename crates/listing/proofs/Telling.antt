-- A line of the script answered: refused, or its step told.
use mathlib.Core.Path.{◌≡◌, refl, ap, sym, ◌∙◌}
use mathlib.Core.Bool.{Bool, true, not}
use mathlib.Core.List.{List, ◌++◌}
use Prim.Native.Nat.{ℕ, ◌+◌, ◌<◌, ◌≤◌}
use native.Mathlib.Omega.{arith}
use lib.Dec.{eqb}
use lib.ListN.{length}
use Rattle.std.specs.Prelude.{Option, Some, None, is_some}
use Rattle.numbers.specs.declared.Stop.{Stop}
use Rattle.numbers.specs.declared.Stop.TheVariants.{UnassignedCode, AbsentRamAddress, StackLevel, AbsentPort, ReservedValue, PastEnd}
use Rattle.device.specs.declared.Device.{Device}
use Rattle.frame.specs.Frame.{frame_of, PinsInRange}
use Rattle.frame.specs.declared.Pins.{Pins}
use Rattle.record.specs.Valid.{Valid}
use Rattle.record.specs.declared.Core.{Core}
use Rattle.record.specs.declared.Machine.{Machine}
use Rattle.row.specs.Rows.{Done}
use Rattle.record.specs.With.{assembled}
use Rattle.step.specs.Step.{step_of}
use Rattle.step.specs.Advance.{stop_or_0, Advances}
use Rattle.step.specs.declared.Advanced.{Advanced}
use Rattle.step.proofs.StepValid.{step-valid}
use Rattle.text.specs.Refusal.{refused_line}
use Rattle.listing.specs.Lines.{step_line}
use Rattle.listing.specs.Listing.{Answer, options, step_answer, answer_of}
use Rattle.listing.specs.Tells.{Tells}
use Rattle.listing.specs.declared.Told.{Told}

-- no stop has the number 0
pub stops : (stop : Option Stop) → is_some stop ≡ not (eqb (stop_or_0 stop) 0)
stops None = refl
stops (Some UnassignedCode) = refl
stops (Some AbsentRamAddress) = refl
stops (Some StackLevel) = refl
stops (Some AbsentPort) = refl
stops (Some ReservedValue) = refl
stops (Some PastEnd) = refl

module _ (d : Device) (rom : ℕ → ℕ → ℕ) (m : Core) (ram line : List ℕ) (valid : Valid d (assembled m ram)) {before after : List ℕ} where
  pub bad-line : frame_of d line ≡ None → after ≡ before ++ refused_line 3 → length after ≡ length before + 11 → Tells d (answer_of d rom (assembled m ram) line) before after ram (record { core = m; ended = true })
  unfolding answer_of
  bad-line e w h = rw e (record { wrote = w; short = omega arith; machine = refl; ended = refl; valid = valid })

  pub step-told : {pins : Pins} {k : List ℕ} {x : Advanced} {ended : Bool} → PinsInRange d pins → ((p3 at : ℕ) → rom p3 at < 256) → Advances (step_of rom (options d) (assembled m ram) pins) k x → after ≡ before ++ step_line x.core x.cycles (stop_or_0 x.stop) → length after ≤ length before + 26 → ended ≡ is_some x.stop → Tells d (step_answer (step_of rom (options d) (assembled m ram) pins)) before after k (record { core = x.core; ended = ended })
  step-told {pins = pins} {x = x} p bytes g w h t =
      record {
        wrote = rw (← g.same) w;
        short = h;
        machine = ap (λ (x : Done). x.machine) g.same;
        ended = t ∙ stops x.stop ∙ ap (λ (x : Done). not (eqb x.stop 0)) g.same;
        valid = step-valid rom (options d) (assembled m ram) pins valid p bytes;
      }

  pub frame-told : {pins : Pins} {k : List ℕ} {r : Told} → frame_of d line ≡ Some pins → Tells d (step_answer (step_of rom (options d) (assembled m ram) pins)) before after k r → Tells d (answer_of d rom (assembled m ram) line) before after k r
  unfolding answer_of
  frame-told e t = rw e t

told_by : {c d : Core} {s t : Bool} → c ≡ d → s ≡ t → ◌≡◌ {A = Told} (record { core = c; ended = s }) (record { core = d; ended = t })
told_by c s = rw (c, s)

-- the promise leaves no choice: the text, RAM and the answer are those of any other that keeps it
pub tells_one : {d : Device} {a : Answer} {before after other : List ℕ} {k l : List ℕ} {r q : Told} → Tells d a before after k r → Tells d a before other l q → (after ≡ other) × (k ≡ l) × (r ≡ q)
tells_one {r = r} {q = q} t u =
    let same = t.machine ∙ sym u.machine in (
      t.wrote ∙ sym u.wrote,
      ap (λ (m : Machine). m.ram) same,
      told_by (ap (λ (m : Machine). m.core) same) (t.ended ∙ sym u.ended),
    )

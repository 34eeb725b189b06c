-- The accounts of what the call run answers: a run that is not refused is the sequence of its steps.
use mathlib.Core.Path.{◌≡◌, refl, ap, ◌∙◌}
use mathlib.Core.Bool.{Bool, true, false}
use mathlib.Core.List.{List, [], ◌∷◌}
use mathlib.Core.Logic.{◌⊎◌, inl, inr}
use Prim.Native.Nat.{ℕ, suc, ◌+◌, ◌*◌, ◌%◌, ◌<◌}
use native.Mathlib.Decide.{dec_lt, ℕ_discrete}
use native.Mathlib.Omega.{arith}
use lib.Dec.{eqb}
use lib.ListN.{length, take}
use borrow.Author.Tests.{eqb-false}
use Rattle.laws.specs.Choice.{pick}
use Rattle.device.specs.Device.{image_size, frame_size, rom_of}
use Rattle.device.specs.declared.Options.{Options}
use Rattle.frame.specs.Frame.{are_frames, frames_of}
use Rattle.frame.specs.declared.Pins.{Pins}
use Rattle.record.specs.Valid.{Valid}
use Rattle.record.specs.declared.Machine.{Machine}
use Rattle.record.proofs.valid.Validity.{valid?}
use Rattle.row.specs.Rows.{Done}
use Rattle.step.specs.Step.{step_of}
use Rattle.step.proofs.StepValid.{stop_leaves}
use Rattle.run.specs.Run.{RunPaper, run_over, run_of}
use Rattle.run.specs.Answers.{RunOf}
use Rattle.account.specs.Sequence.{record_after, cycles_spent}
use Rattle.account.specs.Account.{count_of, multiples_met, period_of, inputs_of, steps_made, ClockAccountOfRun, TimerAccountOfRun}
use Rattle.account.proofs.Accounts.{clock_account, timer_account, counts_below}

-- the run has made so many steps more, and perhaps one that stopped
record Walked (image : List ℕ) (o : Options) (m : Machine) (frames : List Pins) (before spent : ℕ) (r : RunPaper) : Type 0 where
  pub more : ℕ
  pub steps : r.steps ≡ before + more
  pub machine : r.machine ≡ record_after m (inputs_of image o (take (suc more) frames))
  pub cycles : r.cycles ≡ spent + cycles_spent m (inputs_of image o (take (suc more) frames))

module _ (image : List ℕ) (o : Options) where
  over-step : (pins : Pins) (others : List Pins) (before spent : ℕ) (m : Machine) (t : Bool)
      → let d : Done = step_of (rom_of image) o m pins in
      eqb d.stop 0 ≡ t → Walked image o d.machine others (suc before) (spent + d.cycles) (run_over (rom_of image) o others (suc before) (spent + d.cycles) d.machine)
      → Walked image o m (pins ∷ others) before spent (pick t (run_over (rom_of image) o others (suc before) (spent + d.cycles) d.machine) (record { number = d.stop; steps = before; cycles = spent; machine = d.machine }))
  over-step pins others before spent m true e rest =
      record { more = suc rest.more; steps = rest.steps ∙ omega arith; machine = rest.machine; cycles = rest.cycles ∙ omega arith }
  over-step pins others before spent m false e rest =
      let none : (step_of (rom_of image) o m pins).cycles ≡ 0 = ap (λ (x : Done). x.cycles) (stop_leaves (rom_of image) o m pins (eqb-false (step_of (rom_of image) o m pins).stop 0 e)) in
      record { more = 0; steps = omega arith; machine = refl; cycles = omega (arith, none) }

  over : (frames : List Pins) (before spent : ℕ) (m : Machine) → Walked image o m frames before spent (run_over (rom_of image) o frames before spent m)
  over [] before spent m = record { more = 0; steps = omega arith; machine = refl; cycles = omega arith }
  over (pins ∷ others) before spent m =
      let d : Done = step_of (rom_of image) o m pins in
      over-step pins others before spent m (eqb d.stop 0) refl (over others (suc before) (spent + d.cycles) d.machine)

-- an answer leaves the record and spends nothing, or is that of the steps made
record Refused (m : Machine) (r : RunPaper) : Type 0 where
  pub machine : r.machine ≡ m
  pub cycles : r.cycles ≡ 0

record Accounted (image : List ℕ) (o : Options) (m : Machine) (frames : List ℕ) (r : RunPaper) : Type 0 where
  pub machine : r.machine ≡ record_after m (steps_made image o frames r)
  pub cycles : r.cycles ≡ cycles_spent m (steps_made image o frames r)

module _ (image : List ℕ) (o : Options) (m : Machine) (frames : List ℕ) (r : RunPaper) (a : RunOf image o m frames r) where
  ran : r ≡ run_of (rom_of image) o m (frames_of o.device frames) → Accounted image o m frames r
  unfolding run_of
  ran e =
      let w = over image o (frames_of o.device frames) 0 0 m in
      let n : r.steps ≡ w.more = ap (λ (x : RunPaper). x.steps) e ∙ w.steps ∙ omega arith in
      record { machine = ap (λ (x : RunPaper). x.machine) e ∙ rw n w.machine; cycles = ap (λ (x : RunPaper). x.cycles) e ∙ w.cycles ∙ rw n (omega arith) }

  refused : {number : ℕ} → r ≡ record { number = number; steps = 0; cycles = 0; machine = m } → Refused m r
  refused e = record { machine = ap (λ (x : RunPaper). x.machine) e; cycles = ap (λ (x : RunPaper). x.cycles) e }

  answer_by : Dec (length image ≡ image_size o.device) → Dec (Valid o.device m) → Dec (65536 * frame_size o.device < length frames) → (b : Bool) → are_frames o.device frames ≡ b → Refused m r ⊎ Accounted image o m frames r
  answer_by (no n) v h b e = inl (refused (a.refused_1 n))
  answer_by (yes s) (no n) h b e = inl (refused (a.refused_2 s n))
  answer_by (yes s) (yes v) (yes h) b e = inl (refused (a.refused_4 s v h))
  answer_by (yes s) (yes v) (no h) false e = inl (refused (a.refused_3 s v (omega arith) e))
  answer_by (yes s) (yes v) (no h) true e = inr (ran (a.runs s v (omega arith) e))

  by_answer : Refused m r ⊎ Accounted image o m frames r
  by_answer = answer_by (ℕ_discrete (length image) (image_size o.device)) (valid? o.device m) (dec_lt (65536 * frame_size o.device) (length frames)) (are_frames o.device frames) refl

pub clock_account_of_run : ClockAccountOfRun
clock_account_of_run image o m frames r a v each = by (by_answer image o m frames r a)
  where
    by : Refused m r ⊎ Accounted image o m frames r → r.machine.core.timers.base ≡ (m.core.timers.base + 8 * r.cycles) % 4194304
    by (inl e) = let l = v.base in rw (e.machine, e.cycles) (omega (arith, l))
    by (inr e) = rw (e.machine, e.cycles) (clock_account m (steps_made image o frames r) v each)

pub timer_account_of_run : TimerAccountOfRun
timer_account_of_run t s two image o m frames r a v each = by (by_answer image o m frames r a)
  where
    by : Refused m r ⊎ Accounted image o m frames r → count_of t r.machine.core.timers ≡ (count_of t m.core.timers + multiples_met (period_of s) m.core.timers.base r.cycles) % 4096
    by (inl e) = let l = counts_below t m.core.timers v in rw (e.machine, e.cycles) (omega (arith, l))
    by (inr e) = rw (e.machine, e.cycles) (timer_account t s two m (steps_made image o frames r) v each)

-- How a run goes: what was spent before it is added to what it spends, and where its first frames complete the rest are run from what they gave.
use mathlib.Core.Path.{◌≡◌, refl, sym, ap, ◌∙◌}
use mathlib.Core.Bool.{Bool, true, false}
use mathlib.Core.List.{List, [], ◌∷◌, ◌++◌}
use Prim.Native.Nat.{ℕ, suc, ◌+◌}
use native.Mathlib.Nat.{add-zero, zero-add}
use native.Mathlib.Omega.{arith}
use native.Mathlib.Decide.{ℕ_discrete}
use lib.Dec.{eqb}
use lib.ListN.{length}
use borrow.Author.Tests.{eq-eqb, ne_eqb}
use Rattle.laws.specs.Choice.{pick}
use Rattle.frame.specs.declared.Pins.{Pins}
use Rattle.record.specs.declared.Machine.{Machine}
use Rattle.step.specs.Step.{step_of}
use Rattle.device.specs.declared.Options.{Options}
use Rattle.run.specs.Run.{RunPaper, run_over, run_of}

-- a run with steps and cycles before it
abbrev pub later : ℕ → ℕ → RunPaper → RunPaper
later steps cycles r = record { number = r.number; steps = steps + r.steps; cycles = cycles + r.cycles; machine = r.machine }

later_twice : (steps cycles more : ℕ) (r : RunPaper) → later (suc steps) (cycles + more) r ≡ later steps cycles (later 1 (0 + more) r)
later_twice steps cycles more r =
    let s : suc steps + r.steps ≡ steps + (1 + r.steps) = omega arith in
    let c : cycles + more + r.cycles ≡ cycles + (0 + more + r.cycles) = omega arith in
    λ i. record { number = r.number; steps = s i; cycles = c i; machine = r.machine }

-- one that stops at once
later_stopped : (number steps cycles : ℕ) (m : Machine) → record { number = number; steps = steps; cycles = cycles; machine = m } ≡ later steps cycles (record { number = number; steps = 0; cycles = 0; machine = m })
later_stopped number steps cycles m = rw (add-zero steps, add-zero cycles)

later_picked : (t : Bool) (number steps cycles : ℕ) (m : Machine) (r q : RunPaper) → r ≡ later steps cycles q
    → pick t r (record { number = number; steps = steps; cycles = cycles; machine = m }) ≡ later steps cycles (pick t q (record { number = number; steps = 0; cycles = 0; machine = m }))
later_picked true number steps cycles m r q e = e
later_picked false number steps cycles m r q e = later_stopped number steps cycles m

module _ (rom : ℕ → ℕ → ℕ) (o : Options) where
  run-later : (frames : List Pins) (steps cycles : ℕ) (m : Machine) → run_over rom o frames steps cycles m ≡ later steps cycles (run_over rom o frames 0 0 m)
  run-later [] steps cycles m = later_stopped 0 steps cycles m
  run-later (pins ∷ others) steps cycles m =
      let d = step_of rom o m pins in
      later_picked (eqb d.stop 0) d.stop steps cycles d.machine _ _
      (run-later others (suc steps) (cycles + d.cycles) d.machine
      ∙ later_twice steps cycles d.cycles (run_over rom o others 0 0 d.machine)
      ∙ ap (later steps cycles) (sym (run-later others 1 (0 + d.cycles) d.machine)))

  -- after a step that completes comes the run from there
  pub run_next : (pins : Pins) (others : List Pins) (m : Machine) → (step_of rom o m pins).stop ≡ 0
      → run_of rom o m (pins ∷ others) ≡ later 1 (step_of rom o m pins).cycles (run_of rom o (step_of rom o m pins).machine others)
  unfolding run_of
  run_next pins others m z =
      let d = step_of rom o m pins in
      rw (eq-eqb d.stop 0 z, zero-add d.cycles) (run-later others 1 d.cycles d.machine)

  -- a run that completes has completed its first step
  pub completes-on : (pins : Pins) (others : List Pins) (steps cycles : ℕ) (m : Machine) → (run_over rom o (pins ∷ others) steps cycles m).number ≡ 0 → Dec ((step_of rom o m pins).stop ≡ 0) → (step_of rom o m pins).stop ≡ 0
  completes-on pins others steps cycles m z (yes e) = e
  completes-on pins others steps cycles m z (no ne) = absurd (ne (rw (ne_eqb (step_of rom o m pins).stop 0 ne) at z))

  -- the rest of a run, after its first frames
  run-append : (first rest : List Pins) (steps cycles : ℕ) (m : Machine) → (run_over rom o first steps cycles m).number ≡ 0
      → (run_over rom o (first ++ rest) steps cycles m ≡ run_over rom o rest (run_over rom o first steps cycles m).steps (run_over rom o first steps cycles m).cycles (run_over rom o first steps cycles m).machine)
      × ((run_over rom o first steps cycles m).steps ≡ steps + length first)
  run-append [] rest steps cycles m z = (refl, omega arith)
  run-append (pins ∷ others) rest steps cycles m z =
      let d = step_of rom o m pins in
      let e = eq-eqb d.stop 0 (completes-on pins others steps cycles m z (ℕ_discrete d.stop 0)) in
      let ih = run-append others rest (suc steps) (cycles + d.cycles) d.machine (rw e at z) in
      rw e (ih.0, omega (arith, ih.1))

  pub run-rest : (first rest : List Pins) (m : Machine) → (run_of rom o m first).number ≡ 0
      → run_of rom o m (first ++ rest) ≡ run_over rom o rest (length first) (run_of rom o m first).cycles (run_of rom o m first).machine
  unfolding run_of
  run-rest first rest m z =
      let a = run-append first rest 0 0 m z in
      a.0 ∙ rw (a.1, zero-add)

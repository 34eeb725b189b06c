-- Where no step stops, a run of a record without a mark is document 01's own.
use mathlib.Core.Path.{◌≡◌, refl}
use mathlib.Core.Bool.{false}
use mathlib.Core.List.{List, [], ◌∷◌}
use Prim.Native.Nat.{ℕ, suc, ◌+◌}
use native.Mathlib.Decide.{ℕ_discrete}
use borrow.Author.Tests.{eq-eqb}
use Rattle.frame.specs.declared.Pins.{Pins}
use Rattle.record.specs.declared.Machine.{Machine}
use Rattle.step.specs.Step.{step_of}
use Rattle.device.specs.declared.Options.{Options}
use Rattle.step.proofs.StepValid.{step-unmarked}
use Rattle.step.proofs.AsBefore.{step_as_before}
use Rattle.run.specs.Run.{run_over, run_of}
use Rattle.run.specs.Before.{run_over_before, run_before, RunAsBefore}
use Rattle.run.proofs.Rest.{completes-on}

over_as_before : (rom : ℕ → ℕ → ℕ) (o : Options) (frames : List Pins) (steps cycles : ℕ) (m : Machine) → m.core.mark ≡ false → (run_over rom o frames steps cycles m).number ≡ 0 → run_over rom o frames steps cycles m ≡ run_over_before rom o frames steps cycles m
over_as_before rom o [] steps cycles m free z = refl
over_as_before rom o (pins ∷ others) steps cycles m free z =
    let d = step_of rom o m pins in
    let none = completes-on rom o pins others steps cycles m z (ℕ_discrete d.stop 0) in
    let e = eq-eqb d.stop 0 none in
    rw (← step_as_before rom o m pins free none, e)
    (over_as_before rom o others (suc steps) (cycles + d.cycles) d.machine (step-unmarked rom o m pins) (rw e at z))

pub run_as_before : RunAsBefore
unfolding run_of run_before
run_as_before rom o m frames free z = over_as_before rom o frames 0 0 m free z

-- What the functions below answer, as the calls hand it on.
use Prim.Native.Nat.{ℕ}
use mathlib.Core.List.{List}
use mathlib.Core.Path.{◌≡◌, subst, ◌∙◌}
use Rattle.std.specs.Prelude.{Result, Ok, Err}
use Rattle.numbers.specs.declared.Refusal.{Refusal}
use Rattle.record.specs.declared.Machine.{Machine}
use Rattle.record_bytes.specs.Layout.{Holds}
use Rattle.step.specs.Answers.{StepPaper, paper_of, StepOf}
use Rattle.device.specs.declared.Options.{Options}
use Rattle.step.specs.Apart.{LookOf, ActOf}
use Rattle.step.specs.declared.Stepped.{Stepped}
use Rattle.run.specs.Answers.{paper_of as run_paper, RunOf}
use Rattle.run.specs.declared.Ran.{Ran}
use Rattle.record_calls.specs.Calls.{Answers, PutBack, RunPutBack, RunAnswer}

-- a step, or one of its calls, by options that are those of the numbers
handed : (P : Options → StepPaper → Type 0) {o o' : Options} {m : Machine} {bytes left : List ℕ} {number cycles : ℕ} (r : Result Stepped Refusal)
    → o ≡ o' → P o (paper_of m r) → Holds bytes m → PutBack r bytes number cycles left → Answers (P o') number cycles left
handed P {m = m} (Ok x) same s h p = record { r = paper_of m (Ok x); promised = subst (λ (q : Options). P q (paper_of m (Ok x))) same s; answer = p.0; spent = p.1; left = p.2.same }
handed P {m = m} (Err e) same s h p = record { r = paper_of m (Err e); promised = subst (λ (q : Options). P q (paper_of m (Err e))) same s; answer = p.0; spent = p.1; left = p.2 ∙ h.same }

module _ {m : Machine} {o o' : Options} {bytes left : List ℕ} {number cycles : ℕ} (r : Result Stepped Refusal) (same : o ≡ o') where
  pub looked : {frame : List ℕ} → LookOf o m frame (paper_of m r) → Holds bytes m → PutBack r bytes number cycles left → Answers (LookOf o' m frame) number cycles left
  looked {frame} = handed (λ q. LookOf q m frame) r same

  pub acted : {image : List ℕ} → ActOf image o m (paper_of m r) → Holds bytes m → PutBack r bytes number cycles left → Answers (ActOf image o' m) number cycles left
  acted {image} = handed (λ q. ActOf image q m) r same

  pub stepped : {image frame : List ℕ} → StepOf image o m frame (paper_of m r) → Holds bytes m → PutBack r bytes number cycles left → Answers (StepOf image o' m frame) number cycles left
  stepped {image} {frame} = handed (λ q. StepOf image q m frame) r same

module _ {image : List ℕ} {m : Machine} {frames : List ℕ} {o o' : Options} {bytes left : List ℕ} {number steps cycles : ℕ} (same : o ≡ o') where
  pub ran : (r : Result Ran Refusal) → RunOf image o m frames (run_paper m r) → Holds bytes m → RunPutBack r bytes number steps cycles left → RunAnswer image o' frames m number steps cycles left
  ran (Ok x) s h p =
      record { r = run_paper m (Ok x); runs = subst (λ (q : Options). RunOf image q m frames (run_paper m (Ok x))) same s; answer = p.0; made = p.1; spent = p.2; left = p.3.same }
  ran (Err e) s h p =
      record { r = run_paper m (Err e); runs = subst (λ (q : Options). RunOf image q m frames (run_paper m (Err e))) same s; answer = p.0; made = p.1; spent = p.2; left = p.3 ∙ h.same }

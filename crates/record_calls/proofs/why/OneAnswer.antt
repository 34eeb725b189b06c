-- em73862_why and em73p982_why have one answer: the numbers of two that conform are equal.
use mathlib.Core.Path.{◌≡◌}
use mathlib.Core.List.{List}
use Prim.Native.Nat.{ℕ}
use Rattle.numbers.specs.ComesBack.{Paper, value_at}
use Rattle.device.specs.declared.Options.{Options}
use Rattle.record_calls.proofs.OneAnswer.{via, agree, judged}
use Rattle.step_why.proofs.Answering.{one_paper}
use Rattle.record_calls.specs.declared.why.WhyNumbers.{WhyNumbers}
use Rattle.record_calls.specs.Why.{OfWhy, WhyCall}

same_numbers : {p q : Paper} {n k : WhyNumbers} → p ≡ q → OfWhy p n → OfWhy q k → n ≡ k
same_numbers {p} {q} {n} {k} e a b =
    let number : n.number ≡ k.number = via (λ (p : Paper). p.number) e a.number b.number in
    let holds : n.holds ≡ k.holds = via (λ (p : Paper). value_at p 0) e a.holds b.holds in
    let source : n.source ≡ k.source = via (λ (p : Paper). value_at p 1) e a.source b.source in
    let sources : n.sources ≡ k.sources = via (λ (p : Paper). value_at p 2) e a.sources b.sources in
    rw (number, holds, source, sources)

pub one_answer : {image : List ℕ} {o : Options} {bytes frame : List ℕ} {n k : WhyNumbers} → WhyCall image o bytes frame n → WhyCall image o bytes frame k → n ≡ k
one_answer {image} {o} {bytes} {frame} a b =
    same_numbers (judged agree (λ m. one_paper image o m frame a.paper b.paper) a.says b.says) a.numbers b.numbers

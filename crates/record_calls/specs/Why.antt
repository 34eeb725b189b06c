-- What em73862_why and em73p982_why answer, on numbers and byte buffers: include/em73862.h and include/em73p982.h declare them.
use Rattle.std.specs.Prelude.{ℕ, List, ◌≡◌}
use Rattle.numbers.specs.ComesBack.{Paper, refused, value_at}
use Rattle.device.specs.declared.Options.{Options}
use Rattle.record_calls.specs.Calls.{Judged, unheld}
use Rattle.step_why.specs.Answers.{WhyAnswer}
use Rattle.record_calls.specs.declared.why.WhyNumbers.{WhyNumbers}

-- document 01's number; then which of the six holds, the source that is accepted and the set of sources, 0 where there is none
pub record OfWhy (p : Paper) (n : WhyNumbers) : Type 0 where
  pub number : n.number ≡ p.number
  pub holds : n.holds ≡ value_at p 0
  pub source : n.source ≡ value_at p 1
  pub sources : n.sources ≡ value_at p 2

-- a buffer that holds no record is refused with 2, and with 1 where the image is none
pub record WhyCall (image : List ℕ) (o : Options) (bytes frame : List ℕ) (n : WhyNumbers) : Type 0 where
  pub paper : Paper
  pub says : Judged bytes (paper ≡ refused (unheld o.device image)) (λ m. WhyAnswer image o m frame paper)
  pub numbers : OfWhy paper n

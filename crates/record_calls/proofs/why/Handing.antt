-- The answers of the call by whether the buffer holds a record.
use Prim.Native.Nat.{ℕ}
use mathlib.Core.List.{List}
use mathlib.Core.Path.{◌≡◌, ap, subst}
use Rattle.std.specs.Prelude.{Result, Err}
use Rattle.numbers.specs.ComesBack.{refused}
use Rattle.numbers.specs.Numbered.{refusal_number}
use Rattle.numbers.specs.declared.Refusal.{Refusal}
use Rattle.device.specs.declared.Options.{Options}
use Rattle.record.specs.declared.Machine.{Machine}
use Rattle.record_bytes.specs.Layout.{Holds, HoldsNone}
use Rattle.record_calls.specs.Calls.{unheld, no_record, record_of}
use Rattle.step_why.specs.Answers.{paper_of, WhyAnswer}
use Rattle.step_why.specs.declared.Reason.{Reason}
use Rattle.record_calls.specs.declared.why.WhyNumbers.{WhyNumbers}
use Rattle.record_calls.specs.Why.{OfWhy, WhyCall}

module _ {image : List ℕ} {bytes frame : List ℕ} {o : Options} {n : WhyNumbers} where
  pub asked : {m : Machine} {o' : Options} (r : Result Reason Refusal) → Holds bytes m → o' ≡ o → WhyAnswer image o' m frame (paper_of r) → OfWhy (paper_of r) n → WhyCall image o bytes frame n
  asked {m} r h e w k = record { paper = paper_of r; says = record_of m h (subst (λ (q : Options). WhyAnswer image q m frame (paper_of r)) e w); numbers = k }

  pub unasked : (refusal : Refusal) → HoldsNone bytes → refusal_number refusal ≡ unheld o.device image → OfWhy (paper_of (Err refusal)) n → WhyCall image o bytes frame n
  unasked refusal h e k = record { paper = paper_of (Err refusal); says = no_record h (ap refused e); numbers = k }

-- Any two answers of the call that conform are equal, and so are the buffers.
use mathlib.Core.Path.{◌≡◌, refl, sym, ap, ◌∙◌}
use Rattle.std.specs.Prelude.{Result, Ok, Err}
use mathlib.Core.List.{List}
use Prim.Native.Nat.{ℕ, ◌<◌}
use lib.Dec.{eqb}
use Rattle.laws.specs.Choice.{pick}
use Rattle.numbers.specs.ComesBack.{Paper, value_at}
use Rattle.device.specs.Device.{rom_of}
use Rattle.device.specs.declared.Device.{Device}
use Rattle.bound_calls.specs.CallAnswer.{CallAnswer}
use Rattle.bound_calls.proofs.CallUnique.{one_answer_with_calls}
use Rattle.bound.specs.Answer.{paper_of}
use Rattle.routines_bound.specs.declared.Greatest.{Greatest}
use Rattle.routines_bound.specs.declared.Unbounded.{Unbounded}
use Rattle.bound.specs.declared.Refused.{Refused}

-- an answer from its number and values
abbrev from_paper : Paper → Result Greatest Refused
from_paper p =
    pick (eqb p.number 1) (Err Refused.ImageSize)
    (pick (eqb p.number 2) (Err Refused.P3Range)
    (pick (eqb p.number 20) (Err Refused.AddressRange)
    (pick (eqb p.number 24) (Err (Refused.Unbounded (Unbounded.Recursion (value_at p 0))))
    (pick (eqb p.number 21) (Err (Refused.Unbounded (Unbounded.Excluded (value_at p 0))))
    (pick (eqb p.number 22) (Err (Refused.Unbounded (Unbounded.Repeats (value_at p 0))))
    (pick (eqb p.number 25) (Err (Refused.Unbounded Unbounded.TooLarge))
    (pick (eqb p.number 23) (Err (Refused.Unbounded (Unbounded.Short (value_at p 0)))) (Ok (record { cycles = value_at p 0; depth = value_at p 1 })))))))))

back : (r : Result Greatest Refused) → from_paper (paper_of r) ≡ r
back (Ok g) = refl
back (Err Refused.ImageSize) = refl
back (Err Refused.P3Range) = refl
back (Err Refused.AddressRange) = refl
back (Err (Refused.Unbounded (Unbounded.Recursion e))) = refl
back (Err (Refused.Unbounded (Unbounded.Excluded a))) = refl
back (Err (Refused.Unbounded (Unbounded.Repeats a))) = refl
back (Err (Refused.Unbounded Unbounded.TooLarge)) = refl
back (Err (Refused.Unbounded (Unbounded.Short n))) = refl

pub one_answer : {d : Device} {image : List ℕ} {p3 start : ℕ} → ((p3 at : ℕ) → rom_of image p3 at < 256) → (path deep : List ℕ) {p p' q q' : List ℕ} (r r' : Result Greatest Refused)
    → CallAnswer d image p3 start path p deep q (paper_of r) → CallAnswer d image p3 start path p' deep q' (paper_of r') → (r ≡ r') × (p ≡ p') × (q ≡ q')
one_answer {d} {image} {p3} {start} bytes path deep r r' a b =
    let u = (one_answer_with_calls d image p3 start path deep bytes).one (record { paper = paper_of r; path' = _; deep' = _; answer = a }) (record { paper = paper_of r'; path' = _; deep' = _; answer = b }) in
    (sym (back r) ∙ (ap from_paper u.0 ∙ back r'), u.1, u.2)

-- The bound of handlers that call has exactly one answer.
use mathlib.Core.Path.{◌≡◌, refl, sym, ap, ◌∙◌}
use mathlib.Core.Bool.{Bool, true, false}
use mathlib.Core.List.{List}
use Prim.Native.Nat.{ℕ, ◌<◌, ◌≤◌}
use native.Mathlib.Decide.{ℕ_discrete, dec_lt}
use native.Mathlib.Omega.{arith}
use lib.ListN.{length}
use Rattle.numbers.specs.ComesBack.{Paper}
use Rattle.device.specs.Device.{image_size, rom_of, is_banked, Banked}
use Rattle.device.specs.declared.Device.{Device}
use Rattle.routines.specs.Answer.{Kept}
use Rattle.routines.proofs.OneAnswer.{one_answer}
use Rattle.routines.proofs.Total.{answered}
use Rattle.bound_calls.specs.CallFlow.{call_flow, call_cycles}
use Rattle.bound_calls.specs.CallAnswer.{paper_of_found, CallAnswer, gives_1, gives_2, gives_20, by_flow, Answered, ExactlyOne, OneAnswerWithCalls}
use Rattle.bound_calls.proofs.Shape.{flow-small, flow_widens}

kept : (path deep : List ℕ) → Kept path path deep deep
kept path deep = record { first = refl; second = refl }

module _ (d : Device) (image : List ℕ) (p3 start : ℕ) (path deep : List ℕ) (bytes : (p3 at : ℕ) → rom_of image p3 at < 256) where
  abbrev Same : Paper → Paper → List ℕ → List ℕ → List ℕ → List ℕ → Type 0
  Same x y p p' q q' = (x ≡ y) × (p ≡ p') × (q ≡ q')

  both-kept : {x : Paper} {p p' q q' : List ℕ} → Kept path p deep q → Kept path p' deep q' → Same x x p p' q q'
  both-kept a b = (refl, a.first ∙ sym b.first, a.second ∙ sym b.second)

  unique : {x y : Paper} {p p' q q' : List ℕ} → CallAnswer d image p3 start path p deep q x → CallAnswer d image p3 start path p' deep q' y → Same x y p p' q q'
  unique (gives_1 n a) (gives_1 m b) = both-kept a b
  unique (gives_1 n a) (gives_2 l m b) = absurd (n l)
  unique (gives_1 n a) (gives_20 l m s b) = absurd (n l)
  unique (gives_1 n a) (by_flow l m s b) = absurd (n l)
  unique (gives_2 l n a) (gives_1 m b) = absurd (m l)
  unique (gives_2 l n a) (gives_2 k m b) = both-kept a b
  unique (gives_2 l n a) (gives_20 k m s b) = absurd (n m)
  unique (gives_2 l n a) (by_flow k m s b) = absurd (n m)
  unique (gives_20 l n s a) (gives_1 m b) = absurd (m l)
  unique (gives_20 l n s a) (gives_2 k m b) = absurd (m n)
  unique (gives_20 l n s a) (gives_20 k m t b) = both-kept a b
  unique (gives_20 l n s a) (by_flow k m t b) = absurd (omega (arith, s, t))
  unique (by_flow l n s a) (gives_1 m b) = absurd (m l)
  unique (by_flow l n s a) (gives_2 k m b) = absurd (m n)
  unique (by_flow l n s a) (gives_20 k m t b) = absurd (omega (arith, s, t))
  unique (by_flow l n s a) (by_flow k m t b) =
      let u = one_answer (flow-small d (rom_of image p3) (bytes p3) start (omega arith)) (flow_widens d (rom_of image p3) start) a b in
      (ap paper_of_found u.0, u.1, u.2)

  by-found : length image ≡ image_size d → Banked d p3 → start ≤ 8191 → Answered d image p3 start path deep
  by-found l n s =
      let a = answered (call_flow d (rom_of image p3) start) 2048 (flow-small d (rom_of image p3) (bytes p3) start (omega arith)) (call_cycles d (rom_of image p3)) path deep (flow_widens d (rom_of image p3) start) in
      record { paper = paper_of_found a.0; path' = a.1; deep' = a.2; answer = by_flow l n s a.3 }

  some-by : Dec (length image ≡ image_size d) → (b : Bool) → is_banked d p3 ≡ b → Dec (8191 < start) → Answered d image p3 start path deep
  some-by (no n) b e s = record { paper = _; path' = path; deep' = deep; answer = gives_1 n (kept path deep) }
  some-by (yes l) false e s = record { paper = _; path' = path; deep' = deep; answer = gives_2 l (λ t. rw e at t) (kept path deep) }
  some-by (yes l) true e (yes s) = record { paper = _; path' = path; deep' = deep; answer = gives_20 l (rw e tt) s (kept path deep) }
  some-by (yes l) true e (no s) = by-found l (rw e tt) (omega arith)

  exactly-one : ExactlyOne d image p3 start path deep
  exactly-one = record { some = some-by (ℕ_discrete (length image) (image_size d)) (is_banked d p3) refl (dec_lt 8191 start); one = λ a b. unique a.answer b.answer }

pub one_answer_with_calls : OneAnswerWithCalls
one_answer_with_calls d image p3 start path deep bytes = exactly-one d image p3 start path deep bytes

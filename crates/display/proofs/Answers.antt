-- What the call answers in each of its three cases, and that any two answers to the same are equal.
use Prim.Native.Nat.{ℕ, ◌<◌, ◌≤◌}
use mathlib.Core.Bool.{Bool, true, false}
use mathlib.Core.List.{List}
use mathlib.Core.Path.{◌≡◌, refl, sym, ◌∙◌}
use native.Mathlib.Decide.{dec_lt}
use native.Mathlib.Omega.{arith}
use lib.ListN.{length}
use Rattle.laws.specs.Decides.{Decides}
use Rattle.laws.proofs.Computed.{true→T}
use Rattle.device.specs.declared.Device.{Device}
use Rattle.record.specs.Valid.{Valid}
use Rattle.record.specs.declared.Machine.{Machine}
use Rattle.record.proofs.valid.Validity.{valid?}
use Rattle.numbers.specs.declared.Refusal.{Refusal}
use Rattle.std.proofs.Common.{Result, Ok, Err}
use Rattle.display.specs.Display.{Shows, Refused, DisplayOf}
use Rattle.display.proofs.Shows.{one-buffer}

-- what is known where the test that decides a statement failed, and where it passed
pub fails : {t : Bool} {P : Type 0} → Decides t P → t ≡ false → P → ⊥
fails {t} d e p = rw e at (d.complete p)

pub passes : {t : Bool} {P : Type 0} → Decides t P → t ≡ true → P
passes {t} d e = d.sound (true→T e)

module _ {d : Device} (m : Machine) (b : List ℕ) where
  pub outside_ranges : (Valid d m → ⊥) → DisplayOf d m b b (Err Refusal.RecordOutsideTheRanges)
  outside_ranges n =
      record {
        outside = λ _. record { answer = refl; kept = refl };
        short = λ v. absurd (n v);
        shown = λ v. absurd (n v);
      }

  pub under_40 : Valid d m → length b < 40 → DisplayOf d m b b (Err Refusal.DisplayBufferUnder40Bytes)
  under_40 v h =
      record {
        outside = λ n. absurd (n v);
        short = λ _ _. record { answer = refl; kept = refl };
        shown = λ _ l. absurd (let z : ⊥ = omega arith in z);
      }

  pub all_shown : (a : List ℕ) → Valid d m → 40 ≤ length b → Shows m b a → DisplayOf d m b a (Ok tt)
  all_shown a v h e = record { outside = λ n. absurd (n v); short = λ _ l. absurd (let z : ⊥ = omega arith in z); shown = λ _ _. (refl, e) }

same_refusal : {n : Refusal} {b a z : List ℕ} {r q : Result Unit Refusal} → Refused n b a r → Refused n b z q → (r ≡ q) × (a ≡ z)
same_refusal f g = (f.answer ∙ sym g.answer, f.kept ∙ sym g.kept)

same_shown : {m : Machine} {b a z : List ℕ} {r q : Result Unit Refusal} → (r ≡ Ok tt) × Shows m b a → (q ≡ Ok tt) × Shows m b z → (r ≡ q) × (a ≡ z)
same_shown f g = (f.0 ∙ sym g.0, one-buffer f.1 g.1)

by_size : {d : Device} {m : Machine} {b a z : List ℕ} {r q : Result Unit Refusal} → DisplayOf d m b a r → DisplayOf d m b z q → Valid d m → Dec (length b < 40) → (r ≡ q) × (a ≡ z)
by_size f g v (yes h) = same_refusal (f.short v h) (g.short v h)
by_size f g v (no h) = same_shown (f.shown v (omega arith)) (g.shown v (omega arith))

by_validity : {d : Device} {m : Machine} {b a z : List ℕ} {r q : Result Unit Refusal} → DisplayOf d m b a r → DisplayOf d m b z q → Dec (Valid d m) → (r ≡ q) × (a ≡ z)
by_validity {b = b} f g (yes v) = by_size f g v (dec_lt (length b) 40)
by_validity f g (no n) = same_refusal (f.outside n) (g.outside n)

-- any two answers to the same record and buffer are equal, and leave the same bytes
pub one_answer : (d : Device) (m : Machine) (b a z : List ℕ) (r q : Result Unit Refusal) → DisplayOf d m b a r → DisplayOf d m b z q → (r ≡ q) × (a ≡ z)
one_answer d m b a z r q f g = by_validity f g (valid? d m)

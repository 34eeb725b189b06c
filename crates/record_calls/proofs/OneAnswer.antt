-- Each of the calls has one answer, on either device: two answers to the same that conform are equal, numbers and buffers.
use Prim.Native.Nat.{ℕ}
use mathlib.Core.List.{List}
use mathlib.Core.Path.{◌≡◌, sym, ap, subst, ◌∙◌}
use Rattle.std.specs.Prelude.{Result}
use Rattle.numbers.specs.ComesBack.{record_outside_the_ranges}
use Rattle.numbers.specs.declared.Refusal.{Refusal}
use Rattle.device.specs.declared.Device.{Device}
use Rattle.record.specs.Valid.{Valid}
use Rattle.record.specs.declared.Machine.{Machine}
use Rattle.record.proofs.start.Starting.{reset_determined}
use Rattle.record.proofs.valid.Validity.{valid?}
use Rattle.record_bytes.specs.Layout.{record_bytes}
use Rattle.record_bytes.proofs.Tells.{one_record}
use Rattle.device.specs.declared.Options.{Options}
use Rattle.step.specs.Answers.{StepPaper, StepOf}
use Rattle.step.proofs.Answering.{one_answer as one-stepped}
use Rattle.step.specs.Apart.{LookOf, ActOf}
use Rattle.step.proofs.apart.Answering.{one_look as one-looked, one_act as one-acted}
use Rattle.run.specs.Run.{RunPaper}
use Rattle.run.proofs.Answering.{one_answer as one-ran}
use Rattle.display.proofs.Answers.{one_answer as one-shown}
use Rattle.record_calls.specs.Calls.{number_of, left_by_reset, Judged, no_record, record_of, unheld, FreshCall, wrong_length, fresh, ResetCall, ValidAnswer, ValidCall, NotStepped, Answers, StepCall, LookCall, ActCall, RunCall, DisplayCall}

-- two values that are each f of something, where the somethings are equal
pub via : {A B : Type 0} (f : A → B) {x y : A} {a b : B} → x ≡ y → a ≡ f x → b ≡ f y → a ≡ b
via f e p q = p ∙ (ap f e ∙ sym q)

pub agree : {A : Type 0} {x a b : A} → a ≡ x → b ≡ x → a ≡ b
agree p q = p ∙ sym q

-- a buffer holds one record or none, so two answers are both its refusal or both about that record
pub judged : {bytes : List ℕ} {R R' Same : Type 0} {A A' : Machine → Type 0} → (R → R' → Same) → ((m : Machine) → A m → A' m → Same) → Judged bytes R A → Judged bytes R' A' → Same
judged f g (no_record n r) (no_record n' r') = f r r'
judged f g (no_record n r) (record_of m h a) = absurd (n m h)
judged f g (record_of m h a) (no_record n r) = absurd (n m h)
judged {A' = A'} f g (record_of m h a) (record_of m' h' a') = g m a (subst A' (one_record m' m h' h) a')

module _ {d : Device} {bytes : List ℕ} {n n' : ℕ} {z z' : List ℕ} where
  pub one-fresh : FreshCall d bytes n z → FreshCall d bytes n' z' → (n ≡ n') × (z ≡ z')
  one-fresh (wrong_length s p q) (wrong_length s' p' q') = (agree p p', agree q q')
  one-fresh (wrong_length s p q) (fresh s' p' q') = absurd (s s')
  one-fresh (fresh s p q) (wrong_length s' p' q') = absurd (s' s)
  one-fresh (fresh s p q) (fresh s' p' q') = (agree p p', agree q q')

  pub one-reset : ResetCall d bytes n z → ResetCall d bytes n' z' → (n ≡ n') × (z ≡ z')
  one-reset =
      judged (λ a b. (agree a.refusal b.refusal, agree a.kept b.kept))
      (λ m a b. let e : a.r ≡ b.r = reset_determined d m a.r b.r a.resets b.resets in (via number_of e a.refusal b.refusal, via (λ (r : Result Machine Refusal). record_bytes (left_by_reset m r)) e a.left b.left))

  pub one-display : {dots : List ℕ} → DisplayCall d bytes dots n z → DisplayCall d bytes dots n' z' → (n ≡ n') × (z ≡ z')
  one-display {dots} =
      judged (λ a b. (agree a.refusal b.refusal, agree a.kept b.kept))
      (λ m a b. let s = one-shown d m dots z z' a.r b.r a.shows b.shows in (via number_of s.0 a.refusal b.refusal, s.1))

valid_by : {d : Device} {m : Machine} {n n' : ℕ} → ValidAnswer d m n → ValidAnswer d m n' → Dec (Valid d m) → n ≡ n'
valid_by a b (yes v) = agree (a.inside v) (b.inside v)
valid_by a b (no v) = agree (a.outside v) (b.outside v)

pub one_valid : {d : Device} {bytes : List ℕ} {n n' : ℕ} → ValidCall d bytes n → ValidCall d bytes n' → n ≡ n'
one_valid {d} = judged agree (λ m a b. valid_by a b (valid? d m))

module _ {bytes : List ℕ} {n n' c c' : ℕ} {z z' : List ℕ} where
  -- of a promise with one answer
  one-promised : (refusal : ℕ) (P : Machine → StepPaper → Type 0) → ((m : Machine) (r s : StepPaper) → P m r → P m s → r ≡ s)
      → Judged bytes (NotStepped refusal bytes n c z) (λ m. Answers (P m) n c z) → Judged bytes (NotStepped refusal bytes n' c' z') (λ m. Answers (P m) n' c' z')
      → (n ≡ n') × (c ≡ c') × (z ≡ z')
  one-promised refusal P one =
      judged (λ a b. (agree a.refused b.refused, agree a.none b.none, agree a.kept b.kept))
      (λ m a b. let e : a.r ≡ b.r = one m a.r b.r a.promised b.promised in (via (λ (r : StepPaper). r.number) e a.answer b.answer, via (λ (r : StepPaper). r.cycles) e a.spent b.spent, via (λ (r : StepPaper). record_bytes r.machine) e a.left b.left))

module _ {image : List ℕ} {o : Options} {bytes frames : List ℕ} {n n' c c' : ℕ} {z z' : List ℕ} where
  pub one_step : StepCall image o bytes frames n c z → StepCall image o bytes frames n' c' z' → (n ≡ n') × (c ≡ c') × (z ≡ z')
  one_step = one-promised (unheld o.device image) (λ m r. StepOf image o m frames r) (λ m. one-stepped image o m frames)

module _ {o : Options} {bytes frame : List ℕ} {n n' c c' : ℕ} {z z' : List ℕ} where
  pub one_look : LookCall o bytes frame n c z → LookCall o bytes frame n' c' z' → (n ≡ n') × (c ≡ c') × (z ≡ z')
  one_look = one-promised record_outside_the_ranges (λ m r. LookOf o m frame r) (λ m. one-looked o m frame)

module _ {image : List ℕ} {o : Options} {bytes : List ℕ} {n n' c c' : ℕ} {z z' : List ℕ} where
  pub one_act : ActCall image o bytes n c z → ActCall image o bytes n' c' z' → (n ≡ n') × (c ≡ c') × (z ≡ z')
  one_act = one-promised (unheld o.device image) (λ m r. ActOf image o m r) (λ m. one-acted image o m)

module _ {image : List ℕ} {o : Options} {bytes frames : List ℕ} {n n' c c' : ℕ} {z z' : List ℕ} where
  pub one-run : {s s' : ℕ} → RunCall image o bytes frames n s c z → RunCall image o bytes frames n' s' c' z' → (n ≡ n') × (s ≡ s') × (c ≡ c') × (z ≡ z')
  one-run =
      judged
      (λ a b. (agree a.refusal b.refusal, agree a.no_steps b.no_steps, agree a.no_cycles b.no_cycles, agree a.kept b.kept))
      (λ m a b. let e : a.r ≡ b.r = one-ran image o m frames a.r b.r a.runs b.runs in (via (λ (r : RunPaper). r.number) e a.answer b.answer, via (λ (r : RunPaper). r.steps) e a.made b.made, via (λ (r : RunPaper). r.cycles) e a.spent b.spent, via (λ (r : RunPaper). record_bytes r.machine) e a.left b.left))

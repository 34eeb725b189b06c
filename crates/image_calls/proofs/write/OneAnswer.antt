-- The writer's call has one answer: two answers to the same that conform are equal.
use Prim.Native.Nat.{ℕ}
use mathlib.Core.Path.{◌≡◌, sym, ap, ◌∙◌}
use lib.ListN.{length}
use Rattle.numbers.specs.ComesBack.{Paper, value_at}
use Rattle.sheet.specs.declared.Insn.{Insn}
use Rattle.writer.specs.Writing.{paper_of as codePaper}
use Rattle.writer.proofs.RoundTrip.{one_answer as one_written}
use Rattle.image_calls.specs.Write.{WriteCall}

-- two values that are each f of something, where the somethings are equal
via : {A B : Type 0} (f : A → B) {x y : A} {a b : B} → x ≡ y → a ≡ f x → b ≡ f y → a ≡ b
via f e p q = p ∙ (ap f e ∙ sym q)

pub one_write : {i : Insn} {n n' size size' b0 b0' b1 b1' b2 b2' : ℕ} → WriteCall i n size b0 b1 b2 → WriteCall i n' size' b0' b1' b2' → (n ≡ n') × (size ≡ size') × (b0 ≡ b0') × (b1 ≡ b1') × (b2 ≡ b2')
one_write {i} x y =
    let e : codePaper x.r ≡ codePaper y.r = ap codePaper (one_written i x.r y.r x.writes y.writes) in
    (via (λ (p : Paper). p.number) e x.answer y.answer, via (λ (p : Paper). length p.values) e x.bytes y.bytes, via (λ (p : Paper). value_at p 0) e x.first y.first, via (λ (p : Paper). value_at p 1) e x.second y.second, via (λ (p : Paper). value_at p 2) e x.third y.third)

-- What the writer's call answers; and that it has one answer.
use mathlib.Core.Path.{◌≡◌, refl, sym, ap, ◌∙◌}
use mathlib.Core.List.{List, ◌++◌}
use Prim.Native.Nat.{ℕ, ◌<◌, ◌≤◌}
use borrow.Author.Tests.{eq-eqb, ne_eqb, lt-ltb, le-ltb, eqb-false}
use lib.ListN.{length, drop}
use Rattle.std.specs.Prelude.{Ok, Err}
use Rattle.numbers.specs.declared.Refusal.{Refusal}
use Rattle.numbers.proofs.OneNumber.{one_refusal, refusal_some}
use Rattle.numbers.specs.declared.Refusal.TheVariants.{ImageOfAnotherSize, OutputBufferUnder22540Bytes}
use Rattle.hex_reader.specs.Fault.{Taken, number_of}
use Rattle.hex_writer.specs.Writer.{text_of, text_size, Result, written_from, WriteHex}

module _ (image_size : ℕ) (image before : List ℕ) where
  pub wrong_size : (length image ≡ image_size → ⊥) → WriteHex image_size image before before (Err ImageOfAnotherSize)
  unfolding written_from
  wrong_size n = rw (ne_eqb (length image) image_size n)

  pub too_short : length image ≡ image_size → length before < text_size image_size → WriteHex image_size image before before (Err OutputBufferUnder22540Bytes)
  unfolding written_from
  too_short e h = rw (eq-eqb (length image) image_size e, lt-ltb (length before) (text_size image_size) h)

  pub written : (after : List ℕ) → length image ≡ image_size → text_size image_size ≤ length before → after ≡ text_of image_size image ++ drop (text_size image_size) before → WriteHex image_size image before after (Ok tt)
  unfolding written_from
  written after e h w = rw (eq-eqb (length image) image_size e, le-ltb (length before) (text_size image_size) h, w)

-- the number tells two answers apart
same_answer : (r q : Taken) → number_of r ≡ number_of q → r ≡ q
same_answer (Ok x) (Ok y) n = refl
same_answer (Ok x) (Err q) n = absurd (eqb-false _ _ (refusal_some q) (sym n))
same_answer (Err r) (Ok y) n = absurd (eqb-false _ _ (refusal_some r) n)
same_answer (Err r) (Err q) n = ap (λ (x : Refusal). Err x) (one_refusal r q n)

-- any two answers to the same image and buffer are equal, and leave the same bytes
pub one_answer : (image_size : ℕ) (image before after other : List ℕ) (r q : Taken) → WriteHex image_size image before after r → WriteHex image_size image before other q → (r ≡ q) × (after ≡ other)
one_answer image_size image before after other r q f g =
    let e = f ∙ sym g in (same_answer r q (ap (λ (x : Result). x.number) e), ap (λ (x : Result). x.text) e)

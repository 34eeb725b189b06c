-- What the reader's call answers; and that it has one answer.
use mathlib.Core.Path.{◌≡◌, refl, sym, ap, ◌∙◌}
use mathlib.Core.List.{List}
use Prim.Native.Nat.{ℕ}
use borrow.Author.Tests.{eq-eqb, ne_eqb, eqb-false}
use lib.ListN.{length, take}
use Rattle.hex_reader.proofs.work.Fills.{held_image}
use Rattle.hex_reader.specs.Progress.{good, refused, read_of}
use Rattle.hex_reader.specs.Reached.{Held}
use Rattle.hex_reader.specs.Reader.{Result, read_into, Refuses, ReadHex}
use Rattle.std.specs.Prelude.{Ok, Err}
use Rattle.numbers.specs.declared.Refusal.TheVariants.{ImageOfAnotherSize}
use Rattle.hex_reader.specs.Fault.{HexAnswer, fault, buffer, number_of_refusal, number_of_answer, line_of_answer}
use Rattle.hex_reader.specs.declared.fault.HexRefusal.{HexRefusal}
use Rattle.hex_reader.specs.declared.fault.HexRefusal.TheVariants.{Buffer, Fault}
use Rattle.numbers.specs.declared.Refusal.{Refusal}
use Rattle.numbers.proofs.OneNumber.{one_refusal, refusal_some}
use Rattle.hex_reader.specs.declared.fault.HexFault.{HexFault}
use Rattle.numbers.specs.Numbered.{refusal_number}

-- no refusal has the number 0
is_some : (r : HexRefusal) → number_of_refusal r ≡ 0 → ⊥
is_some (Buffer refusal) e = eqb-false _ _ (refusal_some refusal) e
is_some (Fault first) e = eqb-false _ _ (refusal_some first.refusal) e

module _ (image_size : ℕ) (text before : List ℕ) where
  pub wrong_size : (length before ≡ image_size → ⊥) → ReadHex image_size text before before (Err (buffer ImageOfAnotherSize))
  unfolding read_into
  wrong_size n = (rw (ne_eqb (length before) image_size n), n)

  pub refuses : (first : HexFault) → length before ≡ image_size → read_of image_size text ≡ refused (refusal_number first.refusal) first.line → ReadHex image_size text before before (Err (fault first))
  unfolding read_into
  refuses first e r = (rw (eq-eqb (length before) image_size e, r), e)

  pub reads : (work after : List ℕ) → length before ≡ image_size → Held image_size good work (read_of image_size text) → after ≡ take (length before) work → ReadHex image_size text before after (Ok tt)
  unfolding read_into
  reads work after e h c = (rw (eq-eqb (length before) image_size e, h.is, c, e, held_image image_size work h.records h.holds), tt)

pub same_fault : (x y : HexFault) → x.refusal ≡ y.refusal → x.line ≡ y.line → x ≡ y
same_fault x y r l = λ i. record { refusal = r i; line = l i }

-- the number and the line tell two answers apart, but for a buffer and a text
same_answer : (image_size : ℕ) (before : List ℕ) (r q : HexAnswer) → number_of_answer r ≡ number_of_answer q → line_of_answer r ≡ line_of_answer q → Refuses image_size before r → Refuses image_size before q → r ≡ q
same_answer image_size before (Ok x) (Ok y) n l f g = refl
same_answer image_size before (Ok x) (Err q) n l f g = absurd (is_some q (sym n))
same_answer image_size before (Err r) (Ok y) n l f g = absurd (is_some r n)
same_answer image_size before (Err (Buffer r)) (Err (Buffer q)) n l f g = ap (λ (x : Refusal). Err (Buffer x)) (one_refusal r q n)
same_answer image_size before (Err (Buffer r)) (Err (Fault q)) n l f g = absurd (f g)
same_answer image_size before (Err (Fault r)) (Err (Buffer q)) n l f g = absurd (g f)
same_answer image_size before (Err (Fault r)) (Err (Fault q)) n l f g = ap (λ (x : HexFault). Err (Fault x)) (same_fault r q (one_refusal r.refusal q.refusal n) l)

-- any two answers to the same text and buffer are equal, and leave the same bytes
pub one_answer : (image_size : ℕ) (text before after other : List ℕ) (r q : HexAnswer) → ReadHex image_size text before after r → ReadHex image_size text before other q → (r ≡ q) × (after ≡ other)
one_answer image_size text before after other r q f g =
    let e = f.0 ∙ sym g.0 in
    (same_answer image_size before r q (ap (λ (x : Result). x.number) e) (ap (λ (x : Result). x.line) e) f.1 g.1, ap (λ (x : Result). x.image) e)

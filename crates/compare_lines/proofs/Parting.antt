-- Where two lines part, the first field that differs is the one that they have come to.
use mathlib.Core.Path.{◌≡◌, refl, sym, ap, ◌∙◌}
use mathlib.Core.Bool.{Bool, true, false}
use mathlib.Core.List.{List, [], ◌∷◌, ◌++◌}
use Prim.Native.Nat.{ℕ, ◌+◌}
use native.Mathlib.Omega.{arith}
use borrow.Author.Tests.{eq-eqb, ne_eqb, eqb-true}
use lib.Dec.{eqb}
use Rattle.laws.specs.Choice.{pick}
use Rattle.laws.proofs.Choices.{both_false}
use Rattle.text.specs.Script.{is_lf, on_first}
use Rattle.text.specs.Same.{same_text}
use Rattle.compare_lines.specs.Lines.{Line, cut, is_blank, parts_of, same_end, field_from, differ_from}
use Rattle.compare_lines.specs.Left.{spaced_from, plain, blanks_in, clash}
use Rattle.compare_lines.specs.declared.Compared.TheVariants.{Differs}
use Rattle.compare_lines.proofs.Cutting.{plain_parts, cut_joined, cut_whole, opens}
use Rattle.compare_lines.proofs.Spacing.{Headed, headed, spaced_first}

same_front : (w v s : List ℕ) → same_text (w ++ v) (w ++ s) ≡ same_text v s
same_front [] v s = refl
same_front (c ∷ w) v s = rw (eq-eqb c c refl) (same_front w v s)

field_first : (n c : ℕ) {ps qs : List (List ℕ)} → Headed ps → Headed qs → field_from n (on_first c ps) (on_first c qs) ≡ field_from n ps qs
field_first n c h k = rw (h.so, k.so, eq-eqb c c refl)

front_by : (c : ℕ) (w v s : List ℕ) (n : ℕ) (t : Bool) → is_blank c ≡ t → ((m : ℕ) → field_from m (parts_of (w ++ v)) (parts_of (w ++ s)) ≡ field_from (m + blanks_in w) (parts_of v) (parts_of s)) → field_from n (parts_of (c ∷ (w ++ v))) (parts_of (c ∷ (w ++ s))) ≡ field_from (n + blanks_in (c ∷ w)) (parts_of v) (parts_of s)
front_by c w v s n true e g =
    rw e (g (n + 1) ∙ ap (λ (k : ℕ). field_from k (parts_of v) (parts_of s)) (omega arith))
front_by c w v s n false e g = rw e (field_first n c (headed (w ++ v)) (headed (w ++ s)) ∙ g n)

field_front : (w v s : List ℕ) (n : ℕ) → field_from n (parts_of (w ++ v)) (parts_of (w ++ s)) ≡ field_from (n + blanks_in w) (parts_of v) (parts_of s)
field_front [] v s n = ap (λ (k : ℕ). field_from k (parts_of v) (parts_of s)) (omega arith)
field_front (c ∷ w) v s n = front_by c w v s n (is_blank c) refl (λ m. field_front w v s m)

-- our line goes on with v, whose first character or LF is a, and theirs with c and r
pub record Apart (v : List ℕ) (a c : ℕ) (r : List ℕ) : Type 0 where
  pub text : List ℕ
  pub ended : Bool
  pub others : List Line
  pub lines : cut (c ∷ r) ≡ record { text = text; ended = ended } ∷ others
  pub unlike : same_text v text ≡ false
  pub field : (n : ℕ) → field_from n (parts_of v) (parts_of text) ≡ pick (clash a c) 0 n

-- where ours has its LF
ended_field : (c : ℕ) (s : List ℕ) (t : Bool) → is_blank c ≡ t → (n : ℕ) → field_from n (parts_of []) (parts_of (c ∷ s)) ≡ pick (clash 10 c) 0 n
ended_field c s true e n = rw e
ended_field c s false e n = rw (e, (headed s).so)

pub apart_ended : (c : ℕ) (r : List ℕ) → (c ≡ 10 → ⊥) → Apart [] 10 c r
apart_ended c r n =
    let o = opens c r (ne_eqb c 10 n) in
    record {
      text = c ∷ o.text;
      ended = o.ended;
      others = o.others;
      lines = o.lines;
      unlike = refl;
      field = ended_field c o.text (is_blank c) refl;
    }

-- where theirs has its LF
their_field : (a : ℕ) (v : List ℕ) (t : Bool) → is_lf a ≡ false → is_blank a ≡ t → (n : ℕ) → field_from n (parts_of (a ∷ v)) (parts_of []) ≡ pick (clash a 10) 0 n
their_field a v true f e n = rw (e, (headed v).so)
their_field a v false f e n = rw (e, f, (headed v).so)

pub apart_theirs : (a : ℕ) (v : List ℕ) (c : ℕ) (r : List ℕ) → (a ≡ 10 → ⊥) → c ≡ 10 → Apart (a ∷ v) a c r
apart_theirs a v c r n e =
    rw e
    (record {
      text = [];
      ended = true;
      others = cut r;
      lines = refl;
      unlike = refl;
      field = their_field a v (is_blank a) (ne_eqb a 10 n) refl;
    })

-- where neither has
other_field : (a : ℕ) (v : List ℕ) (c : ℕ) (s : List ℕ) (p q : Bool) → is_lf a ≡ false → is_lf c ≡ false → is_blank a ≡ p → is_blank c ≡ q → (a ≡ c → ⊥) → (n : ℕ) → field_from n (parts_of (a ∷ v)) (parts_of (c ∷ s)) ≡ pick (clash a c) 0 n
other_field a v c s true true f g d e ne n = absurd (ne (eqb-true a 32 d ∙ sym (eqb-true c 32 e)))
other_field a v c s true false f g d e ne n = rw (d, e, f, g, (headed s).so)
other_field a v c s false true f g d e ne n = rw (d, e, f, (headed v).so)
other_field a v c s false false f g d e ne n = rw (d, e, f, (headed v).so, (headed s).so, ne_eqb a c ne)

pub apart_other : (a : ℕ) (v : List ℕ) (c : ℕ) (r : List ℕ) → (a ≡ 10 → ⊥) → (c ≡ 10 → ⊥) → (a ≡ c → ⊥) → Apart (a ∷ v) a c r
apart_other a v c r m n ne =
    let o = opens c r (ne_eqb c 10 n) in
    record {
      text = c ∷ o.text;
      ended = o.ended;
      others = o.others;
      lines = o.lines;
      unlike = rw (ne_eqb a c ne);
      field = other_field a v c o.text (is_blank a) (is_blank c) (ne_eqb a 10 m) (ne_eqb c 10 n) refl refl ne;
    }

-- what is named where the lines part
abbrev pub named : ℕ → ℕ → ℕ → List ℕ → List ℕ → ℕ
named n a c w r = pick (eqb n 1) 0 (pick (spaced_from 7 true (w ++ (c ∷ r))) (pick (clash a c) 0 (1 + blanks_in w)) 0)

pub differs_apart : (n : ℕ) (w v : List ℕ) (a c : ℕ) (r ours : List ℕ) → plain (w ++ v) ≡ true → Apart v a c r → differ_from n (cut ((w ++ v) ++ (10 ∷ ours))) (cut (w ++ (c ∷ r))) ≡ Differs n (named n a c w r)
differs_apart n w v a c r ours p x =
    let q = cut_joined w x.text x.ended x.others (c ∷ r) (plain_parts w v p).0 x.lines in
    rw (cut_whole (w ++ v) ours p, ← spaced_first (w ++ (c ∷ r)) (record { text = w ++ x.text; ended = x.ended }) x.others q, q, same_front w v x.text, x.unlike, both_false (same_end true x.ended), field_front w v x.text 1, x.field (1 + blanks_in w))

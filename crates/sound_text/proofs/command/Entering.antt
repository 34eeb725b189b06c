-- A line that is entered a character at a time: its word, its blank and its number with one character more.
use Prim.Native.Nat.{ℕ, ◌+◌, ◌-◌, ◌*◌, ◌<◌, ◌≤◌, min}
use mathlib.Core.Path.{◌≡◌, refl, sym, ap, ◌∙◌}
use mathlib.Core.Bool.{Bool, true, false, not}
use mathlib.Core.List.{List, [], ◌∷◌, ◌++◌, append-nil}
use native.Mathlib.Numerals.{add-one}
use native.Mathlib.Omega.{arith}
use lib.Dec.{T, eqb, ltb, eqb→eq}
use lib.ListN.{length, take, set, length-append}
use lib.Seq.{take_all, take-append-le, take-suc-set}
use native.Mathlib.Decide.{dec_lt}
use borrow.Author.Tests.{lt-ltb, le-ltb, lt-leb, le-leb}
use Rattle.laws.specs.Choice.{pick, both, either}
use Rattle.laws.proofs.Choices.{both_false}
use Rattle.laws.proofs.Computed.{at, where_at, true→T, T→true, both_right}
use Rattle.text.specs.Words.{all_digits, value_after, is_number}
use Rattle.text.specs.Hexadecimal.{between, digit_of}
use Rattle.sound_text.specs.Commands.{is_blank, has_blank, word_of, number_in, most, bare, numbered, command_of}
use Rattle.sound_text.specs.Entry.{Entered, Fits, Feeds}
use Rattle.sound_text.specs.declared.command.Entry.{Entry}
use Rattle.sound_text.specs.declared.command.Command.{Command}
use Rattle.std.specs.Prelude.{Option, None}
use Rattle.sound_text.proofs.command.Texts.{bare-short, numbered-short}

true_not_false : {A : Type 0} → ◌≡◌ {A = Bool} true false → A
true_not_false e = absurd (true→T (sym e))

abbrev agrees : Bool → Bool → Bool
agrees true b = b
agrees false b = not b

-- one character more
blank_more : (l : List ℕ) (c : ℕ) → has_blank (l ++ (c ∷ [])) ≡ either (has_blank l) (is_blank c)
blank_more [] c = last (is_blank c)
  where
    last : (t : Bool) → either t false ≡ t
    last true = refl
    last false = refl
blank_more (d ∷ l) c = by (is_blank d) (blank_more l c)
  where
    by : (t : Bool) → has_blank (l ++ (c ∷ [])) ≡ either (has_blank l) (is_blank c) → either t (has_blank (l ++ (c ∷ []))) ≡ either (either t (has_blank l)) (is_blank c)
    by true f = refl
    by false f = f

-- before the blank
open_word : (c : ℕ) (l : List ℕ) → has_blank l ≡ false → word_of (l ++ (c ∷ [])) ≡ word_of l ++ pick (is_blank c) [] (c ∷ [])
open_word c [] h = refl
open_word c (d ∷ l) h = by (is_blank d) (open_word c l) h
  where
    by : (t : Bool) → (has_blank l ≡ false → word_of (l ++ (c ∷ [])) ≡ word_of l ++ pick (is_blank c) [] (c ∷ [])) → either t (has_blank l) ≡ false → pick t [] (d ∷ word_of (l ++ (c ∷ []))) ≡ pick t [] (d ∷ word_of l) ++ pick (is_blank c) [] (c ∷ [])
    by true f g = true_not_false g
    by false f g = ap (λ (w : List ℕ). d ∷ w) (f g)

no_number : (c : ℕ) (l : List ℕ) → has_blank l ≡ false → number_in (l ++ (c ∷ [])) ≡ []
no_number c [] h = by (is_blank c)
  where
    by : (t : Bool) → ◌≡◌ {A = List ℕ} (pick t [] []) []
    by true = refl
    by false = refl
no_number c (d ∷ l) h = by (is_blank d) (no_number c l) h
  where
    by : (t : Bool) → (has_blank l ≡ false → number_in (l ++ (c ∷ [])) ≡ []) → either t (has_blank l) ≡ false → pick t (l ++ (c ∷ [])) (number_in (l ++ (c ∷ []))) ≡ []
    by true f g = true_not_false g
    by false f g = f g

number_none : (l : List ℕ) → has_blank l ≡ false → number_in l ≡ []
number_none [] h = refl
number_none (d ∷ l) h = by (is_blank d) (number_none l) h
  where
    by : (t : Bool) → (has_blank l ≡ false → number_in l ≡ []) → either t (has_blank l) ≡ false → pick t l (number_in l) ≡ []
    by true f g = true_not_false g
    by false f g = f g

-- after it
closed : (c : ℕ) (l : List ℕ) → has_blank l ≡ true → (word_of (l ++ (c ∷ [])) ≡ word_of l) × (number_in (l ++ (c ∷ [])) ≡ number_in l ++ (c ∷ []))
closed c [] h = true_not_false (sym h)
closed c (d ∷ l) h = by (is_blank d) (closed c l) h
  where
    by : (t : Bool) → (has_blank l ≡ true → (word_of (l ++ (c ∷ [])) ≡ word_of l) × (number_in (l ++ (c ∷ [])) ≡ number_in l ++ (c ∷ []))) → either t (has_blank l) ≡ true → (pick t [] (d ∷ word_of (l ++ (c ∷ []))) ≡ pick t [] (d ∷ word_of l)) × (pick t (l ++ (c ∷ [])) (number_in (l ++ (c ∷ []))) ≡ pick t l (number_in l) ++ (c ∷ []))
    by true f g = (refl, refl)
    by false f g = (ap (λ (w : List ℕ). d ∷ w) (f g).0, (f g).1)

-- a digit more
digits_more : (n : List ℕ) (c : ℕ) → all_digits 10 (n ++ (c ∷ [])) ≡ both (all_digits 10 n) (ltb (digit_of c) 10)
digits_more [] c = by (ltb (digit_of c) 10)
  where
    by : (t : Bool) → both t true ≡ t
    by true = refl
    by false = refl
digits_more (d ∷ n) c = by (ltb (digit_of d) 10) (digits_more n c)
  where
    by : (t : Bool) → all_digits 10 (n ++ (c ∷ [])) ≡ both (all_digits 10 n) (ltb (digit_of c) 10) → both t (all_digits 10 (n ++ (c ∷ []))) ≡ both (both t (all_digits 10 n)) (ltb (digit_of c) 10)
    by true f = f
    by false f = refl

value_more : (n : List ℕ) (v c : ℕ) → value_after 10 v (n ++ (c ∷ [])) ≡ value_after 10 v n * 10 + digit_of c
value_more [] v c = refl
value_more (d ∷ n) v c = value_more n (v * 10 + digit_of d) c

-- the decimal digits among the characters
pub digit_test : (c : ℕ) → c < 256 → ltb (digit_of c) 10 ≡ between "0" "9" c
unfolding digit_of
digit_test c h = same (ltb (digit_of c) 10) (between "0" "9" c) (at (λ c. agrees (ltb (digit_of c) 10) (between "0" "9" c)) 256 tt c h)
  where
    same : (a b : Bool) → T (agrees a b) → a ≡ b
    same true true t = refl
    same false false t = refl
    same true false t = absurd t
    same false true t = absurd t

digit_value : (c : ℕ) → c < 256 → between "0" "9" c ≡ true → digit_of c ≡ c - 48
unfolding digit_of
digit_value c h b = eqb→eq (digit_of c) (c - 48) (where_at (between "0" "9") (λ c. eqb (digit_of c) (c - 48)) 256 tt c h (true→T b))

module _ {e : Entry} {c : ℕ} (small : c < 256) (fits : Fits e) where
  -- a character of the number: a digit, or any other
  pub digit-fed : e.spaced ≡ true → between "0" "9" c ≡ true → Feeds e c (record { word = e.word; kept = e.kept; spaced = e.spaced; some = true; digits = e.digits; value = min most (e.value * 10 + (c - 48)) })
  digit-fed s d =
      record {
        fits = record { kept = fits.kept; value = omega arith };
        entered = λ line r. let h : has_blank line ≡ true = sym r.spaced ∙ s in let q = closed c line h in
            record {
              kept = rw q.0 r.kept;
              word = rw q.0 r.word;
              spaced = rw (blank_more line c, h) s;
              some = rw (q.1, lt-ltb 0 (length (number_in line ++ (c ∷ []))) (omega (arith, length-append (number_in line) (c ∷ [])))) refl;
              digits = rw (q.1, digits_more (number_in line) c, digit_test c small, d) (r.digits ∙ sym (both_true (all_digits 10 (number_in line))));
              value = λ t. rw (q.1, value_more (number_in line) 0 c, digit_value c small d) (omega (arith, r.value t));
            };
      }
    where
      both_true : (t : Bool) → both t true ≡ t
      both_true true = refl
      both_true false = refl

  pub other-fed : e.spaced ≡ true → between "0" "9" c ≡ false → Feeds e c (record { word = e.word; kept = e.kept; spaced = e.spaced; some = true; digits = false; value = e.value })
  other-fed s d =
      record {
        fits = record { kept = fits.kept; value = fits.value };
        entered = λ line r. let h : has_blank line ≡ true = sym r.spaced ∙ s in let q = closed c line h in
            record {
              kept = rw q.0 r.kept;
              word = rw q.0 r.word;
              spaced = rw (blank_more line c, h) s;
              some = rw (q.1, lt-ltb 0 (length (number_in line ++ (c ∷ []))) (omega (arith, length-append (number_in line) (c ∷ [])))) refl;
              digits = rw (q.1, digits_more (number_in line) c, digit_test c small, d) (sym (both_false (all_digits 10 (number_in line))));
              value = λ t. true_not_false (sym t);
            };
      }

  -- the first blank
  pub blank-fed : e.spaced ≡ false → is_blank c ≡ true → Feeds e c (record { word = e.word; kept = e.kept; spaced = true; some = e.some; digits = e.digits; value = e.value })
  blank-fed s b =
      record {
        fits = record { kept = fits.kept; value = fits.value };
        entered = λ line r. let h : has_blank line ≡ false = sym r.spaced ∙ s in let w : word_of (line ++ (c ∷ [])) ≡ word_of line = rw b at (open_word c line h) ∙ append-nil (word_of line) in
            record {
              kept = rw w r.kept;
              word = rw w r.word;
              spaced = rw (blank_more line c, h, b) refl;
              some = rw (no_number c line h) (rw (number_none line h) at r.some);
              digits = rw (no_number c line h) (rw (number_none line h) at r.digits);
              value = λ t. rw (no_number c line h) (rw (number_none line h) at (r.value t));
            };
      }

  -- a character of the word: kept, or one too many
  pub word_kept : e.spaced ≡ false → is_blank c ≡ false → e.kept < 8 → length e.word ≡ 8 → Feeds e c (record { word = set e.word e.kept c; kept = e.kept + 1; spaced = e.spaced; some = e.some; digits = e.digits; value = e.value })
  word_kept s b room size =
      record {
        fits = record { kept = omega arith; value = fits.value };
        entered = λ line r. let h : has_blank line ≡ false = sym r.spaced ∙ s in let w : word_of (line ++ (c ∷ [])) ≡ word_of line ++ (c ∷ []) = rw b at (open_word c line h) in
            let n : length (word_of line ++ (c ∷ [])) ≡ length (word_of line) + 1 = length-append (word_of line) (c ∷ []) in
            let whole : take 8 (word_of line) ≡ word_of line = take_all 8 (word_of line) (omega (arith, r.kept)) in
            record {
              kept = rw (w, n) (omega (arith, r.kept));
              word = rw (w, add-one e.kept, take-suc-set e.word e.kept c (omega arith), take_all 8 (word_of line ++ (c ∷ [])) (omega (arith, r.kept))) (ap (λ (l : List ℕ). l ++ (c ∷ [])) (r.word ∙ whole));
              spaced = rw (blank_more line c, h, b) s;
              some = rw (no_number c line h) (rw (number_none line h) at r.some);
              digits = rw (no_number c line h) (rw (number_none line h) at r.digits);
              value = λ t. rw (no_number c line h) (rw (number_none line h) at (r.value t));
            };
      }

  pub word-full : e.spaced ≡ false → is_blank c ≡ false → 8 ≤ e.kept → Feeds e c e
  word-full s b full =
      record {
        fits = fits;
        entered = λ line r. let h : has_blank line ≡ false = sym r.spaced ∙ s in let w : word_of (line ++ (c ∷ [])) ≡ word_of line ++ (c ∷ []) = rw b at (open_word c line h) in
            let n : length (word_of line ++ (c ∷ [])) ≡ length (word_of line) + 1 = length-append (word_of line) (c ∷ []) in
            record {
              kept = rw (w, n) (omega (arith, r.kept));
              word = rw (w, take-append-le 8 (word_of line) (c ∷ []) (omega (arith, r.kept))) r.word;
              spaced = rw (blank_more line c, h, b) s;
              some = rw (no_number c line h) (rw (number_none line h) at r.some);
              digits = rw (no_number c line h) (rw (number_none line h) at r.digits);
              value = λ t. rw (no_number c line h) (rw (number_none line h) at (r.value t));
            };
      }

-- the command of what was entered
module _ {e : Entry} {r : Option Command} where
  pub bare-command : e.spaced ≡ false → r ≡ bare (take e.kept e.word) → (line : List ℕ) → Entered line e → r ≡ command_of line
  unfolding command_of
  bare-command s f line n = rw (sym n.spaced ∙ s) (f ∙ (ap bare n.word ∙ bare-short (word_of line)))

  pub numbered-command : e.spaced ≡ true → both e.some e.digits ≡ true → r ≡ numbered (take e.kept e.word) e.value → (line : List ℕ) → Entered line e → r ≡ command_of line
  unfolding command_of
  numbered-command s b f line n =
      let digits : e.digits ≡ true = T→true e.digits (both_right e.some e.digits (true→T b)) in
      let number : is_number 10 (number_in line) ≡ true = rw (n.some, n.digits) at b in
      rw (sym n.spaced ∙ s, number, ← n.value digits) (f ∙ (ap (λ (w : List ℕ). numbered w e.value) n.word ∙ numbered-short (word_of line) e.value))

  pub no-command : e.spaced ≡ true → both e.some e.digits ≡ false → r ≡ None → (line : List ℕ) → Entered line e → r ≡ command_of line
  unfolding command_of
  no-command s b f line n =
      let number : is_number 10 (number_in line) ≡ false = rw (n.some, n.digits) at b in
      rw (sym n.spaced ∙ s, number) f

-- a line that was begun has a character, and one that was not has none
begun_by : (l : List ℕ) (k : ℕ) → k ≡ min 8 (length (word_of l)) → either (has_blank l) (ltb 0 k) ≡ ltb 0 (length l)
begun_by [] k h = le-ltb 0 k (omega arith)
begun_by (c ∷ l) k h = by (is_blank c) h ∙ sym (lt-ltb 0 (length (c ∷ l)) (omega arith))
  where
    by : (t : Bool) → k ≡ min 8 (length (pick t [] (c ∷ word_of l))) → either (either t (has_blank l)) (ltb 0 k) ≡ true
    by true g = refl
    by false g = rw (lt-ltb 0 k (omega arith)) (last (has_blank l))
      where
        last : (t : Bool) → either t true ≡ true
        last true = refl
        last false = refl

pub begun : {e : Entry} (line : List ℕ) → Entered line e → either e.spaced (ltb 0 e.kept) ≡ ltb 0 (length line)
begun {e} line n = rw n.spaced (begun_by line e.kept n.kept)

-- a character that is a digit, and one that is not
pub digit-is : (c : ℕ) → 48 ≤ c → c ≤ 57 → between "0" "9" c ≡ true
digit-is c g h = rw (le-leb 48 c g, le-leb c 57 h)

pub digit-not : (c : ℕ) → (48 ≤ c → c ≤ 57 → ⊥) → Dec (c < 48) → between "0" "9" c ≡ false
digit-not c n (yes l) = rw (lt-leb 48 c l)
digit-not c n (no l) = rw (le-leb 48 c (omega arith), lt-leb c 57 (by (dec_lt 57 c)))
  where
    by : Dec (57 < c) → 57 < c
    by (yes m) = m
    by (no m) = absurd (n (omega arith) (omega arith))

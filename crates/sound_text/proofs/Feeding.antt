-- The input, a character at a time: what is answered to it all does not depend on how it is cut.
use Prim.Native.Nat.{ℕ}
use mathlib.Core.Path.{◌≡◌, refl, sym, ap, ◌∙◌}
use mathlib.Core.Bool.{Bool, true, false, not}
use mathlib.Core.List.{List, [], ◌∷◌, ◌++◌, append_assoc, append-nil}
use native.Mathlib.Omega.{arith}
use lib.Dec.{T, ltb}
use lib.ListN.{length}
use borrow.Author.Tests.{lt-ltb, ne_eqb}
use Rattle.laws.specs.Choice.{pick, either}
use Rattle.laws.proofs.Computed.{true→T, both_left, both_right, both_i}
use Rattle.text.specs.Script.{is_lf, on_first, lines_of}
use Rattle.sound_generator.specs.Sound.{start_state}
use Rattle.sound_generator.specs.declared.Sound.{Sound}
use Rattle.sound_text.specs.Commands.{command_of}
use Rattle.sound_text.specs.Entry.{Entered, Fits, Feeds as Enters}
use Rattle.sound_text.specs.declared.command.Entry.{Entry}
use Rattle.sound_text.specs.declared.command.Command.{Command}
use Rattle.sound_text.specs.Telling.{performed, text_of, state_left, told_over, sound_of}
use Rattle.sound_text.specs.Feeding.{unended, Begun, Feeds}
use Rattle.sound_text.proofs.command.Entering.{begun}
use Rattle.std.specs.Prelude.{Option}
use Rattle.sound_generator.specs.Answers.{Answer}
use Rattle.sound_text.specs.declared.Progress.{Progress}

unended_more : (l : List ℕ) (c : ℕ) → T (unended l) → is_lf c ≡ false → T (unended (l ++ (c ∷ [])))
unended_more [] c t e = rw e tt
unended_more (d ∷ l) c t e = both_i (not (is_lf d)) (unended (l ++ (c ∷ []))) (both_left (not (is_lf d)) (unended l) t) (unended_more l c (both_right (not (is_lf d)) (unended l) t) e)

-- a line that is ended, and one that is not
ended : (l rest : List ℕ) → T (unended l) → lines_of (l ++ (10 ∷ rest)) ≡ l ∷ lines_of rest
ended [] rest t = refl
ended (c ∷ l) rest t = by (is_lf c) (both_left (not (is_lf c)) (unended l) t) (ended l rest (both_right (not (is_lf c)) (unended l) t))
  where
    by : (b : Bool) → T (not b) → lines_of (l ++ (10 ∷ rest)) ≡ l ∷ lines_of rest → pick b ([] ∷ lines_of (l ++ (10 ∷ rest))) (on_first c (lines_of (l ++ (10 ∷ rest)))) ≡ (c ∷ l) ∷ lines_of rest
    by true n f = absurd n
    by false n f = rw f

one_line : (c : ℕ) (l : List ℕ) → T (unended (c ∷ l)) → lines_of (c ∷ l) ≡ (c ∷ l) ∷ []
one_line c [] t = by (is_lf c) (both_left (not (is_lf c)) true t)
  where
    by : (b : Bool) → T (not b) → pick b ([] ∷ []) ((c ∷ []) ∷ []) ≡ (c ∷ []) ∷ []
    by true n = absurd n
    by false n = refl
one_line c (d ∷ l) t = by (is_lf c) (both_left (not (is_lf c)) (unended (d ∷ l)) t) (one_line d l (both_right (not (is_lf c)) (unended (d ∷ l)) t))
  where
    by : (b : Bool) → T (not b) → lines_of (d ∷ l) ≡ (d ∷ l) ∷ [] → pick b ([] ∷ lines_of (d ∷ l)) (on_first c (lines_of (d ∷ l))) ≡ (c ∷ d ∷ l) ∷ []
    by true n f = absurd n
    by false n f = rw f

told_line : (s : Sound) (l : List ℕ) (ls : List (List ℕ)) → told_over s (l ∷ ls) ≡ text_of (performed s (command_of l)) ++ told_over (state_left s (performed s (command_of l))) ls
unfolding told_over
told_line s l ls = refl

-- a character of a line
pub entered : {s : Sound} {e next : Entry} {c : ℕ} (out : List ℕ) → (c ≡ 10 → ⊥) → Enters e c next → Feeds s e (c ∷ []) out out (record { state = s; entry = next })
entered {s} {e} {next} {c} out ne f =
    record {
      fits = f.fits;
      fed = λ b.
          record {
            text = [];
            wrote = sym (append-nil out);
            begun = record { line = b.line ++ (c ∷ []); entered = f.entered b.line b.entered; no_end = unended_more b.line c b.no_end (ne_eqb c 10 ne) };
            told = λ rest. rw append_assoc;
          };
    }

-- the LF that ends it
pub answered : {s left : Sound} {e next : Entry} {c : ℕ} {before after : List ℕ} {command : Option Command} {p : Option Answer} → c ≡ 10 → Fits next → Entered [] next → ((line : List ℕ) → Entered line e → command ≡ command_of line) → p ≡ performed s command → after ≡ before ++ text_of p → left ≡ state_left s p → Feeds s e (c ∷ []) before after (record { state = left; entry = next })
answered {s} {c = c} {command = command} {p = p} lf fits none of same w k =
    record {
      fits = fits;
      fed = λ b.
          record {
            text = text_of p;
            wrote = w;
            begun = record { line = []; entered = none; no_end = tt };
            told = λ rest. rw (lf, ended b.line rest b.no_end, told_line s b.line (lines_of rest), ← of b.line b.entered, ← same, k);
          };
    }

pub nothing_fed : {s : Sound} {e : Entry} (out : List ℕ) → Fits e → Feeds s e [] out out (record { state = s; entry = e })
nothing_fed out fits = record {
  fits = fits;
  fed = λ b. record { text = []; wrote = sym (append-nil out); begun = b; told = λ rest. refl };
}

-- one part and then another
pub fed_then : {s : Sound} {e : Entry} {p q before mid after : List ℕ} {m r : Progress} → Feeds s e p before mid m → Feeds m.state m.entry q mid after r → Feeds s e (p ++ q) before after r
fed_then {s} {e} {p} {q} {before} f g =
    record {
      fits = g.fits;
      fed = λ b. let x = f.fed b in let y = g.fed x.begun in
          record {
            text = x.text ++ y.text;
            wrote = y.wrote ∙ rw x.wrote (append_assoc before x.text y.text);
            begun = y.begun;
            told = λ rest. rw (append_assoc p q rest, append_assoc x.text y.text) (x.told (q ++ rest) ∙ ap (λ (l : List ℕ). x.text ++ l) (y.told rest));
          };
    }

-- the end of the input: within a line, or not
unended_told : (s : Sound) (line : List ℕ) → T (unended line) → ltb 0 (length line) ≡ true → told_over s (lines_of line) ≡ text_of (performed s (command_of line))
unfolding told_over
unended_told s [] t h = absurd (true→T h)
unended_told s (c ∷ l) t h = rw (one_line c l t) (append-nil (text_of (performed s (command_of (c ∷ l)))))

none_told : (s : Sound) (line : List ℕ) → ltb 0 (length line) ≡ false → told_over s (lines_of line) ≡ []
unfolding told_over
none_told s [] h = refl
none_told s (c ∷ l) h = absurd (true→T (sym h ∙ lt-ltb 0 (length (c ∷ l)) (omega arith)))

module _ (s : Sound) {e : Entry} {t : Bool} (test : t ≡ either e.spaced (ltb 0 e.kept)) (before : List ℕ) where
  pub last-told : {command : Option Command} {p : Option Answer} {after : List ℕ} → t ≡ true → ((line : List ℕ) → Entered line e → command ≡ command_of line) → p ≡ performed s command → after ≡ before ++ text_of p → (b : Begun e) → after ≡ before ++ told_over s (lines_of b.line)
  last-told h of same w b =
      rw (unended_told s b.line b.no_end (sym (begun b.line b.entered) ∙ (sym test ∙ h)), ← of b.line b.entered, ← same) w

  pub nothing-told : t ≡ false → (b : Begun e) → before ≡ before ++ told_over s (lines_of b.line)
  nothing-told h b = rw (none_told s b.line (sym (begun b.line b.entered) ∙ (sym test ∙ h))) (sym (append-nil before))

-- all of the input: what was written, and then the answer to a line that it ends within, is what the program has to write
pub whole : {e : Entry} {input before after : List ℕ} {r : Progress} (none : Entered [] e) (f : Feeds start_state e input before after r) → let x = f.fed (record { line = []; entered = none; no_end = tt }) in x.text ++ told_over r.state (lines_of x.begun.line) ≡ sound_of input
whole {input = input} {r = r} none f =
    let x = f.fed (record { line = []; entered = none; no_end = tt }) in
    let t = x.told [] in
    sym (rw (append-nil input, append-nil x.begun.line) at t)

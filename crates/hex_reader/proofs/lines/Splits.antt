-- A text by its first line: characters without an LF, then an LF or nothing.
use mathlib.Core.Path.{◌≡◌, refl, ap, ◌∙◌}
use mathlib.Core.Bool.{Bool, true, false}
use mathlib.Core.List.{List, [], ◌∷◌, ◌++◌}
use Prim.Native.Nat.{ℕ, suc, ◌+◌, ◌-◌, ◌<◌, ◌≤◌}
use native.Mathlib.Nat.{not-suc-le-zero}
use native.Mathlib.Omega.{arith}
use borrow.Author.Tests.{eq-eqb, ne_eqb, eqb-true}
use lib.ListN.{length, get_or, take, drop, length-take, length-drop, drop_of_length-le}
use lib.Seq.{drop-drop, take-length}
use Rattle.laws.specs.Choice.{pick, both}
use Rattle.laws.proofs.Choices.{both_false}
use Rattle.text.specs.Script.{is_lf, on_first, up_to}
use Rattle.hex_reader.specs.Lines.{is_cr, hex_lines, without_cr, LineAt}
use Rattle.hex_reader.specs.declared.lines.LineOf.{LineOf}

-- no LF among the characters
pub no_lf : (c : ℕ) (s : List ℕ) (t : Bool) → is_lf c ≡ t → up_to (c ∷ s) ≡ length (c ∷ s) → (is_lf c ≡ false) × (up_to s ≡ length s)
no_lf c s true e h = let g : 0 ≡ length (c ∷ s) = rw e at h in absurd (omega arith)
no_lf c s false e h = let g : suc (up_to s) ≡ length (c ∷ s) = rw e at h in (e, omega arith)

last_by : (c : ℕ) (t : Bool) (ls : List (List ℕ)) → is_cr c ≡ t → pick (both t true) ([] ∷ ls) ((c ∷ []) ∷ ls) ≡ pick t [] (c ∷ []) ∷ ls
last_by c true ls e = refl
last_by c false ls e = refl

-- characters that an LF ends are a line, but for a CR at their end
pub ended : (s rest : List ℕ) → up_to s ≡ length s → hex_lines (s ++ 10 ∷ rest) ≡ without_cr s ∷ hex_lines rest
ended [] rest h = refl
ended (c ∷ []) rest h = rw (no_lf c [] (is_lf c) refl h).0 (last_by c (is_cr c) (hex_lines rest) refl)
ended (c ∷ d ∷ s) rest h =
    let n = no_lf c (d ∷ s) (is_lf c) refl h in
    let m = no_lf d s (is_lf d) refl n.1 in
    rw (n.0, m.0, both_false (is_cr c)) (ap (on_first c) (rw m.0 at (ended (d ∷ s) rest n.1)))

-- characters that nothing ends are one
pub unended : (c : ℕ) (s : List ℕ) → up_to (c ∷ s) ≡ length (c ∷ s) → hex_lines (c ∷ s) ≡ (c ∷ s) ∷ []
unended c [] h = rw ((no_lf c [] (is_lf c) refl h).0, both_false (is_cr c))
unended c (d ∷ s) h =
    let n = no_lf c (d ∷ s) (is_lf c) refl h in
    let m = no_lf d s (is_lf d) refl n.1 in
    rw (n.0, m.0, both_false (is_cr c)) (ap (on_first c) (rw m.0 at (unended d s n.1)))

last_line_lem : (s : List ℕ) → 0 < length s → up_to s ≡ length s → hex_lines s ≡ s ∷ []
last_line_lem [] g h = absurd (not-suc-le-zero g)
last_line_lem (c ∷ s) g h = unended c s h

-- what stands before the first LF has none
clear_by : (c : ℕ) (s : List ℕ) (t : Bool) → is_lf c ≡ t → up_to (take (up_to s) s) ≡ length (take (up_to s) s) → up_to (take (up_to (c ∷ s)) (c ∷ s)) ≡ length (take (up_to (c ∷ s)) (c ∷ s))
clear_by c s true e f = rw e
clear_by c s false e f = rw (e, e) (ap suc f)

pub clear : (s : List ℕ) → up_to (take (up_to s) s) ≡ length (take (up_to s) s)
clear [] = refl
clear (c ∷ s) = clear_by c s (is_lf c) refl (clear s)

split_by : (c : ℕ) (s : List ℕ) (t : Bool) → is_lf c ≡ t → (up_to s < length s → s ≡ take (up_to s) s ++ 10 ∷ drop (suc (up_to s)) s) → up_to (c ∷ s) < length (c ∷ s) → c ∷ s ≡ take (up_to (c ∷ s)) (c ∷ s) ++ 10 ∷ drop (suc (up_to (c ∷ s))) (c ∷ s)
split_by c s true e f h = let d = eqb-true c 10 e in rw (e, d)
split_by c s false e f h =
    let g : suc (up_to s) < length (c ∷ s) = rw e at h in rw e (ap (λ (l : List ℕ). c ∷ l) (f (omega arith)))

pub split_lf : (s : List ℕ) → up_to s < length s → s ≡ take (up_to s) s ++ 10 ∷ drop (suc (up_to s)) s
split_lf [] h = absurd (not-suc-le-zero h)
split_lf (c ∷ s) h = split_by c s (is_lf c) refl (split_lf s) h

pub first_line : (s : List ℕ) → up_to s < length s → hex_lines s ≡ without_cr (take (up_to s) s) ∷ hex_lines (drop (suc (up_to s)) s)
first_line s h = ap hex_lines (split_lf s h) ∙ ended (take (up_to s) s) (drop (suc (up_to s)) s) (clear s)

-- a CR at the end, and none
cr_ends : (c : ℕ) (s : List ℕ) → get_or (c ∷ s) (length s) 0 ≡ 13 → take (length s) (c ∷ s) ≡ without_cr (c ∷ s)
cr_ends c [] e = rw (eq-eqb c 13 e)
cr_ends c (d ∷ s) e = ap (λ (l : List ℕ). c ∷ l) (cr_ends d s e)

no_cr_ends : (c : ℕ) (s : List ℕ) → (get_or (c ∷ s) (length s) 0 ≡ 13 → ⊥) → c ∷ s ≡ without_cr (c ∷ s)
no_cr_ends c [] n = rw (ne_eqb c 13 n)
no_cr_ends c (d ∷ s) n = ap (λ (l : List ℕ). c ∷ l) (no_cr_ends d s n)

pub cr_cut : (s : List ℕ) → (length s ≡ 0 → ⊥) → get_or s (length s - 1) 0 ≡ 13 → take (length s - 1) s ≡ without_cr s
cr_cut [] h e = absurd (h refl)
cr_cut (c ∷ s) h e = let m : length (c ∷ s) - 1 ≡ length s = omega arith in rw m (cr_ends c s (rw m at e))

pub cr_kept : (s : List ℕ) → (length s ≡ 0 → ⊥) → (get_or s (length s - 1) 0 ≡ 13 → ⊥) → s ≡ without_cr s
cr_kept [] h e = absurd (h refl)
cr_kept (c ∷ s) h e =
    let m : length (c ∷ s) - 1 ≡ length s = omega arith in no_cr_ends c s (rw m at e)

short_by : (c : ℕ) (t : Bool) → length (pick t [] (c ∷ [])) ≤ 1
short_by c true = omega arith
short_by c false = omega arith

without_cr-short : (s : List ℕ) → length (without_cr s) ≤ length s
without_cr-short [] = omega arith
without_cr-short (c ∷ []) = short_by c (is_cr c)
without_cr-short (c ∷ d ∷ cs) = omega (arith, without_cr-short (d ∷ cs))

module _ (text : List ℕ) (at lf : ℕ) (h : at < length text) (e : lf ≡ at + up_to (drop at text)) (r : LineOf) where
  pub at_end_lem : lf ≡ length text → r.line.now ≡ take (lf - at) (drop at text) → r.next ≡ lf → LineAt text at r
  at_end_lem f l m =
      let n : length (drop at text) ≡ length text - at = length-drop at text in
      let u : up_to (drop at text) ≡ length (drop at text) = omega arith in
      let v : lf - at ≡ length (drop at text) = omega arith in
      record {
        first = rw (l, m, drop_of_length-le text {i = lf} (omega arith), v, take-length (drop at text)) (last_line_lem (drop at text) (omega arith) u);
        size = rw l (omega (arith, length-take (lf - at) (drop at text)));
        later = omega arith;
        within = omega arith;
      }

  pub at-LF : lf ≤ length text → (lf ≡ length text → ⊥) → r.line.now ≡ without_cr (take (lf - at) (drop at text)) → r.next ≡ lf + 1 → LineAt text at r
  at-LF w f l m =
      let n : length (drop at text) ≡ length text - at = length-drop at text in
      let u : lf - at ≡ up_to (drop at text) = omega arith in
      let k : lf + 1 ≡ at + suc (up_to (drop at text)) = omega arith in
      record {
        first = rw (l, m, k, ← drop-drop (suc (up_to (drop at text))) at text, u) (first_line (drop at text) (omega arith));
        size = rw l (omega (arith, without_cr-short (take (lf - at) (drop at text)), length-take (lf - at) (drop at text)));
        later = omega arith;
        within = omega arith;
      }

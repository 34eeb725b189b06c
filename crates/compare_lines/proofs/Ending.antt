-- A line of ours that is matched to its end, and the ends of the texts.
use mathlib.Core.Path.{◌≡◌, refl, sym, ap, ◌∙◌}
use mathlib.Core.Bool.{Bool, true, false}
use mathlib.Core.List.{List, [], ◌∷◌, ◌++◌, append_assoc, append-nil}
use Prim.Native.Nat.{ℕ, ◌+◌, ◌<◌, ◌≤◌}
use native.Mathlib.Omega.{arith}
use native.Mathlib.Decide.{ℕ_discrete}
use borrow.Author.Tests.{eq-eqb, eqb-true, ltb-true, ltb-false}
use lib.Dec.{eqb, ltb}
use lib.ListN.{length, take, drop, length-append, length-drop, drop_of_length-le, take-append-drop}
use lib.Seq.{take-append-le, take_all}
use Rattle.laws.proofs.Computed.{true→T}
use Rattle.text.specs.Script.{is_lf}
use Rattle.text.specs.Same.{same_text}
use Rattle.compare_lines.specs.Lines.{whole, cut, differ_from}
use Rattle.compare_lines.specs.Left.{plain, OneLine, left_of, settled, Hears, Heeds, CutShort, Onward}
use Rattle.compare_lines.specs.declared.Compared.TheVariants.{Differs}
use Rattle.compare_lines.specs.declared.Heard.{Heard}
use Rattle.compare_lines.specs.declared.Phase.{Phase}
use Rattle.compare_lines.specs.declared.Phase.TheVariants.{Matching, Judging, Found}
use Rattle.compare_lines.proofs.Cutting.{plain_parts, cut_whole, cut_open, opens}
use Rattle.compare_lines.proofs.Hearing.{pick_same}

pub same_text_lem : (s : List ℕ) → same_text s s ≡ true
same_text_lem [] = refl
same_text_lem (c ∷ s) = rw (eq-eqb c c refl) (same_text_lem s)

module _ (n : ℕ) {line : List ℕ} (o : OneLine line) where
  pub cut_line : (x : List ℕ) → cut (line ++ x) ≡ whole o.body ∷ cut x
  cut_line x = rw (o.ended, append_assoc o.body (10 ∷ []) x) (cut_whole o.body x o.alone)

  pub line-done : (x y : List ℕ) → differ_from n (cut (line ++ x)) (cut (line ++ y)) ≡ differ_from (n + 1) (cut x) (cut y)
  line-done x y = rw (cut_line x, cut_line y, same_text_lem o.body)

  -- the line is matched to its end
  pub done_at : (at : ℕ) → at ≡ length line → (x y : List ℕ) → left_of (Matching at) n line x y ≡ differ_from (n + 1) (cut x) (cut y)
  done_at at e x y = rw (take_all at line (omega arith)) (line-done x y)

  begun : (w : List ℕ) → plain w ≡ true → (x : List ℕ) → differ_from n (whole o.body ∷ cut x) (cut w) ≡ Differs n 0
  begun [] p x = refl
  begun (c ∷ w) p x = rw (cut_open c w p, pick_same {A = ℕ} (eqb n 1) 0)

  -- theirs ends before
  pub short_at : (at : ℕ) → at < length line → (x : List ℕ) → left_of (Matching at) n line x [] ≡ Differs n 0
  short_at at h x =
      let f : at ≤ length o.body = omega (arith, ap length o.ended ∙ length-append o.body (10 ∷ [])) in
      let e : take at line ≡ take at o.body = rw o.ended (take-append-le at o.body (10 ∷ []) f) in
      let p : plain (take at o.body) ≡ true = (plain_parts (take at o.body) (drop at o.body) (rw (take-append-drop at o.body) o.alone)).0 in
      rw (e, append-nil (take at o.body), cut_line x) (begun (take at o.body) p x)

extra_by : (n c : ℕ) (rest : List ℕ) (t : Bool) → is_lf c ≡ t → differ_from n [] (cut (c ∷ rest)) ≡ Differs n 0
extra_by n c rest true e = rw e
extra_by n c rest false e = rw (opens c rest e).lines

pub extra : (n : ℕ) (rest : List ℕ) → 0 < length rest → differ_from n [] (cut rest) ≡ Differs n 0
extra n [] h = absurd (omega arith)
extra n (c ∷ rest) h = extra_by n c rest (is_lf c) refl

module _ {size : ℕ} where
  pub short-matched : {at : ℕ} → at ≡ size → CutShort (Matching at) size (Matching at)
  short-matched {at} e = record { same = λ n line ours o l. refl; settles = eq-eqb at size e; placed = omega arith }

  pub short-missing : {at : ℕ} → at ≤ size → (at ≡ size → ⊥) → CutShort (Matching at) size (Found 0)
  short-missing {at} h ne = record { same = λ n line ours o l. short_at n o at (omega arith) ours; settles = refl; placed = tt }

  pub short-judging : {field left : ℕ} {empty : Bool} → CutShort (Judging field left empty) size (Found 0)
  short-judging = record { same = λ n line ours o l. refl; settles = refl; placed = tt }

  pub short-found : {field : ℕ} → CutShort (Found field) size (Found field)
  short-found = record { same = λ n line ours o l. refl; settles = refl; placed = tt }

  pub onward-matched : {at n : ℕ} → eqb at size ≡ true → Onward (Matching at) n size (record { phase = Matching 0; line = n + 1 })
  onward-matched {at = at} {n = n} e =
      let f = eqb-true at size e in
      record {
        same = λ line next ours theirs o l. done_at n o at (omega arith) (next ++ ours) theirs;
        placed = λ other. omega arith;
        line = omega arith;
      }

  pub onward-judging : {n field left : ℕ} {empty : Bool} → Onward (Judging field left empty) n size (record { phase = Judging field left empty; line = n })
  onward-judging = record { same = λ line next ours theirs o l. refl; placed = λ other. tt; line = omega arith }

  pub onward-found : {n field : ℕ} → Onward (Found field) n size (record { phase = Found field; line = n })
  onward-found = record { same = λ line next ours theirs o l. refl; placed = λ other. tt; line = omega arith }

module _ {phase : Phase} {n : ℕ} {line part : List ℕ} {r : Heard} (h : Hears phase n line part r) where
  settled-left : {size : ℕ} {p : Phase} → p ≡ Matching size → settled p size ≡ true
  settled-left {size} e = rw e (eq-eqb size size refl)

  all-used : settled r.phase (length line) ≡ false → Dec (r.used ≡ length part) → r.used ≡ length part
  all-used z (yes e) = e
  all-used z (no d) = absurd (true→T (sym z ∙ settled-left (h.all (omega (arith, h.used)))))

  -- more of theirs comes
  pub heeds-more : Heeds phase n line part false r
  heeds-more =
      record {
        same = λ ours rest z. h.same ours rest;
        used = h.used;
        all = h.all;
        placed = h.placed;
        waits = λ z. (refl, all-used z (ℕ_discrete r.used (length part)));
      }

  -- this is the last part, and some of it is left
  pub heeds-left : r.used < length part → Heeds phase n line part true r
  heeds-left l =
      record {
        same = λ ours rest z. h.same ours rest;
        used = h.used;
        all = h.all;
        placed = h.placed;
        waits = λ z. absurd (true→T (sym z ∙ settled-left (h.all l)));
      }

  -- this is the last part, and all of it is used
  pub heeds-end : {q : Phase} → OneLine line → r.used ≡ length part → CutShort r.phase (length line) q → Heeds phase n line part true (record { phase = q; used = r.used })
  heeds-end {q} o l s =
      let g : length part ≤ r.used = omega arith in
      let e : drop r.used part ++ [] ≡ [] = rw (drop_of_length-le part g) in
      record {
        same = λ ours rest z. rw (z refl, e) (rw e at (h.same ours []) ∙ s.same n line ours o refl);
        used = h.used;
        all = λ k. absurd (omega arith);
        placed = s.placed;
        waits = λ z. absurd (true→T (sym z ∙ s.settles));
      }

  -- what is left of theirs, where this is all of it
  pub rest-same : left_of phase n line [] part ≡ left_of r.phase n line [] (drop r.used part)
  rest-same = rw (append-nil part, append-nil (drop r.used part)) at (h.same [] [])

  pub rest_some : ltb r.used (length part) ≡ true → 0 < length (drop r.used part)
  rest_some t = rw length-drop (omega (arith, ltb-true r.used (length part) t))

  pub rest_none : ltb r.used (length part) ≡ false → drop r.used part ≡ []
  rest_none t = drop_of_length-le part (ltb-false r.used (length part) t)

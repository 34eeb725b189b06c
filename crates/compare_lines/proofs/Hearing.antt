-- A part of theirs against a line of ours: what is known where they part.
use mathlib.Core.Path.{◌≡◌, refl, sym, ap, ◌∙◌}
use mathlib.Core.Bool.{Bool, true, false}
use mathlib.Core.List.{List, [], ◌∷◌, ◌++◌, append_assoc, append-nil}
use Prim.Native.Nat.{ℕ, suc, ◌+◌, ◌-◌, ◌<◌, ◌≤◌}
use native.Mathlib.Decide.{ℕ_discrete}
use native.Mathlib.Omega.{arith}
use borrow.Author.Tests.{eqb-false, eq-eqb, ne_eqb}
use lib.Dec.{eqb}
use lib.ListN.{length, get_or, take, drop, length-append, length-drop, get_or-append}
use lib.Seq.{split_at, take_all, take-append-le, take-length, drop-cons, drop-length, get_or_at}
use Rattle.laws.specs.Choice.{pick}
use Rattle.text.specs.Script.{is_lf}
use Rattle.compare_lines.specs.Lines.{cut, differ_from}
use Rattle.compare_lines.specs.Left.{plain, OneLine, clash, spaced_from, spaced_of, blanks_in, left_of, Placed, Runs, Hears}
use Rattle.compare_lines.specs.declared.Compared.TheVariants.{Differs}
use Rattle.compare_lines.specs.declared.Phase.{Phase}
use Rattle.compare_lines.specs.declared.Phase.TheVariants.{Matching}
use Rattle.compare_lines.specs.declared.Form.{Form}
use Rattle.compare_lines.proofs.Cutting.{plain_first, plain_parts}
use Rattle.compare_lines.proofs.Parting.{Apart, apart_ended, apart_theirs, apart_other, named, differs_apart}

apart : (a : ℕ) (v : List ℕ) (c : ℕ) (r : List ℕ) → (a ≡ 10 → ⊥) → (a ≡ c → ⊥) → Dec (c ≡ 10) → Apart (a ∷ v) a c r
apart a v c r m ne (yes e) = apart_theirs a v c r m e
apart a v c r m ne (no n) = apart_other a v c r m n ne

module _ (n : ℕ) (body : List ℕ) (p : plain body ≡ true) (at c : ℕ) (r ours : List ℕ) where
  parts_within : at < length body → (get_or body at 0 ≡ c → ⊥) → differ_from n (cut (body ++ (10 ∷ ours))) (cut (take at body ++ (c ∷ r))) ≡ Differs n (named n (get_or body at 0) c (take at body) r)
  parts_within h ne =
      let s = sym (split_at body at 0 h) in
      let q : plain (take at body ++ (get_or body at 0 ∷ drop (suc at) body)) ≡ true = rw s p in
      let z = plain_first (get_or body at 0) (drop (suc at) body) (is_lf (get_or body at 0)) refl (plain_parts (take at body) (get_or body at 0 ∷ drop (suc at) body) q).1 in
      let x = apart (get_or body at 0) (drop (suc at) body) c r (eqb-false (get_or body at 0) 10 z.0) ne (ℕ_discrete c 10) in
      rw s at (differs_apart n (take at body) (get_or body at 0 ∷ drop (suc at) body) (get_or body at 0) c r ours q x)

  parts-end : at ≡ length body → (c ≡ 10 → ⊥) → differ_from n (cut (body ++ (10 ∷ ours))) (cut (take at body ++ (c ∷ r))) ≡ Differs n (named n 10 c (take at body) r)
  parts-end e ne =
      let q : plain (body ++ []) ≡ true = rw (append-nil body) p in
      rw (e, take-length body) (rw (append-nil body) at (differs_apart n body [] 10 c r ours q (apart_ended c r ne)))

module _ (n : ℕ) {line : List ℕ} (o : OneLine line) (at c : ℕ) (r ours : List ℕ) (h : at < length line) where
  size : length line ≡ length o.body + 1
  size = ap length o.ended ∙ length-append o.body (10 ∷ [])

  at-LF : at ≡ length o.body → get_or line at 0 ≡ 10
  at-LF e = rw o.ended (get_or_at o.body 10 [] 0 at (sym e))

  parts_by : (get_or line at 0 ≡ c → ⊥) → Dec (at ≡ length o.body) → differ_from n (cut (line ++ ours)) (cut (take at line ++ (c ∷ r))) ≡ Differs n (named n (get_or line at 0) c (take at line) r)
  parts_by ne (yes e) =
      let f : at ≤ length o.body = omega arith in
      let m : c ≡ 10 → ⊥ = λ z. ne (at-LF e ∙ sym z) in
      rw (at-LF e, o.ended, append_assoc o.body (10 ∷ []) ours, take-append-le at o.body (10 ∷ []) f) (parts-end n o.body o.alone at c r ours e m)
  parts_by ne (no d) =
      let f : at < length o.body = omega (arith, size) in
      let g : at ≤ length o.body = omega arith in
      let e : get_or line at 0 ≡ get_or o.body at 0 = rw o.ended (get_or-append o.body (10 ∷ []) 0 at f) in
      rw (e, o.ended, append_assoc o.body (10 ∷ []) ours, take-append-le at o.body (10 ∷ []) g) (parts_within n o.body o.alone at c r ours f (rw e at ne))

  pub parts : (get_or line at 0 ≡ c → ⊥) → differ_from n (cut (line ++ ours)) (cut (take at line ++ (c ∷ r))) ≡ Differs n (named n (get_or line at 0) c (take at line) r)
  parts ne = parts_by ne (ℕ_discrete at (length o.body))

-- their rest, as it goes on
rest_parts : (n : ℕ) {line : List ℕ} → OneLine line → (at : ℕ) → at < length line → (rest : List ℕ) → 0 < length rest → (get_or line at 0 ≡ get_or rest 0 0 → ⊥) → (ours more : List ℕ) → differ_from n (cut (line ++ ours)) (cut (take at line ++ (rest ++ more))) ≡ Differs n (pick (eqb n 1) 0 (pick (spaced_from 7 true (take at line ++ (rest ++ more))) (pick (clash (get_or line at 0) (get_or rest 0 0)) 0 (1 + blanks_in (take at line))) 0))
rest_parts n o at h [] k ne ours more = absurd (omega arith)
rest_parts n o at h (c ∷ r) k ne ours more = parts n o at c (r ++ more) ours h ne

pub pick_same : {A : Type 0} (t : Bool) (a : A) → pick t a a ≡ a
pick_same true a = refl
pick_same false a = refl

module _ (n : ℕ) {line : List ℕ} (o : OneLine line) (at : ℕ) (h : at < length line) (rest : List ℕ) (k : 0 < length rest) (ne : get_or line at 0 ≡ get_or rest 0 0 → ⊥) (ours more : List ℕ) where
  pub header-parts : n ≡ 1 → differ_from n (cut (line ++ ours)) (cut (take at line ++ (rest ++ more))) ≡ Differs n 0
  header-parts e =
      let t = eq-eqb n 1 e in rw t at (rest_parts n o at h rest k ne ours more)

  pub clash-parts : clash (get_or line at 0) (get_or rest 0 0) ≡ true → differ_from n (cut (line ++ ours)) (cut (take at line ++ (rest ++ more))) ≡ Differs n 0
  clash-parts e =
      rw (e, pick_same {A = ℕ} (spaced_from 7 true (take at line ++ (rest ++ more))) 0, pick_same {A = ℕ} (eqb n 1) 0) at (rest_parts n o at h rest k ne ours more)

  pub field-parts : (n ≡ 1 → ⊥) → clash (get_or line at 0) (get_or rest 0 0) ≡ false → differ_from n (cut (line ++ ours)) (cut (take at line ++ (rest ++ more))) ≡ Differs n (pick (spaced_from 7 true (take at line ++ (rest ++ more))) (1 + blanks_in (take at line)) 0)
  field-parts m e = rw (ne_eqb n 1 m, e) at (rest_parts n o at h rest k ne ours more)

  -- the field that differs, by the spacing of the line so far and of the rest
  pub judged-parts : (n ≡ 1 → ⊥) → clash (get_or line at 0) (get_or rest 0 0) ≡ false → (field : ℕ) (f g : Form) (r : Phase) → field ≡ 1 + blanks_in (take at line) → ((x : List ℕ) → spaced_from 7 true (take at line ++ x) ≡ spaced_of f x) → ((x : List ℕ) → spaced_of f (rest ++ x) ≡ spaced_of g x) → left_of r n line ours more ≡ Differs n (pick (spaced_of g more) field 0) → left_of (Matching at) n line ours (rest ++ more) ≡ left_of r n line ours more
  judged-parts m e field f g r q s t l =
      field-parts m e ∙ rw (l, q, s (rest ++ more), t more)

pub rest_of : (k : ℕ) (part : List ℕ) → take (length part - k) (drop k part) ≡ drop k part
rest_of k part = take_all (length part - k) (drop k part) (omega (arith, length-drop k part))

-- what is left of a part where it parts from ours
module _ {line part : List ℕ} {at k : ℕ} (g : Runs line at part k) (h : k < length part) where
  pub left-some : 0 < length (take (length part - k) (drop k part))
  left-some = rw (rest_of k part, length-drop k part) (omega arith)

  pub left-parted : at + k < length line → get_or line (at + k) 0 ≡ get_or (take (length part - k) (drop k part)) 0 0 → ⊥
  left-parted l e =
      let f : get_or (drop k part) 0 0 ≡ get_or part k 0 = rw (drop-cons part k 0 h) in
      g.parted l h (rw (rest_of k part, f) at e)

module _ {n : ℕ} {line part : List ℕ} where
  pub hears-run : {at k : ℕ} → Runs line at part k → (k < length part → at + k ≡ length line) → Hears (Matching at) n line part (record { phase = Matching (at + k); used = k })
  hears-run {at = at} {k = k} g w =
      record {
        same = λ ours rest. ap (λ (x : List ℕ). differ_from n (cut (line ++ ours)) (cut x)) (g.same rest);
        used = g.used;
        all = λ l. ap Matching (w l);
        placed = g.placed;
      }

  -- all of the part is used
  pub hears-all : {phase r : Phase} → ((ours rest : List ℕ) → left_of phase n line ours (part ++ rest) ≡ left_of r n line ours rest) → Placed r (length line) → Hears phase n line part (record { phase = r; used = length part })
  hears-all g p =
      record {
        same = λ ours rest. rw (drop-length part) (g ours rest);
        used = omega arith;
        all = λ l. absurd (omega arith);
        placed = p;
      }

  pub hears-apart : {at k : ℕ} {r : Phase} → Runs line at part k → ((ours more : List ℕ) → left_of (Matching (at + k)) n line ours (take (length part - k) (drop k part) ++ more) ≡ left_of r n line ours more) → Placed r (length line) → Hears (Matching at) n line part (record { phase = r; used = length part })
  hears-apart {at = at} {k = k} {r = r} g f p =
      hears-all {phase = Matching at} {r = r} (λ ours rest. ap (λ (x : List ℕ). differ_from n (cut (line ++ ours)) (cut x)) (g.same rest) ∙ (rw (rest_of k part) at (f ours rest))) p

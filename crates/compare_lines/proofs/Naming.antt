-- Two listings are the same exactly where `Same` is answered, and what is named differs.
use mathlib.Core.Path.{◌≡◌, refl, sym, ap, ◌∙◌}
use mathlib.Core.Bool.{Bool, true, false}
use mathlib.Core.List.{List, [], ◌∷◌, ◌++◌}
use Prim.Native.Nat.{ℕ, zero, suc, ◌+◌, ◌<◌}
use native.Mathlib.Omega.{arith}
use borrow.Author.Tests.{eqb-true, eq-eqb, ne_eqb}
use lib.Dec.{eqb}
use lib.ListN.{length, get_or, take}
use Rattle.laws.specs.Choice.{pick, both}
use Rattle.laws.proofs.Computed.{true→T}
use Rattle.text.specs.Script.{is_lf, on_first}
use Rattle.text.specs.Same.{same_text}
use Rattle.compare_lines.specs.Lines.{Line, on_line, cut, is_blank, parts_of, full, full_parts, spaced, same_end, same_line, field_from, field_of, differ_from, difference_of}
use Rattle.compare_lines.specs.Named.{FieldNamed, LineNamed, Named, DifferenceTells}
use Rattle.compare_lines.specs.declared.Compared.TheVariants.{Same, Differs}
use Rattle.compare_lines.proofs.Ending.{same_text_lem}

-- lines put together again
abbrev together : List Line → List ℕ
together [] = []
together (l ∷ ls) = l.text ++ (pick l.ended (10 ∷ []) [] ++ together ls)

on_line_lem : (c : ℕ) (ls : List Line) → together (on_line c ls) ≡ c ∷ together ls
on_line_lem c [] = refl
on_line_lem c (l ∷ ls) = refl

together_by : (c : ℕ) (cs : List ℕ) (t : Bool) → is_lf c ≡ t → together (cut cs) ≡ cs → together (cut (c ∷ cs)) ≡ c ∷ cs
together_by c cs true e g = rw (e, g) (ap (λ (x : ℕ). x ∷ cs) (sym (eqb-true c 10 e)))
together_by c cs false e g = rw (e, on_line_lem c (cut cs), g)

together_cut : (text : List ℕ) → together (cut text) ≡ text
together_cut [] = refl
together_cut (c ∷ cs) = together_by c cs (is_lf c) refl (together_cut cs)

both_true : (a b : Bool) → both a b ≡ true → (a ≡ true) × (b ≡ true)
both_true true b e = (refl, e)
both_true false b e = absurd (true→T e)

texts_equal : (s t : List ℕ) → same_text s t ≡ true → s ≡ t
texts_equal [] [] e = refl
texts_equal [] (d ∷ t) e = absurd (true→T e)
texts_equal (c ∷ s) [] e = absurd (true→T e)
texts_equal (c ∷ s) (d ∷ t) e =
    let b = both_true (eqb c d) (same_text s t) e in
    rw (eqb-true c d b.0, texts_equal s t b.1)

ends_equal : (a b : Bool) → same_end a b ≡ true → a ≡ b
ends_equal true b e = sym e
ends_equal false true e = absurd (true→T e)
ends_equal false false e = refl

line_by : {s t : List ℕ} {a b : Bool} → s ≡ t → a ≡ b → ◌≡◌ {A = Line} (record { text = s; ended = a }) (record { text = t; ended = b })
line_by e f = rw (e, f)

lines_equal : (o t : Line) → same_line o t ≡ true → o ≡ t
lines_equal o t e =
    let b = both_true (same_end o.ended t.ended) (same_text o.text t.text) e in
    line_by (texts_equal o.text t.text b.1) (ends_equal o.ended t.ended b.0)

same_end_lem : (b : Bool) → same_end b b ≡ true
same_end_lem true = refl
same_end_lem false = refl

same_line_lem : (l : Line) → same_line l l ≡ true
same_line_lem l = rw (same_end_lem l.ended, same_text_lem l.text)

all_same : (n : ℕ) (ls : List Line) → differ_from n ls ls ≡ Same
all_same n [] = refl
all_same n (l ∷ ls) = rw (same_line_lem l) (all_same (n + 1) ls)

never : {n f : ℕ} → Differs n f ≡ Same → ⊥
never e = let z : ◌≡◌ {A = ℕ} 0 1 = cc in omega arith

-- what is named among parts, counted from m
record PartNamed (m : ℕ) (ps qs : List (List ℕ)) (f : ℕ) : Type 0 where
  pub before : ℕ
  pub field : f ≡ m + before
  pub same : take before ps ≡ take before qs
  pub within : before < length qs
  pub differs : get_or ps before [] ≡ get_or qs before [] → ⊥

part_by : (m : ℕ) (p q : List ℕ) (ps qs : List (List ℕ)) (t : Bool) → same_text p q ≡ t → ((f : ℕ) → 0 < f → field_from (m + 1) ps qs ≡ f → PartNamed (m + 1) ps qs f) → (f : ℕ) → 0 < f → field_from m (p ∷ ps) (q ∷ qs) ≡ f → PartNamed m (p ∷ ps) (q ∷ qs) f
part_by m p q ps qs true e g f h r =
    let k = g f h (rw e at r) in
    record {
      before = suc k.before;
      field = omega (arith, k.field);
      same = rw (texts_equal p q e, k.same);
      within = omega (arith, k.within);
      differs = k.differs;
    }
part_by m p q ps qs false e g f h r =
    record {
      before = zero;
      field = sym (rw e at r) ∙ omega arith;
      same = refl;
      within = omega arith;
      differs = λ z. true→T (sym e ∙ (ap (λ (x : List ℕ). same_text p x) (sym z) ∙ same_text_lem p));
    }

part_named : (ps qs : List (List ℕ)) (m f : ℕ) → 0 < f → field_from m ps qs ≡ f → PartNamed m ps qs f
part_named [] qs m f h r = absurd (omega arith)
part_named (p ∷ ps) [] m f h r = absurd (omega arith)
part_named (p ∷ ps) (q ∷ qs) m f h r =
    part_by m p q ps qs (same_text p q) refl (λ g k s. part_named ps qs (m + 1) g k s) f h r

-- so many parts
full_count : (n : ℕ) (ps : List (List ℕ)) → full_parts n ps ≡ true → length ps ≡ n
full_count zero [] e = refl
full_count zero (p ∷ ps) e = absurd (true→T e)
full_count (suc n) [] e = absurd (true→T e)
full_count (suc n) (p ∷ ps) e = ap suc (full_count n ps (both_true (full p) (full_parts n ps) e).1)

field_by : (n : ℕ) (o t : Line) (u s : Bool) → eqb n 1 ≡ u → spaced t ≡ s → (f : ℕ) → field_of n o t ≡ f → 0 < f → FieldNamed o t f
field_by n o t true s d e f r h = let z : 0 ≡ f = rw d at r in absurd (omega arith)
field_by n o t false false d e f r h = let z : 0 ≡ f = rw (d, e) at r in absurd (omega arith)
field_by n o t false true d e f r h =
    let k = part_named (parts_of o.text) (parts_of t.text) 1 f h (rw (d, e) at r) in
    let l = full_count 8 (parts_of t.text) (both_true t.ended (full_parts 8 (parts_of t.text)) e).1 in
    record {
      spacing = e;
      before = k.before;
      field = k.field;
      same = k.same;
      within = omega (arith, k.within, l);
      differs = k.differs;
    }

-- the blanks back between the parts, and one before them
abbrev blanked : List (List ℕ) → List ℕ
blanked [] = []
blanked (p ∷ ps) = 32 ∷ (p ++ blanked ps)

blanked_on : (c : ℕ) (ps : List (List ℕ)) (cs : List ℕ) → blanked ps ≡ 32 ∷ cs → blanked (on_first c ps) ≡ 32 ∷ (c ∷ cs)
blanked_on c [] cs e = let z : ◌≡◌ {A = ℕ} 0 1 = cc in absurd (omega arith)
blanked_on c (p ∷ ps) cs e = let z : p ++ blanked ps ≡ cs = cc in rw z

blanked_by : (c : ℕ) (cs : List ℕ) (t : Bool) → is_blank c ≡ t → blanked (parts_of cs) ≡ 32 ∷ cs → blanked (parts_of (c ∷ cs)) ≡ 32 ∷ (c ∷ cs)
blanked_by c cs true e g = rw (e, g) (ap (λ (x : ℕ). 32 ∷ (x ∷ cs)) (sym (eqb-true c 32 e)))
blanked_by c cs false e g = rw e (blanked_on c (parts_of cs) cs g)

blanked_parts : (cs : List ℕ) → blanked (parts_of cs) ≡ 32 ∷ cs
blanked_parts [] = refl
blanked_parts (c ∷ cs) = blanked_by c cs (is_blank c) refl (blanked_parts cs)

-- so the parts tell the text
parts_tell : (s t : List ℕ) → parts_of s ≡ parts_of t → s ≡ t
parts_tell s t e = let z : 32 ∷ s ≡ 32 ∷ t = sym (blanked_parts s) ∙ (ap blanked e ∙ blanked_parts t) in cc

-- of as many parts none differs
parts_by : (m : ℕ) (p q : List ℕ) (ps qs : List (List ℕ)) (t : Bool) → same_text p q ≡ t → 0 < m → (field_from (m + 1) ps qs ≡ 0 → ps ≡ qs) → field_from m (p ∷ ps) (q ∷ qs) ≡ 0 → p ∷ ps ≡ q ∷ qs
parts_by m p q ps qs true e h g r = rw (texts_equal p q e, g (rw e at r))
parts_by m p q ps qs false e h g r = let z : m ≡ 0 = rw e at r in absurd (omega arith)

parts_equal : (ps qs : List (List ℕ)) (m : ℕ) → 0 < m → length ps ≡ length qs → field_from m ps qs ≡ 0 → ps ≡ qs
parts_equal [] [] m h l r = refl
parts_equal [] (q ∷ qs) m h l r = absurd (omega (arith, l))
parts_equal (p ∷ ps) [] m h l r = absurd (omega (arith, l))
parts_equal (p ∷ ps) (q ∷ qs) m h l r = parts_by m p q ps qs (same_text p q) refl h (λ z. parts_equal ps qs (m + 1) (omega arith) (omega (arith, l)) z) r

-- two lines that are spaced so and differ, differ in a field
some_field : (n : ℕ) (o t : Line) → (o ≡ t → ⊥) → spaced o ≡ true → spaced t ≡ true → (n ≡ 1 → ⊥) → field_of n o t ≡ 0 → ⊥
some_field n o t differ a b c r =
    let x = both_true o.ended (full_parts 8 (parts_of o.text)) a in
    let y = both_true t.ended (full_parts 8 (parts_of t.text)) b in
    let l : length (parts_of o.text) ≡ length (parts_of t.text) = full_count 8 (parts_of o.text) x.1 ∙ sym (full_count 8 (parts_of t.text) y.1) in
    let z : field_from 1 (parts_of o.text) (parts_of t.text) ≡ 0 = rw (ne_eqb n 1 c, b) at r in
    differ (line_by (parts_tell o.text t.text (parts_equal (parts_of o.text) (parts_of t.text) 1 (omega arith) l z)) (x.0 ∙ sym y.0))

cons_by : {o t : Line} {os ts : List Line} → o ≡ t → os ≡ ts → o ∷ os ≡ t ∷ ts
cons_by e f = rw (e, f)

above : (f : ℕ) → (f ≡ 0 → ⊥) → 0 < f
above zero n = absurd (n refl)
above (suc f) n = omega arith

-- where two lines differ
named_by : (m : ℕ) (o t : Line) (os ts : List Line) (u : Bool) → same_line o t ≡ u → ((n f : ℕ) → differ_from (m + 1) os ts ≡ Differs n f → LineNamed (m + 1) os ts n f) → (n f : ℕ) → differ_from m (o ∷ os) (t ∷ ts) ≡ Differs n f → LineNamed m (o ∷ os) (t ∷ ts) n f
named_by m o t os ts true e g n f r =
    let k = g n f (rw e at r) in
    record {
      before = suc k.before;
      line = omega (arith, k.line);
      same = cons_by (lines_equal o t e) k.same;
      differs = k.differs;
    }
named_by m o t os ts false e g n f r =
    let d : Differs m (field_of m o t) ≡ Differs n f = rw e at r in
    let a : m ≡ n = cc in
    let b : field_of m o t ≡ f = cc in
    let differ : o ≡ t → ⊥ = λ z. true→T (sym e ∙ (ap (λ (x : Line). same_line o x) (sym z) ∙ same_line_lem o)) in
    record {
      before = zero;
      line = omega arith;
      same = refl;
      differs = (
        differ,
        λ z. let y = eq-eqb m 1 (a ∙ z) in sym (rw y at b),
        λ h. field_by m o t (eqb m 1) (spaced t) refl refl f b h,
        λ x y c. above f (λ z. some_field m o t differ x y (λ k. c (sym a ∙ k)) (b ∙ z)),
      );
    }

line_named : (os ts : List Line) (m n f : ℕ) → differ_from m os ts ≡ Differs n f → LineNamed m os ts n f
line_named [] [] m n f r = absurd (never (sym r))
line_named [] (t ∷ ts) m n f r =
    let a : m ≡ n = cc in
    let b : 0 ≡ f = cc in
    record { before = zero; line = omega arith; same = refl; differs = sym b }
line_named (o ∷ os) [] m n f r =
    let a : m ≡ n = cc in
    let b : 0 ≡ f = cc in
    record { before = zero; line = omega arith; same = refl; differs = sym b }
line_named (o ∷ os) (t ∷ ts) m n f r =
    named_by m o t os ts (same_line o t) refl (λ j k q. line_named os ts (m + 1) j k q) n f r

equal_by : (m : ℕ) (o t : Line) (os ts : List Line) (u : Bool) → same_line o t ≡ u → (differ_from (m + 1) os ts ≡ Same → os ≡ ts) → differ_from m (o ∷ os) (t ∷ ts) ≡ Same → o ∷ os ≡ t ∷ ts
equal_by m o t os ts true e g r = cons_by (lines_equal o t e) (g (rw e at r))
equal_by m o t os ts false e g r = absurd (never (rw e at r))

all_equal : (os ts : List Line) (m : ℕ) → differ_from m os ts ≡ Same → os ≡ ts
all_equal [] [] m r = refl
all_equal [] (t ∷ ts) m r = absurd (never r)
all_equal (o ∷ os) [] m r = absurd (never r)
all_equal (o ∷ os) (t ∷ ts) m r =
    equal_by m o t os ts (same_line o t) refl (λ q. all_equal os ts (m + 1) q) r

-- "accept exactly the listing our runner would print"
same_only : (ours theirs : List ℕ) → difference_of ours theirs ≡ Same → ours ≡ theirs
unfolding difference_of
same_only ours theirs r =
    sym (together_cut ours) ∙ (ap together (all_equal (cut ours) (cut theirs) 1 r) ∙ together_cut theirs)

same_if : (ours theirs : List ℕ) → ours ≡ theirs → difference_of ours theirs ≡ Same
unfolding difference_of
same_if ours theirs e = rw e (all_same 1 (cut theirs))

-- "and otherwise name the first line and field that differs"
named_differs : (ours theirs : List ℕ) (n f : ℕ) → difference_of ours theirs ≡ Differs n f → Named ours theirs n f
unfolding difference_of
named_differs ours theirs n f r = line_named (cut ours) (cut theirs) 1 n f r

pub difference_tells : DifferenceTells
difference_tells ours theirs = record { same_only = same_only ours theirs; same_if = same_if ours theirs; names = named_differs ours theirs }

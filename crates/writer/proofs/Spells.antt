-- Whatever code reads as an instruction is the one that the instruction spells.
use mathlib.Core.Path.{◌≡◌, refl, sym, ap, subst⁻¹, ◌∙◌}
use mathlib.Core.Bool.{Bool, true, false, not}
use mathlib.Core.List.{List, [], ◌∷◌}
use mathlib.Core.Logic.{inl, inr, ⊎_elim}
use Prim.Native.Nat.{ℕ, zero, suc, ◌+◌, ◌*◌, ◌/◌, ◌%◌, ◌<◌, ◌≤◌}
use native.Mathlib.Omega.{arith}
use native.Mathlib.Nat.{add-zero, add-suc, suc-add}
use native.Mathlib.Numerals.{one-add}
use lib.ListN.{take, drop}
use lib.Dec.{T, T_not, eqb, eqb→eq}
use borrow.Author.Tests.{lt-ltb, le-ltb}
use Rattle.std.specs.Prelude.{Ok}
use Rattle.laws.specs.Choice.{pick}
use Rattle.laws.proofs.Computed.{both_left, both_right}
use Rattle.sheet.specs.Code.{Group, #, all, fixed1, fixed2, fixed3, above2, has_digit, fits}
use Rattle.sheet.specs.Table.{Code, Line, lines, line_at}
use Rattle.sheet.specs.Reading.{insn, with_operands, code_of, row_number, row_with, read_digits, bytes_of}
use Rattle.sheet.specs.declared.Insn.{Insn}
use Rattle.sheet.proofs.Winning.{At, here, there, line_at_lem, Fitting, winner_is}
use Rattle.sheet.proofs.ReadAs.{row_of, row_with_lem}
use Rattle.writer.specs.Spelling.{spelling}

-- that a digit fits a group, as an equation
abbrev Digit : Group → ℕ → Type 0
Digit (# v) d = d ≡ v
Digit (all l) d = Unit
Digit (fixed1 v l) d = d / 8 ≡ v
Digit (fixed2 v l) d = d / 4 ≡ v
Digit (fixed3 v l) d = d / 2 ≡ v
Digit (above2 l v) d = d % 4 ≡ v

abbrev Digits : List Group → List ℕ → Type 0
Digits [] ds = Unit
Digits (g ∷ gs) [] = ⊥
Digits (g ∷ gs) (d ∷ ds) = Digit g d × Digits gs ds

digit : (g : Group) (d : ℕ) → T (has_digit g d) → Digit g d
digit (# v) d t = eqb→eq d v t
digit (all l) d t = tt
digit (fixed1 v l) d t = eqb→eq (d / 8) v t
digit (fixed2 v l) d t = eqb→eq (d / 4) v t
digit (fixed3 v l) d t = eqb→eq (d / 2) v t
digit (above2 l v) d t = eqb→eq (d % 4) v t

pub digits_fit : (gs : List Group) (ds : List ℕ) → T (fits gs ds) → Digits gs ds
digits_fit [] ds t = tt
digits_fit (g ∷ gs) [] t = t
digits_fit (g ∷ gs) (d ∷ ds) t =
    (digit g d (both_left (has_digit g d) (fits gs ds) t), digits_fit gs ds (both_right (has_digit g d) (fits gs ds) t))

-- the number of six digits of which the first 2n are given and the others are 0
abbrev pub number_of : ℕ → ℕ → ℕ → ℕ → ℕ → ℕ → ℕ → ℕ
number_of n a b c d e f =
    pick (eqb n 1) ((a * 16 + b) * 65536)
    (pick (eqb n 2) ((((a * 16 + b) * 16 + c) * 16 + d) * 256) (((((a * 16 + b) * 16 + c) * 16 + d) * 16 + e) * 16 + f))

far_upper : (x : ℕ) → 4095 < x → spelling (insn 49 x 0) ≡ 0x55B000 + x
unfolding spelling
far_upper x h = rw (lt-ltb 4095 x h)

far_lower : (x : ℕ) → x ≤ 4095 → spelling (insn 49 x 0) ≡ 0x57C000 + x
unfolding spelling
far_lower x h = rw (le-ltb 4095 x h)

abbrev later : ℕ → ℕ → ℕ
later zero n = n
later (suc m) n = later m (suc n)

module _ (a b c d e f : ℕ) (ha : a < 16) (hb : b < 16) (hc : c < 16) (hd : d < 16) (he : e < 16) (hf : f < 16) where
  abbrev ds : List ℕ
  ds = a ∷ b ∷ c ∷ d ∷ e ∷ f ∷ []

  abbrev SpellsCode : ℕ → ℕ → Code → Type 0
  SpellsCode n bytes k = Digits k.groups ds → spelling (with_operands n k ds) ≡ number_of bytes a b c d e f

  abbrev SpellsCodes : ℕ → ℕ → List Code → Type 0
  SpellsCodes n bytes [] = Unit
  SpellsCodes n bytes (k ∷ ks) = SpellsCode n bytes k × SpellsCodes n bytes ks

  abbrev SpellsFrom : ℕ → List Line → Type 0
  SpellsFrom n [] = Unit
  SpellsFrom n (l ∷ ls) = SpellsCodes n l.bytes l.codes × SpellsFrom (suc n) ls

  split : (m n : ℕ) (ls : List Line) → SpellsFrom n (take m ls) → SpellsFrom (later m n) (drop m ls) → SpellsFrom n ls
  split zero n ls p q = q
  split (suc m) n [] p q = tt
  split (suc m) n (l ∷ ls) p q = (p.0, split m (suc n) ls p.1 q)

  -- SLBR, row 49
  far : SpellsFrom 49 (take 1 (drop 48 lines))
  unfolding lines
  far = (((λ g. omega (arith, far_upper (((1 * 16 + d) * 16 + e) * 16 + f) (omega arith))), ((λ g. omega (arith, far_lower (((0 * 16 + d) * 16 + e) * 16 + f) (omega arith))), tt)), tt)

  -- the other rows, some ten at a time
  every : SpellsFrom 1 lines
  unfolding lines spelling
  every =
      split 10 1 (drop 0 lines) (omega arith)
      (split 10 11 (drop 10 lines) (omega arith)
      (split 10 21 (drop 20 lines) (omega arith)
      (split 10 31 (drop 30 lines) (omega arith)
      (split 8 41 (drop 40 lines) (omega arith)
      (split 1 49 (drop 48 lines) far
      (split 10 50 (drop 49 lines) (omega arith)
      (split 10 60 (drop 59 lines) (omega arith)
      (split 10 70 (drop 69 lines) (omega arith)
      (split 10 80 (drop 79 lines) (omega arith)
      (split 10 90 (drop 89 lines) (omega arith)
      (omega arith)))))))))))

  spells_at : (n : ℕ) {ls : List Line} {j : ℕ} {l : Line} → At ls j l → SpellsFrom n ls → SpellsCodes (n + j) l.bytes l.codes
  spells_at n {l = l} here p = subst⁻¹ (λ (m : ℕ). SpellsCodes m l.bytes l.codes) (add-zero n) p.0
  spells_at n {l = l} (there {j = j} q) p =
      subst⁻¹ (λ (m : ℕ). SpellsCodes m l.bytes l.codes) (add-suc n j ∙ sym (suc-add n j)) (spells_at (suc n) q p.1)

  spells-by : (n bytes : ℕ) (t : Bool) (k m : Code) → (T t → spelling (with_operands n k ds) ≡ number_of bytes a b c d e f) → (T (not t) → spelling (with_operands n m ds) ≡ number_of bytes a b c d e f) → spelling (with_operands n (pick t k m) ds) ≡ number_of bytes a b c d e f
  spells-by n bytes true k m p q = p tt
  spells-by n bytes false k m p q = q tt

  -- the one of a row's codes that the digits fit
  spells-chosen : (n bytes : ℕ) (ks : List Code) → SpellsCodes n bytes ks → Fitting ks ds → spelling (with_operands n (code_of ks ds) ds) ≡ number_of bytes a b c d e f
  spells-chosen n bytes [] p g = absurd g
  spells-chosen n bytes (k ∷ []) p (inl t) = p.0 (digits_fit k.groups ds t)
  spells-chosen n bytes (k ∷ []) p (inr g) = absurd g
  spells-chosen n bytes (k ∷ m ∷ ks) p g =
      spells-by n bytes (fits k.groups ds) k (code_of (m ∷ ks) ds) (λ t. p.0 (digits_fit k.groups ds t))
      (λ t. spells-chosen n bytes (m ∷ ks) p.1 (⊎_elim (λ h. absurd (T_not (fits k.groups ds) t h)) (λ h. h) g))

  spells-line : (i : Insn) (j : ℕ) (l : Line) → At lines j l → Fitting l.codes ds → row_with (1 + j) ds ≡ Ok i → spelling i ≡ number_of (bytes_of (1 + j)) a b c d e f
  spells-line i j l p g reads =
      let q : line_at (1 + j) ≡ l = ap line_at (one-add j) ∙ line_at_lem p in
      let w : i ≡ with_operands (1 + j) (code_of l.codes ds) ds = (row_with_lem (1 + j) ds i reads).insn ∙ ap (λ (x : Line). with_operands (1 + j) (code_of x.codes ds) ds) q in
      ap spelling w ∙ (spells-chosen (1 + j) l.bytes l.codes (spells_at 1 p every) g ∙ ap (λ (x : Line). number_of x.bytes a b c d e f) (sym q))

  spells-number : (i : Insn) → read_digits ds ≡ Ok i → spelling i ≡ number_of (bytes_of (row_number ds)) a b c d e f
  unfolding row_number
  spells-number i =
      winner_is (λ (m : ℕ). row_with m ds ≡ Ok i → spelling i ≡ number_of (bytes_of m) a b c d e f) ds lines 1
      (λ reads. absurd ((row_with_lem 0 ds i reads).row refl)) (spells-line i)

  pub spells : (i : Insn) → read_digits ds ≡ Ok i → spelling i ≡ number_of (bytes_of i.row) a b c d e f
  spells i reads = spells-number i reads ∙ ap (λ (m : ℕ). number_of (bytes_of m) a b c d e f) (sym (row_of ds i reads))

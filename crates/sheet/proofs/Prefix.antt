-- What is read does not depend on bytes past the row's length.
use mathlib.Core.Path.{◌≡◌, refl, sym, ap, subst, subst⁻¹, ◌∙◌}
use mathlib.Core.Bool.{Bool, true, false, not}
use mathlib.Core.Logic.{◌⊎◌, inl, inr, ⊎_elim}
use mathlib.Core.List.{List, [], ◌∷◌}
use Prim.Native.String.{String}
use Prim.Native.Nat.{ℕ, zero, suc, ◌+◌, ◌≤◌}
use native.Mathlib.Omega.{arith}
use native.Mathlib.Numerals.{one-add}
use lib.Dec.{T, T_not, eqb, eqb→eq, ltb}
use lib.ListN.{take, length}
use Rattle.laws.specs.Choice.{pick, both}
use Rattle.laws.proofs.Computed.{implies, modus, both_left, both_right}
use Rattle.sheet.specs.Code.{Group, has_digit, fits, fixed_bits, Operand, absent, value_of, gives, operand_from}
use Rattle.sheet.specs.Table.{Code, Line, lines, line_at}
use Rattle.sheet.specs.Reading.{bits_fixed_if_fits, over, Winner, winner, code_of, insn, assigned, row_number, row_with, read_digits, begins}
use Rattle.std.specs.Prelude.{Ok, Err}
use Rattle.sheet.specs.declared.NoRow.{NoRow}
use Rattle.sheet.proofs.Winning.{At, here, there, line_at_lem, Fitting, winner_is}
use Rattle.sheet.proofs.FirstBytes.{begins_of}

-- groups look at as many digits as they are
pub fits_take : (gs : List Group) (ds : List ℕ) → fits gs ds ≡ fits gs (take (length gs) ds)
fits_take [] ds = refl
fits_take (g ∷ gs) [] = refl
fits_take (g ∷ gs) (d ∷ ds) = ap (both (has_digit g d)) (fits_take gs ds)

fits_length : (gs : List Group) (ds : List ℕ) → T (fits gs ds) → length gs ≤ length ds
fits_length [] ds t = omega arith
fits_length (g ∷ gs) [] t = absurd t
fits_length (g ∷ gs) (d ∷ ds) t = let h : length gs ≤ length ds = fits_length gs ds (both_right (has_digit g d) (fits gs ds) t) in omega arith

pub operand_take : (o : Operand) (ls : String) (gs : List Group) (ds : List ℕ) → operand_from o ls gs ds ≡ operand_from o ls gs (take (length gs) ds)
operand_take o ls [] ds = refl
operand_take o ls (g ∷ gs) [] = refl
operand_take o ls (g ∷ gs) (d ∷ ds) = operand_take (gives ls g d o) ls gs ds

begins_none : (gs : List Group) → T (begins gs [])
begins_none [] = tt
begins_none (g ∷ gs) = tt

no_start : (a b c x y : Bool) → T c → both a (both b c) ≡ false → both a (both b x) ≡ both a (both b y)
no_start true true true x y t e = absurd (subst T e tt)
no_start true true false x y t e = absurd t
no_start true false c x y t e = refl
no_start false b c x y t e = refl

not_zero : (n : ℕ) → suc n ≡ 0 → ⊥
not_zero n e = omega arith

-- each code that begins with the digits h and l has m groups
abbrev pub wide_codes : List Code → ℕ → ℕ → ℕ → Bool
wide_codes [] h l m = true
wide_codes (c ∷ cs) h l m = both (implies (begins c.groups (h ∷ l ∷ [])) (eqb (length c.groups) m)) (wide_codes cs h l m)

abbrev pub wide : List Line → ℕ → ℕ → ℕ → Bool
wide [] h l m = true
wide (r ∷ rs) h l m = both (wide_codes r.codes h l m) (wide rs h l m)

wide_at : (h l m : ℕ) {ls : List Line} {j : ℕ} {r : Line} → At ls j r → T (wide ls h l m) → T (wide_codes r.codes h l m)
wide_at h l m {r = r} (here {ls = ls}) t = both_left (wide_codes r.codes h l m) (wide ls h l m) t
wide_at h l m (there {m = s} {ls = ls} p) t = wide_at h l m p (both_right (wide_codes s.codes h l m) (wide ls h l m) t)

module _ (h l m : ℕ) (xs ys : List ℕ) (same : take m (h ∷ l ∷ xs) ≡ take m (h ∷ l ∷ ys)) where
  abbrev ds : List ℕ
  ds = h ∷ l ∷ xs

  abbrev es : List ℕ
  es = h ∷ l ∷ ys

  -- groups that do not begin with h and l fit neither; those that do are as many as the digits that agree
  fits_by : (gs : List Group) (t : Bool) → begins gs (h ∷ l ∷ []) ≡ t → (T t → length gs ≡ m) → fits gs ds ≡ fits gs es
  fits_by [] t e w = refl
  fits_by (g ∷ []) t e w = refl
  fits_by (g ∷ k ∷ gs) false e w = no_start (has_digit g h) (has_digit k l) (begins gs []) (fits gs xs) (fits gs ys) (begins_none gs) e
  fits_by (g ∷ k ∷ gs) true e w =
      fits_take (g ∷ k ∷ gs) ds ∙ (ap (λ (n : ℕ). fits (g ∷ k ∷ gs) (take n ds)) (w tt) ∙ (ap (fits (g ∷ k ∷ gs)) same ∙ (ap (λ (n : ℕ). fits (g ∷ k ∷ gs) (take n es)) (sym (w tt)) ∙ sym (fits_take (g ∷ k ∷ gs) es))))

  same-fits : (c : Code) → T (implies (begins c.groups (h ∷ l ∷ [])) (eqb (length c.groups) m)) → fits c.groups ds ≡ fits c.groups es
  same-fits c t = fits_by c.groups (begins c.groups (h ∷ l ∷ [])) refl (λ b. eqb→eq (length c.groups) m (modus (begins c.groups (h ∷ l ∷ [])) (eqb (length c.groups) m) t b))

  same-claim : (cs : List Code) → T (wide_codes cs h l m) → bits_fixed_if_fits cs ds ≡ bits_fixed_if_fits cs es
  same-claim [] t = refl
  same-claim (c ∷ cs) t =
      let f = same-fits c (both_left (implies (begins c.groups (h ∷ l ∷ [])) (eqb (length c.groups) m)) (wide_codes cs h l m) t) in
      let g = same-claim cs (both_right (implies (begins c.groups (h ∷ l ∷ [])) (eqb (length c.groups) m)) (wide_codes cs h l m) t) in
      (λ i. pick (f i) (fixed_bits c.groups) (g i))

  same_code : (cs : List Code) → T (wide_codes cs h l m) → code_of cs ds ≡ code_of cs es
  same_code [] t = refl
  same_code (c ∷ []) t = refl
  same_code (c ∷ d ∷ cs) t =
      let f = same-fits c (both_left (implies (begins c.groups (h ∷ l ∷ [])) (eqb (length c.groups) m)) (wide_codes (d ∷ cs) h l m) t) in
      let g = same_code (d ∷ cs) (both_right (implies (begins c.groups (h ∷ l ∷ [])) (eqb (length c.groups) m)) (wide_codes (d ∷ cs) h l m) t) in
      (λ i. pick (f i) c (g i))

  same-winner : (ls : List Line) (n : ℕ) → T (wide ls h l m) → winner ls n ds ≡ winner ls n es
  same-winner [] n t = refl
  same-winner (r ∷ rs) n t =
      let f = same-claim r.codes (both_left (wide_codes r.codes h l m) (wide rs h l m) t) in
      let g = same-winner rs (suc n) (both_right (wide_codes r.codes h l m) (wide rs h l m) t) in
      (λ i. over n (f i) (g i))

  same_number : T (wide lines h l m) → row_number ds ≡ row_number es
  unfolding row_number
  same_number t = ap (λ (w : Winner). w.row) (same-winner lines 1 t)

  -- the code that was read has m groups
  width_of : (c : Code) → T (implies (begins c.groups (h ∷ l ∷ [])) (eqb (length c.groups) m)) → T (fits c.groups ds) → length c.groups ≡ m
  width_of c t f = eqb→eq (length c.groups) m (modus (begins c.groups (h ∷ l ∷ [])) (eqb (length c.groups) m) t (begins_of c.groups (h ∷ l ∷ []) xs f))

  width-by : (t : Bool) (c d : Code) → (T t → length c.groups ≡ m) → (T (not t) → length d.groups ≡ m) → length (pick t c d).groups ≡ m
  width-by true c d p q = p tt
  width-by false c d p q = q tt

  chosen-width : (cs : List Code) → T (wide_codes cs h l m) → Fitting cs ds → length (code_of cs ds).groups ≡ m
  chosen-width [] t f = absurd f
  chosen-width (c ∷ []) t (inl f) = width_of c (both_left (implies (begins c.groups (h ∷ l ∷ [])) (eqb (length c.groups) m)) true t) f
  chosen-width (c ∷ []) t (inr f) = absurd f
  chosen-width (c ∷ d ∷ cs) t f =
      width-by (fits c.groups ds) c (code_of (d ∷ cs) ds)
      (width_of c (both_left (implies (begins c.groups (h ∷ l ∷ [])) (eqb (length c.groups) m)) (wide_codes (d ∷ cs) h l m) t))
      (λ n. chosen-width (d ∷ cs) (both_right (implies (begins c.groups (h ∷ l ∷ [])) (eqb (length c.groups) m)) (wide_codes (d ∷ cs) h l m) t) (⊎_elim (λ g. absurd (T_not (fits c.groups ds) n g)) (λ g. g) f))

  same_operand : (o : Operand) (ls : String) (gs : List Group) → length gs ≡ m → operand_from o ls gs ds ≡ operand_from o ls gs es
  same_operand o ls gs w =
      operand_take o ls gs ds ∙ (ap (λ (n : ℕ). operand_from o ls gs (take n ds)) w ∙ (ap (operand_from o ls gs) same ∙ (ap (λ (n : ℕ). operand_from o ls gs (take n es)) (sym w) ∙ sym (operand_take o ls gs es))))

  same-assigned : (n : ℕ) (c : Code) → length c.groups ≡ m → assigned n c ds ≡ assigned n c es
  same-assigned n c w =
      let x = same_operand absent "x" c.groups w in
      let a = same_operand c.lead "xkabrn" c.groups w in
      let b = same_operand absent "yp" c.groups w in
      (λ i. pick (ltb (value_of (x i)) 0xF4) (Ok (insn n (value_of (a i)) (value_of (b i)))) (Err NoRow.Unassigned))

  same_row : T (wide lines h l m) → (n : ℕ) → ((n ≡ 0) ⊎ Fitting (line_at n).codes ds) → T (wide_codes (line_at n).codes h l m) → row_with n ds ≡ row_with n es
  unfolding row_with
  same_row t zero f w = refl
  same_row t (suc n) f w = same-assigned (suc n) (code_of (line_at (suc n)).codes ds) (chosen-width (line_at (suc n)).codes w (⊎_elim (λ e. absurd (not_zero n e)) (λ g. g) f)) ∙ ap (λ (c : Code). assigned (suc n) c es) (same_code (line_at (suc n)).codes w)

  -- the row of the digits is none, or one that they fit
  pub record Fair (n : ℕ) : Type 0 where
    pub fitting : (n ≡ 0) ⊎ Fitting (line_at n).codes ds
    pub width : T (wide_codes (line_at n).codes h l m)

  fair-line : T (wide lines h l m) → (j : ℕ) (r : Line) → At lines j r → Fitting r.codes ds → Fair (1 + j)
  fair-line t j r p f =
      let q : line_at (1 + j) ≡ r = ap line_at (one-add j) ∙ line_at_lem p in
      record {
        fitting = inr (subst⁻¹ (λ (x : Line). Fitting x.codes ds) q f);
        width = subst⁻¹ (λ (x : Line). T (wide_codes x.codes h l m)) q (wide_at h l m p t);
      }

  fair-none : Fair 0
  unfolding line_at
  fair-none = record { fitting = inl refl; width = tt }

  fair : T (wide lines h l m) → Fair (row_number ds)
  unfolding row_number
  fair t = winner_is (λ (n : ℕ). Fair n) ds lines 1 fair-none (fair-line t)

  -- and has as many digits as its code groups
  fitting-wide : (cs : List Code) → T (wide_codes cs h l m) → Fitting cs ds → m ≤ length ds
  fitting-wide [] t f = absurd f
  fitting-wide (c ∷ cs) t (inl f) = rw (← width_of c (both_left (implies (begins c.groups (h ∷ l ∷ [])) (eqb (length c.groups) m)) (wide_codes cs h l m) t) f) (fits_length c.groups ds f)
  fitting-wide (c ∷ cs) t (inr f) = fitting-wide cs (both_right (implies (begins c.groups (h ∷ l ∷ [])) (eqb (length c.groups) m)) (wide_codes cs h l m) t) f

  pub row-wide : T (wide lines h l m) → (row_number ds ≡ 0 → ⊥) → m ≤ length ds
  row-wide t some = fitting-wide (line_at (row_number ds)).codes (fair t).width (⊎_elim (λ e. absurd (some e)) (λ f. f) (fair t).fitting)

  pub same_read : T (wide lines h l m) → read_digits ds ≡ read_digits es
  same_read t = same_row t (row_number ds) (fair t).fitting (fair t).width ∙ ap (λ (n : ℕ). row_with n es) (same_number t)

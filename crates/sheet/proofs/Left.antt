-- Bytes that are left before the end of an image: where they are enough they are read as any others, and where not they begin a row.
use mathlib.Core.Path.{◌≡◌, refl, sym, subst}
use mathlib.Core.Bool.{Bool, true, false, not}
use mathlib.Core.Logic.{◌⊎◌, inl, inr, ⊎_elim}
use mathlib.Core.List.{List, [], ◌∷◌, ◌++◌}
use Prim.Native.Nat.{ℕ, suc, ◌*◌, ◌/◌, ◌%◌, ◌<◌, ◌≤◌}
use native.Mathlib.Omega.{arith}
use native.Mathlib.Nat.{not-suc-le-zero, le_of_suc-le-suc}
use lib.Dec.{T, eqb, eqb→eq, ltb, ltb→lt, nltb→le}
use lib.ListN.{length}
use Rattle.laws.specs.Choice.{pick, both}
use Rattle.laws.proofs.Computed.{implies, modus, at, both_left, both_right, both_i}
use Rattle.sheet.specs.Code.{Group, has_digit, fits, fixed_bits, digits}
use Rattle.sheet.specs.Table.{Code, Line, lines}
use Rattle.sheet.specs.Reading.{bits_fixed_if_fits, Winner, winner, row_number, read_bytes, begins, begin_code, begin_row, begin_some, too_few, read_left}
use Rattle.sheet.proofs.Winning.{Fitting}
use Rattle.sheet.specs.Timing.{from}
use Rattle.sheet.proofs.Prefix.{wide_codes, wide}
use Rattle.sheet.proofs.Lengths.{all_wide, all_wide_lem, length_digits}

-- digits that are enough begin the groups only where they fit them
begins_fits : (gs : List Group) (ds : List ℕ) → length gs ≤ length ds → T (begins gs ds) → T (fits gs ds)
begins_fits [] ds h t = tt
begins_fits (g ∷ gs) [] h t = absurd (not-suc-le-zero h)
begins_fits (g ∷ gs) (d ∷ ds) h t =
    both_i (has_digit g d) (fits gs ds) (both_left (has_digit g d) (begins gs ds) t)
    (begins_fits gs ds (le_of_suc-le-suc h) (both_right (has_digit g d) (begins gs ds) t))

-- each code fixes a bit
abbrev fixes : List Code → Bool
fixes [] = true
fixes (c ∷ cs) = both (ltb 0 (fixed_bits c.groups)) (fixes cs)

abbrev fix : List Line → Bool
fix [] = true
fix (l ∷ ls) = both (fixes l.codes) (fix ls)

all_fix : T (fix lines)
unfolding lines
all_fix = tt

picked : (t : Bool) (n m : ℕ) → 0 < n → (T t ⊎ (0 < m)) → 0 < pick t n m
picked true n m h c = h
picked false n m h (inl t) = absurd t
picked false n m h (inr k) = k

bits_some : (cs : List Code) (ds : List ℕ) → T (fixes cs) → Fitting cs ds → 0 < bits_fixed_if_fits cs ds
bits_some [] ds t f = absurd f
bits_some (c ∷ cs) ds t (inl f) =
    picked (fits c.groups ds) (fixed_bits c.groups) (bits_fixed_if_fits cs ds)
    (ltb→lt 0 (fixed_bits c.groups) (both_left (ltb 0 (fixed_bits c.groups)) (fixes cs) t)) (inl f)
bits_some (c ∷ cs) ds t (inr f) =
    picked (fits c.groups ds) (fixed_bits c.groups) (bits_fixed_if_fits cs ds)
    (ltb→lt 0 (fixed_bits c.groups) (both_left (ltb 0 (fixed_bits c.groups)) (fixes cs) t))
    (inr (bits_some cs ds (both_right (ltb 0 (fixed_bits c.groups)) (fixes cs) t) f))

pub either_of : (a b : Bool) → T (pick a true b) → T a ⊎ T b
either_of true b t = inl tt
either_of false b t = inr t

over_by : (t : Bool) (n b : ℕ) (w : Winner) → ltb w.bits b ≡ t → ((0 < b) ⊎ (0 < w.bits)) → 0 < (pick t (record { row = n; bits = b }) w).bits
over_by true n b w e c = let h : w.bits < b = ltb→lt w.bits b (subst T (sym e) tt) in omega arith
over_by false n b w e (inl h) = let k : b ≤ w.bits = nltb→le w.bits b (subst (λ (t : Bool). T (not t)) (sym e) tt) in omega arith
over_by false n b w e (inr h) = h

over_row : (t : Bool) (n b : ℕ) (w : Winner) → (0 < w.bits → 0 < w.row) → 0 < (pick t (record { row = suc n; bits = b }) w).bits → 0 < (pick t (record { row = suc n; bits = b }) w).row
over_row true n b w f h = omega arith
over_row false n b w f h = f h

-- a row that fixes bits has a number
winner_row : (ls : List Line) (n : ℕ) (ds : List ℕ) → 0 < (winner ls (suc n) ds).bits → 0 < (winner ls (suc n) ds).row
winner_row [] n ds h = h
winner_row (l ∷ ls) n ds h = over_row (ltb (winner ls (suc (suc n)) ds).bits (bits_fixed_if_fits l.codes ds)) n (bits_fixed_if_fits l.codes ds) (winner ls (suc (suc n)) ds) (winner_row ls (suc n) ds) h

begins_first : (gs : List Group) (ds es : List ℕ) → T (begins gs (ds ++ es)) → T (begins gs ds)
begins_first [] ds es t = tt
begins_first (g ∷ gs) [] es t = tt
begins_first (g ∷ gs) (d ∷ ds) es t =
    both_i (has_digit g d) (begins gs ds) (both_left (has_digit g d) (begins gs (ds ++ es)) t)
    (begins_first gs ds es (both_right (has_digit g d) (begins gs (ds ++ es)) t))

both_not : (a b : Bool) → (T a → T b → ⊥) → both a b ≡ false
both_not true true f = absurd (f tt tt)
both_not true false f = refl
both_not false b f = refl

-- codes that begin with the digits h and l have m groups, and there are as many digits
module _ (h l m : ℕ) (xs : List ℕ) (enough : m ≤ length (h ∷ l ∷ xs)) where
  abbrev ds : List ℕ
  ds = h ∷ l ∷ xs

  begin-fitting : (cs : List Code) → T (wide_codes cs h l m) → T (begin_code cs ds) → Fitting cs ds
  begin-fitting [] w t = t
  begin-fitting (c ∷ cs) w t =
      ⊎_elim
      (λ b.
      let n : length c.groups ≡ m = eqb→eq (length c.groups) m (modus (begins c.groups (h ∷ l ∷ [])) (eqb (length c.groups) m) (both_left (implies (begins c.groups (h ∷ l ∷ [])) (eqb (length c.groups) m)) (wide_codes cs h l m) w) (begins_first c.groups (h ∷ l ∷ []) xs b)) in
      inl (begins_fits c.groups ds (rw n enough) b))
      (λ b. inr (begin-fitting cs (both_right (implies (begins c.groups (h ∷ l ∷ [])) (eqb (length c.groups) m)) (wide_codes cs h l m) w) b))
      (either_of (begins c.groups ds) (begin_code cs ds) t)

  some_bits : (ls : List Line) (n : ℕ) → T (fix ls) → T (wide ls h l m) → T (begin_row ls ds) → 0 < (winner ls n ds).bits
  some_bits [] n f w t = absurd t
  some_bits (r ∷ rs) n f w t =
      over_by (ltb (winner rs (suc n) ds).bits (bits_fixed_if_fits r.codes ds)) n (bits_fixed_if_fits r.codes ds) (winner rs (suc n) ds) refl
      (⊎_elim
      (λ b. inl (bits_some r.codes ds (both_left (fixes r.codes) (fix rs) f) (begin-fitting r.codes (both_left (wide_codes r.codes h l m) (wide rs h l m) w) b)))
      (λ b. inr (some_bits rs (suc n) (both_right (fixes r.codes) (fix rs) f) (both_right (wide_codes r.codes h l m) (wide rs h l m) w) b))
      (either_of (begin_code r.codes ds) (begin_row rs ds) t))

  some-row : T (wide lines h l m) → T (begin_some ds) → 0 < row_number ds
  unfolding row_number begin_some
  some-row w t = winner_row lines 0 ds (some_bits lines 1 all_fix w t)

  not-few : T (wide lines h l m) → too_few ds ≡ false
  not-few w = both_not (eqb (row_number ds) 0) (begin_some ds) (λ e b. (let z : row_number ds ≡ 0 = eqb→eq (row_number ds) 0 e in let k : 0 < row_number ds = some-row w b in omega arith))

-- bytes that are as many as rows with the first of them have are read as they are
pub read_enough : (b : ℕ) (bs : List ℕ) → b < 256 → (from b).bytes ≤ length (b ∷ bs) → read_left (b ∷ bs) ≡ read_bytes (b ∷ bs)
read_enough b bs h k =
    let n : length (digits (b ∷ bs)) ≡ 2 * length (b ∷ bs) = length_digits (b ∷ bs) in
    rw (not-few (b / 16) (b % 16) (2 * (from b).bytes) (digits bs) (omega arith) (at all_wide 256 all_wide_lem b h))

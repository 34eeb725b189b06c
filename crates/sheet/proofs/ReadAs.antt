-- What a code that is read as an instruction tells of it.
use mathlib.Core.Path.{◌≡◌, refl, ap, subst⁻¹, ◌∙◌}
use mathlib.Core.Bool.{Bool, true, false}
use mathlib.Core.List.{List, [], ◌∷◌}
use Prim.Native.Nat.{ℕ, zero, suc, ◌+◌, ◌<◌}
use native.Mathlib.Omega.{arith}
use native.Mathlib.Nat.{not-suc-le-zero, le_of_suc-le-suc}
use native.Mathlib.Numerals.{one-add}
use lib.ListN.{length}
use lib.Dec.{T, ltb, ltb→lt}
use Rattle.laws.specs.Choice.{pick, both}
use Rattle.laws.proofs.Computed.{both_left, both_right}
use Rattle.sheet.specs.Code.{operand_from, value_of, absent}
use Rattle.sheet.specs.Table.{Code, Line, lines, line_in, line_at, no_line}
use Rattle.sheet.specs.Reading.{code_of, with_operands, row_number, row_with, read_digits, read_bytes, bytes_of}
use Rattle.sheet.specs.declared.Insn.{Insn}
use Rattle.std.specs.Prelude.{Ok, Err}
use Rattle.sheet.specs.declared.NoRow.{NoRow}
use Rattle.sheet.proofs.Winning.{At, here, there, line_at_lem, winner_is}

pub no_row_lem : {i : Insn} → Err NoRow.Unassigned ≡ Ok i → ⊥
no_row_lem e = let z : ◌≡◌ {A = ℕ} 0 1 = cc in omega arith

-- the row n, with the operands of its code, and a direct x below F4h
pub record ReadAs (n : ℕ) (c : Code) (ds : List ℕ) (i : Insn) : Type 0 where
  pub row : n ≡ 0 → ⊥
  pub direct : T (ltb (value_of (operand_from absent "x" c.groups ds)) 0xF4)
  pub insn : i ≡ with_operands n c ds

picked : (t : Bool) (n : ℕ) (i j : Insn) → pick t (Ok i) (Err NoRow.Unassigned) ≡ Ok j → T t × (j ≡ i)
picked true n i j e = (tt, cc)
picked false n i j e = absurd (no_row_lem e)

pub row_with_lem : (n : ℕ) (ds : List ℕ) (i : Insn) → row_with n ds ≡ Ok i → ReadAs n (code_of (line_at n).codes ds) ds i
unfolding row_with
row_with_lem zero ds i e = absurd (no_row_lem e)
row_with_lem (suc n) ds i e =
    let c = code_of (line_at (suc n)).codes ds in
    let p = picked (ltb (value_of (operand_from absent "x" c.groups ds)) 0xF4) (suc n) (with_operands (suc n) c ds) i e in
    record { row = λ z. (let q : suc n ≡ 0 = z in omega arith); direct = p.0; insn = p.1 }

-- a code's instruction is of the row that the code has
pub row_of : (ds : List ℕ) (i : Insn) → read_digits ds ≡ Ok i → i.row ≡ row_number ds
row_of ds i e = ap (λ (j : Insn). j.row) (row_with_lem (row_number ds) ds i e).insn

pub has_row : (ds : List ℕ) (i : Insn) → read_digits ds ≡ Ok i → row_number ds ≡ 0 → ⊥
has_row ds i e = (row_with_lem (row_number ds) ds i e).row

-- no bytes are no row's
pub nothing_read : (i : Insn) → read_bytes [] ≡ Ok i → ⊥
unfolding row_number
nothing_read i e = (row_with_lem 0 [] i e).row refl

-- each row has one to three bytes
abbrev short : List Line → Bool
short [] = true
short (l ∷ ls) = both (both (ltb 0 l.bytes) (ltb l.bytes 4)) (short ls)

all_short : T (short lines)
unfolding lines
all_short = tt

short_at : {ls : List Line} {j : ℕ} {l : Line} → At ls j l → T (short ls) → T (both (ltb 0 l.bytes) (ltb l.bytes 4))
short_at {l = l} (here {ls = ls}) t = both_left (both (ltb 0 l.bytes) (ltb l.bytes 4)) (short ls) t
short_at (there {m = m} {ls = ls} p) t = short_at p (both_right (both (ltb 0 m.bytes) (ltb m.bytes 4)) (short ls) t)

pub record Short (n : ℕ) : Type 0 where
  pub some : 0 < bytes_of n
  pub few : bytes_of n < 4

short_line : (j : ℕ) {l : Line} → At lines j l → Short (1 + j)
short_line j {l} p =
    let q : bytes_of (1 + j) ≡ l.bytes = ap (λ (m : ℕ). (line_at m).bytes) (one-add j) ∙ ap (λ (x : Line). x.bytes) (line_at_lem p) in
    let t = short_at p all_short in
    record {
      some = subst⁻¹ (λ (m : ℕ). 0 < m) q (ltb→lt 0 l.bytes (both_left (ltb 0 l.bytes) (ltb l.bytes 4) t));
      few = subst⁻¹ (λ (m : ℕ). m < 4) q (ltb→lt l.bytes 4 (both_right (ltb 0 l.bytes) (ltb l.bytes 4) t));
    }

short_winner : (ds : List ℕ) → (row_number ds ≡ 0 → ⊥) → Short (row_number ds)
unfolding row_number
short_winner ds = winner_is (λ (m : ℕ). (m ≡ 0 → ⊥) → Short m) ds lines 1 (λ ne. absurd (ne refl)) (λ j l p f ne. short_line j p)

pub short_row : (ds : List ℕ) (i : Insn) → read_digits ds ≡ Ok i → Short i.row
short_row ds i e = subst⁻¹ Short (row_of ds i e) (short_winner ds (has_row ds i e))

-- a number past the last row's has no bytes
past_end : (ls : List Line) (n : ℕ) → length ls < n → line_in ls n ≡ no_line
past_end ls zero h = absurd (not-suc-le-zero h)
past_end [] (suc n) h = refl
past_end (l ∷ ls) (suc zero) h = absurd (not-suc-le-zero (le_of_suc-le-suc h))
past_end (l ∷ ls) (suc (suc n)) h = past_end ls (suc n) (le_of_suc-le-suc h)

pub no_such_row : (n : ℕ) → 107 < n → bytes_of n ≡ 0
unfolding line_at lines
no_such_row n h = ap (λ (l : Line). l.bytes) (past_end lines n h)

-- The reader's arms: what a code is whose row has been found by a test that the checker computes.
use mathlib.Core.Path.{◌≡◌, sym, ap, refl, subst⁻¹, ◌∙◌}
use mathlib.Core.List.{List, [], ◌∷◌}
use mathlib.Core.Bool.{Bool, true, false, not}
use mathlib.Core.Logic.{◌⊎◌, inl, inr}
use Prim.Native.Nat.{ℕ, ◌+◌, ◌*◌, ◌/◌, ◌%◌, ◌<◌, ◌≤◌}
use native.Mathlib.Omega.{arith}
use lib.Dec.{T, eqb, eqb→eq, ltb, leb, le→leb}
use borrow.Author.Tests.{eq-eqb}
use Rattle.laws.specs.Choice.{pick}
use Rattle.laws.proofs.Computed.{below, where_at, rest_at, implies, modus, out, NoKey, true→T}
use Rattle.sheet.specs.Reading.{Read, insn, row_number, row_with, read_digits}
use Rattle.sheet.specs.declared.Insn.{Insn}
use Rattle.std.specs.Prelude.{Option, Some, None, Ok, Err}
use Rattle.sheet.specs.declared.NoRow.{NoRow}
use Rattle.reader.specs.Found.{as_read, direct, direct_by_four, far}

-- a code has the row n
pub row_is : (n : ℕ) (ds : List ℕ) → T (eqb (row_number ds) n) → row_with n ds ≡ read_digits ds
row_is n ds t = ap (λ (m : ℕ). row_with m ds) (sym (eqb→eq (row_number ds) n t))

module _ (h l n m : ℕ) (ds : List ℕ) where
  abbrev pub HasRow : ℕ → Bool
  HasRow k = eqb (row_number (h ∷ l ∷ k ∷ m ∷ ds)) n

  -- the two highest bits of a second byte decide
  pub by-quarter : (v : ℕ) → T (below 16 (λ k. implies (eqb (k / 4) v) (HasRow k))) → (b : ℕ) → b < 256 → b / 64 ≡ v → row_with n (h ∷ l ∷ b / 16 ∷ m ∷ ds) ≡ read_digits (h ∷ l ∷ b / 16 ∷ m ∷ ds)
  by-quarter v t b below256 e =
      row_is n (h ∷ l ∷ b / 16 ∷ m ∷ ds)
      (where_at (λ k. eqb (k / 4) v) HasRow 16 t (b / 16) (omega arith) (true→T (eq-eqb (b / 16 / 4) v (omega arith))))

  -- a high digit of a second byte that is no key of the match
  pub by-rest : (ks : List ℕ) → T (below 16 (λ k. implies (out ks k) (HasRow k))) → (b : ℕ) → b < 256 → NoKey (b / 16) ks → row_with n (h ∷ l ∷ b / 16 ∷ m ∷ ds) ≡ read_digits (h ∷ l ∷ b / 16 ∷ m ∷ ds)
  by-rest ks t b below256 no_key = row_is n (h ∷ l ∷ b / 16 ∷ m ∷ ds) (rest_at HasRow ks 16 t (b / 16) (omega arith) no_key)

-- the two highest bits of a second digit decide
pub by_quarter_digit : (h n : ℕ) (ds : List ℕ) (v : ℕ) → T (below 16 (λ k. implies (eqb (k / 4) v) (eqb (row_number (h ∷ k ∷ ds)) n))) → (l : ℕ) → l < 16 → l / 4 ≡ v → row_with n (h ∷ l ∷ ds) ≡ read_digits (h ∷ l ∷ ds)
by_quarter_digit h n ds v t l below16 e =
    row_is n (h ∷ l ∷ ds) (where_at (λ k. eqb (k / 4) v) (λ k. eqb (row_number (h ∷ k ∷ ds)) n) 16 t l below16 (true→T (eq-eqb (l / 4) v e)))

one_of : (t u : Bool) {A B : Type 0} → (T t → A) → (T u → B) → T (pick t true u) → A ⊎ B
one_of true u f g h = inl (f tt)
one_of false u f g h = inr (g h)

-- the second bytes that name the rows of section 14
abbrev pub named : List ℕ
named = 255 ∷ 254 ∷ 253 ∷ 252 ∷ 250 ∷ 249 ∷ 248 ∷ 246 ∷ 245 ∷ 244 ∷ []

-- the two second bytes from F4h that name no row of section 14
pub unnamed : (b : ℕ) → 0xF4 ≤ b → b < 256 → NoKey b named → (b ≡ 0xF7) ⊎ (b ≡ 0xFB)
unnamed b from256 below256 no_key = one_of (eqb b 0xF7) (eqb b 0xFB) (eqb→eq b 0xF7) (eqb→eq b 0xFB) (modus (leb 0xF4 b) (pick (eqb b 0xF7) true (eqb b 0xFB)) (rest_at (λ k. implies (leb 0xF4 k) (pick (eqb k 0xF7) true (eqb k 0xFB))) named 256 tt b below256 no_key) (le→leb 0xF4 b from256))

-- a byte from its digits
pub whole : (b : ℕ) → b / 16 * 16 + b % 16 ≡ b
whole b = omega arith

-- a direct x, as the reader and as the table has it
as_direct : (n x : ℕ) (t : Bool) → as_read (pick t (Some (insn n x 0)) None) ≡ pick t (Ok (insn n x 0)) (Err NoRow.Unassigned)
as_direct n x true = refl
as_direct n x false = refl

pub direct_reads : (n x b : ℕ) → x ≡ b → as_read (direct n b) ≡ pick (ltb x 0xF4) (Ok (insn n x 0)) (Err NoRow.Unassigned)
direct_reads n x b e = subst⁻¹ (λ (y : ℕ). as_read (direct n b) ≡ pick (ltb y 0xF4) (Ok (insn n y 0)) (Err NoRow.Unassigned)) e (as_direct n b (ltb b 0xF4))

mod_mod : (b : ℕ) → b % 16 % 4 ≡ b % 4
mod_mod b = omega arith

module _ (l n : ℕ) (ds : List ℕ) (reads : (h m : ℕ) → row_with n (4 ∷ l ∷ h ∷ m ∷ ds) ≡ pick (ltb (h * 16 + m) 0xF4) (Ok (insn n (h * 16 + m) 0)) (Err NoRow.Unassigned)) (none : (h m : ℕ) → row_with 0 (4 ∷ l ∷ h ∷ m ∷ ds) ≡ (Err NoRow.Unassigned)) where
  as-aligned : (b : ℕ) (t : Bool) → (T t → as_read (direct n b) ≡ read_digits (4 ∷ l ∷ b / 16 ∷ b % 16 ∷ ds)) → (T (not t) → Err NoRow.Unassigned ≡ read_digits (4 ∷ l ∷ b / 16 ∷ b % 16 ∷ ds)) → as_read (pick t (direct n b) None) ≡ read_digits (4 ∷ l ∷ b / 16 ∷ b % 16 ∷ ds)
  as-aligned b true p q = p tt
  as-aligned b false p q = q tt

  -- a code xxxx xx00
  pub aligned-reads : (b : ℕ) → b < 256 → T (below 16 (λ m. implies (eqb (m % 4) 0) (eqb (row_number (4 ∷ l ∷ b / 16 ∷ m ∷ ds)) n))) → T (below 16 (λ m. implies (not (eqb (m % 4) 0)) (eqb (row_number (4 ∷ l ∷ b / 16 ∷ m ∷ ds)) 0))) → as_read (direct_by_four n b) ≡ read_digits (4 ∷ l ∷ b / 16 ∷ b % 16 ∷ ds)
  aligned-reads b below256 yes-row no_row_lem =
      as-aligned b (eqb (b % 4) 0)
      (λ t. direct_reads n (b / 16 * 16 + b % 16) b (whole b) ∙ (sym (reads (b / 16) (b % 16)) ∙ row_is n (4 ∷ l ∷ b / 16 ∷ b % 16 ∷ ds) (where_at (λ m. eqb (m % 4) 0) (λ m. eqb (row_number (4 ∷ l ∷ b / 16 ∷ m ∷ ds)) n) 16 yes-row (b % 16) (omega arith) (true→T (eq-eqb (b % 16 % 4) 0 (omega (arith, eqb→eq (b % 4) 0 t)))))))
      (λ t. sym (none (b / 16) (b % 16)) ∙ row_is 0 (4 ∷ l ∷ b / 16 ∷ b % 16 ∷ ds) (where_at (λ m. not (eqb (m % 4) 0)) (λ m. eqb (row_number (4 ∷ l ∷ b / 16 ∷ m ∷ ds)) 0) 16 no_row_lem (b % 16) (omega arith) (subst⁻¹ (λ (m : ℕ). T (not (eqb m 0))) (mod_mod b) t)))

as_far : (t : Bool) (i : Option Insn) (r : Read) → (T t → as_read i ≡ r) → (T (not t) → Err NoRow.Unassigned ≡ r) → as_read (pick t i None) ≡ r
as_far true i r p q = p tt
as_far false i r p q = q tt

-- SLBR: a second byte 1100 aaaa, and any other
pub far_reads : (l upper b1 b2 : ℕ) (ds : List ℕ) → b1 < 256 → ((m h n : ℕ) → Ok (insn 49 (((upper * 16 + m) * 16 + h) * 16 + n) 0) ≡ read_digits (5 ∷ l ∷ 12 ∷ m ∷ h ∷ n ∷ ds)) → ((k m : ℕ) → Err NoRow.Unassigned ≡ row_with 0 (5 ∷ l ∷ k ∷ m ∷ b2 / 16 ∷ b2 % 16 ∷ ds)) → T (below 16 (λ k. implies (not (eqb k 12)) (eqb (row_number (5 ∷ l ∷ k ∷ b1 % 16 ∷ b2 / 16 ∷ b2 % 16 ∷ ds)) 0))) → as_read (far upper b1 b2) ≡ read_digits (5 ∷ l ∷ b1 / 16 ∷ b1 % 16 ∷ b2 / 16 ∷ b2 % 16 ∷ ds)
far_reads l upper b1 b2 ds below256 reads none no_row_lem =
    as_far (eqb (b1 / 16) 12) (Some (insn 49 (upper * 4096 + b1 % 16 * 256 + b2) 0)) _
    (λ t. rw (eqb→eq (b1 / 16) 12 t) (ap (λ (a : ℕ). Ok (insn 49 a 0)) (omega arith) ∙ reads (b1 % 16) (b2 / 16) (b2 % 16)))
    (λ t. none (b1 / 16) (b1 % 16) ∙ row_is 0 (5 ∷ l ∷ b1 / 16 ∷ b1 % 16 ∷ b2 / 16 ∷ b2 % 16 ∷ ds) (where_at (λ k. not (eqb k 12)) (λ k. eqb (row_number (5 ∷ l ∷ k ∷ b1 % 16 ∷ b2 / 16 ∷ b2 % 16 ∷ ds)) 0) 16 no_row_lem (b1 / 16) (omega arith) t))

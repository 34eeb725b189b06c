-- The operands that are read are within their fields.
use mathlib.Core.Path.{◌≡◌, sym, ap, ◌∙◌}
use mathlib.Core.Bool.{Bool, true, false}
use mathlib.Core.List.{List, [], ◌∷◌}
use Prim.Native.String.{String}
use Prim.Native.Nat.{ℕ, ◌*◌, ◌%◌, ◌<◌, ◌≤◌, max}
use native.Mathlib.Nat.{le_trans, not-suc-le-zero}
use native.Mathlib.Decide.{dec_lt, ℕ_discrete}
use native.Mathlib.Omega.{arith}
use Rattle.laws.specs.Choice.{pick}
use Rattle.sheet.specs.Code.{Group, #, all, fixed1, fixed2, fixed3, above2, has_sign, Operand, absent, value, value_of, fits, extended_if, gives, operand_from}
use Rattle.sheet.specs.Table.{Code, line_at}
use Rattle.sheet.specs.Fields.{widened, field_from, leads, field_a, field_b, InFields}
use Rattle.sheet.specs.Reading.{code_of, row_number, read_digits, bytes_of}
use Rattle.sheet.specs.declared.Insn.{Insn}
use Rattle.std.specs.Prelude.{Ok}
use Rattle.sheet.proofs.ReadAs.{row_with_lem, row_of, has_row, short_row, no_such_row}

abbrev pub AreDigits : List ℕ → Type 0
AreDigits [] = Unit
AreDigits (d ∷ ds) = (d < 16) × AreDigits ds

-- an operand, as far as it is known, is below n
abbrev Below : Operand → ℕ → Type 0
Below absent n = 0 < n
Below (value m) n = m < n

below_value : (o : Operand) (n : ℕ) → Below o n → value_of o < n
below_value absent n h = h
below_value (value m) n h = h

-- a group of 16, 8, 4 or 2 values more
by_16 : (t : Bool) (o : Operand) (n d : ℕ) → d < 16 → Below o n → Below (extended_if t o 16 d) (pick t (n * 16) n)
by_16 true absent n d h b = omega arith
by_16 true (value m) n d h b = omega arith
by_16 false o n d h b = b

by_8 : (t : Bool) (o : Operand) (n d : ℕ) → Below o n → Below (extended_if t o 8 (d % 8)) (pick t (n * 8) n)
by_8 true absent n d b = omega arith
by_8 true (value m) n d b = omega arith
by_8 false o n d b = b

by_4 : (t : Bool) (o : Operand) (n d : ℕ) → Below o n → Below (extended_if t o 4 (d % 4)) (pick t (n * 4) n)
by_4 true absent n d b = omega arith
by_4 true (value m) n d b = omega arith
by_4 false o n d b = b

by_2 : (t : Bool) (o : Operand) (n d : ℕ) → Below o n → Below (extended_if t o 2 (d % 2)) (pick t (n * 2) n)
by_2 true absent n d b = omega arith
by_2 true (value m) n d b = omega arith
by_2 false o n d b = b

given : (ls : String) (g : Group) (o : Operand) (n d : ℕ) → d < 16 → Below o n → Below (gives ls g d o) (widened ls g n)
given ls (# v) o n d h b = b
given ls (all l) o n d h b = by_16 (has_sign ls l) o n d h b
given ls (fixed1 v l) o n d h b = by_8 (has_sign ls l) o n d b
given ls (fixed2 v l) o n d h b = by_4 (has_sign ls l) o n d b
given ls (fixed3 v l) o n d h b = by_2 (has_sign ls l) o n d b
given ls (above2 l v) o n d h b = by_16 (has_sign ls l) o n d h b

-- the field only grows
no_less : (t : Bool) (n m : ℕ) → n ≤ m → n ≤ pick t m n
no_less true n m h = h
no_less false n m h = omega arith

grows : (ls : String) (g : Group) (n : ℕ) → n ≤ widened ls g n
grows ls (# v) n = omega arith
grows ls (all l) n = no_less (has_sign ls l) n (n * 16) (omega arith)
grows ls (fixed1 v l) n = no_less (has_sign ls l) n (n * 8) (omega arith)
grows ls (fixed2 v l) n = no_less (has_sign ls l) n (n * 4) (omega arith)
grows ls (fixed3 v l) n = no_less (has_sign ls l) n (n * 2) (omega arith)
grows ls (above2 l v) n = no_less (has_sign ls l) n (n * 16) (omega arith)

below_more : (o : Operand) (n m : ℕ) → n ≤ m → Below o n → Below o m
below_more absent n m h b = omega arith
below_more (value k) n m h b = omega arith

field_grows : (ls : String) (gs : List Group) (n : ℕ) → n ≤ field_from n ls gs
field_grows ls [] n = omega arith
field_grows ls (g ∷ gs) n = le_trans (grows ls g n) (field_grows ls gs (widened ls g n))

within : (ls : String) (gs : List Group) (ds : List ℕ) (o : Operand) (n : ℕ) → AreDigits ds → Below o n → Below (operand_from o ls gs ds) (field_from n ls gs)
within ls [] ds o n h b = b
within ls (g ∷ gs) [] o n h b = below_more o n (field_from n ls (g ∷ gs)) (field_grows ls (g ∷ gs) n) b
within ls (g ∷ gs) (d ∷ ds) o n h b = within ls gs ds (gives ls g d o) (widened ls g n) h.1 (given ls g o n d h.0 b)

max_left : {m n : ℕ} → m < n → (k : ℕ) → m < max n k
max_left {m} {n} h k = omega arith

max_right : {m k : ℕ} (n : ℕ) → m < k → m < max n k
max_right {m} {k} n h = omega arith

led : (o : Operand) → Below o (leads o)
led absent = omega arith
led (value n) = omega arith

module _ (ds : List ℕ) where
  picked-a : (t : Bool) (c d : Code) (n : ℕ) → value_of (operand_from c.lead "xkabrn" c.groups ds) < n → value_of (operand_from d.lead "xkabrn" d.groups ds) < n → value_of (operand_from (pick t c d).lead "xkabrn" (pick t c d).groups ds) < n
  picked-a true c d n p q = p
  picked-a false c d n p q = q

  picked-b : (t : Bool) (c d : Code) (n : ℕ) → value_of (operand_from absent "yp" c.groups ds) < n → value_of (operand_from absent "yp" d.groups ds) < n → value_of (operand_from absent "yp" (pick t c d).groups ds) < n
  picked-b true c d n p q = p
  picked-b false c d n p q = q

module _ (ds : List ℕ) (are : AreDigits ds) where
  code-a : (c : Code) → value_of (operand_from c.lead "xkabrn" c.groups ds) < field_from (leads c.lead) "xkabrn" c.groups
  code-a c = below_value (operand_from c.lead "xkabrn" c.groups ds) (field_from (leads c.lead) "xkabrn" c.groups) (within "xkabrn" c.groups ds c.lead (leads c.lead) are (led c.lead))

  code-b : (c : Code) → value_of (operand_from absent "yp" c.groups ds) < field_from 1 "yp" c.groups
  code-b c = below_value (operand_from absent "yp" c.groups ds) (field_from 1 "yp" c.groups) (within "yp" c.groups ds absent 1 are (led absent))

  -- the code of a row that the digits have is one of the row's
  chosen-a : (cs : List Code) → value_of (operand_from (code_of cs ds).lead "xkabrn" (code_of cs ds).groups ds) < field_a cs
  chosen-a [] = omega arith
  chosen-a (c ∷ []) = max_left (code-a c) 1
  chosen-a (c ∷ d ∷ cs) = picked-a ds (fits c.groups ds) c (code_of (d ∷ cs) ds) (field_a (c ∷ d ∷ cs)) (max_left (code-a c) (field_a (d ∷ cs))) (max_right (field_from (leads c.lead) "xkabrn" c.groups) (chosen-a (d ∷ cs)))

  chosen-b : (cs : List Code) → value_of (operand_from absent "yp" (code_of cs ds).groups ds) < field_b cs
  chosen-b [] = omega arith
  chosen-b (c ∷ []) = max_left (code-b c) 1
  chosen-b (c ∷ d ∷ cs) = picked-b ds (fits c.groups ds) c (code_of (d ∷ cs) ds) (field_b (c ∷ d ∷ cs)) (max_left (code-b c) (field_b (d ∷ cs))) (max_right (field_from 1 "yp" c.groups) (chosen-b (d ∷ cs)))

-- a row with bytes is one of the sheet's
numbered : (n : ℕ) → 0 < bytes_of n → Dec (n < 108) → n < 108
numbered n h (yes l) = l
numbered n h (no g) = absurd (not-suc-le-zero (rw (no_such_row n (omega arith)) at h))

row_some : (ds : List ℕ) (i : Insn) → read_digits ds ≡ Ok i → Dec (i.row ≡ 0) → 0 < i.row
row_some ds i e (yes z) = absurd (has_row ds i e (sym (row_of ds i e) ∙ z))
row_some ds i e (no ne) = omega arith

module _ (ds : List ℕ) (are : AreDigits ds) where
  -- what is read is an instruction of the sheet
  pub in-fields : (i : Insn) → read_digits ds ≡ Ok i → InFields i
  in-fields i e =
      let w = row_with_lem (row_number ds) ds i e in
      let r = row_of ds i e in
      record {
        some = row_some ds i e (ℕ_discrete i.row 0);
        row = numbered i.row (short_row ds i e).some (dec_lt i.row 108);
        a = rw (r, ap (λ (x : Insn). x.a) w.insn) (chosen-a ds are (line_at (row_number ds)).codes);
        b = rw (r, ap (λ (x : Insn). x.b) w.insn) (chosen-b ds are (line_at (row_number ds)).codes);
      }

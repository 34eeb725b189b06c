-- The operands of a row in its mnemonic's order are its two slots, or the two the other way round.
use mathlib.Core.Path.{◌≡◌, refl}
use mathlib.Core.Bool.{Bool, true, false}
use mathlib.Core.List.{List, [], ◌∷◌}
use Prim.Native.Nat.{ℕ, ◌<◌}
use native.Mathlib.Omega.{arith}
use lib.Dec.{T, leb, leb→le}
use lib.ListN.{get_or}
use Rattle.laws.specs.Choice.{pick, both}
use Rattle.laws.proofs.Computed.{below, at, both_left, both_right}
use Rattle.sheet.specs.Fields.{field_a, field_b}
use Rattle.sheet.specs.Table.{line_at}
use Rattle.sheet.specs.declared.Insn.{Insn}
use Rattle.notation.specs.Notation.{mnemonic_of}
use Rattle.image_calls.specs.Operands.{Fits, slots_in, starts_with, begins_in_b, operands_in, operand_at}

-- a slot that is not among the letters has a field of one value, and no slot is there twice
abbrev fine_after : Bool → List Bool → ℕ → ℕ → Bool
fine_after false [] fa fb = leb fb 1
fine_after true [] fa fb = leb fa 1
fine_after false (true ∷ []) fa fb = true
fine_after false (true ∷ s ∷ ss) fa fb = false
fine_after false (false ∷ ss) fa fb = false
fine_after true (false ∷ []) fa fb = true
fine_after true (false ∷ s ∷ ss) fa fb = false
fine_after true (true ∷ ss) fa fb = false

abbrev fine : List Bool → ℕ → ℕ → Bool
fine [] fa fb = both (leb fa 1) (leb fb 1)
fine (s ∷ ss) fa fb = fine_after s ss fa fb

abbrev Ordered : Insn → List Bool → Type 0
Ordered i ss = (pick (starts_with ss) i.b i.a ≡ get_or (operands_in i ss) 0 0) × (pick (starts_with ss) i.a i.b ≡ get_or (operands_in i ss) 1 0)

module _ (i : Insn) (fa fb : ℕ) (h : i.a < fa) (k : i.b < fb) where
  no-a : T (leb fa 1) → i.a ≡ 0
  no-a t = omega (arith, leb→le fa 1 t)

  no-b : T (leb fb 1) → i.b ≡ 0
  no-b t = omega (arith, leb→le fb 1 t)

  ordered : (ss : List Bool) → T (fine ss fa fb) → Ordered i ss
  ordered [] t = (no-a (both_left (leb fa 1) (leb fb 1) t), no-b (both_right (leb fa 1) (leb fb 1) t))
  ordered (false ∷ []) t = (refl, no-b t)
  ordered (true ∷ []) t = (refl, no-a t)
  ordered (false ∷ true ∷ []) t = (refl, refl)
  ordered (false ∷ true ∷ s ∷ ss) t = absurd t
  ordered (false ∷ false ∷ ss) t = absurd t
  ordered (true ∷ false ∷ []) t = (refl, refl)
  ordered (true ∷ false ∷ s ∷ ss) t = absurd t
  ordered (true ∷ true ∷ ss) t = absurd t

abbrev fine_row : ℕ → Bool
fine_row n = fine (slots_in (mnemonic_of n)) (field_a (line_at n).codes) (field_b (line_at n).codes)

all_fine : T (below 108 fine_row)
unfolding line_at
all_fine = tt

pub in_order : (i : Insn) → Fits i → (t : Bool) → t ≡ begins_in_b i.row → (pick t i.b i.a ≡ operand_at i 0) × (pick t i.a i.b ≡ operand_at i 1)
unfolding begins_in_b operand_at
in_order i f t e =
    rw e (ordered i (field_a (line_at i.row).codes) (field_b (line_at i.row).codes) f.1 f.2 (slots_in (mnemonic_of i.row)) (at fine_row 108 all_fine i.row f.0))

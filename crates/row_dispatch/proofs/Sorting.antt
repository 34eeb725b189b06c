-- The operands of each group's rows stay below the group's limits.
use mathlib.Core.Path.{◌≡◌}
use mathlib.Core.Bool.{Bool, true}
use mathlib.Core.List.{List, [], ◌∷◌}
use Prim.Native.Nat.{ℕ}
use native.Mathlib.Omega.{arith}
use lib.Dec.{T, leb, leb→le}
use Rattle.laws.specs.Among.{among}
use Rattle.laws.specs.Choice.{both}
use Rattle.laws.proofs.Among.{Each, end, ◌by◌&◌, at_each}
use Rattle.laws.proofs.Computed.{both_left, both_right}
use Rattle.sheet.specs.Fields.{field_a, field_b, InFields}
use Rattle.sheet.specs.Table.{lines, line_at}
use Rattle.sheet.specs.declared.Insn.{Insn}
use Rattle.row_dispatch.specs.Groups.{rows_of, limit_a, limit_b, InGroup}
use Rattle.row_dispatch.specs.declared.groups.Group.{Group}

-- what is tested of each row of a group
abbrev fits : Group → ℕ → Bool
fits g row = both (leb (field_a (line_at row).codes) (limit_a g)) (leb (field_b (line_at row).codes) limit_b)

abbrev fit_all : (ℕ → Bool) → List ℕ → Bool
fit_all f [] = true
fit_all f (row ∷ rows) = both (f row) (fit_all f rows)

each_fits : (f : ℕ → Bool) (rows : List ℕ) → T (fit_all f rows) → Each (λ (row : ℕ). T (f row)) rows
each_fits f [] t = end
each_fits f (row ∷ rows) t = row by both_left (f row) (fit_all f rows) t & each_fits f rows (both_right (f row) (fit_all f rows) t)

group_fits : (g : Group) → T (fit_all (fits g) (rows_of g))
unfolding line_at lines
group_fits Group.Moves = tt
group_fits Group.Makes = tt
group_fits Group.Asks = tt
group_fits Group.Branches = tt
group_fits Group.GetPointer = tt
group_fits Group.GetTimer = tt
group_fits Group.ReadByHl = tt
group_fits Group.ReadByX = tt
group_fits Group.ReadByY = tt
group_fits Group.LoadPair = tt
group_fits Group.WriteByHl = tt
group_fits Group.WriteByX = tt
group_fits Group.WriteByY = tt
group_fits Group.SwapPair = tt
group_fits Group.SetPointer = tt
group_fits Group.SetTimer = tt
group_fits Group.RomLow = tt
group_fits Group.RomHigh = tt
group_fits Group.Latches = tt
group_fits Group.Returns = tt
group_fits Group.Calls = tt
group_fits Group.WritePort = tt
group_fits Group.ReadPort = tt
group_fits Group.PortToCell = tt
group_fits Group.CellToPort = tt

-- a row of a group, with its operands in its fields
pub sorted : (g : Group) (i : Insn) → InFields i → among (rows_of g) i.row ≡ true → InGroup g i
sorted g i h e =
    let t = at_each (λ (row : ℕ). T (fits g row)) (rows_of g) (each_fits (fits g) (rows_of g) (group_fits g)) i.row e in
    record {
      row = e;
      a = omega (arith, h.a, leb→le (field_a (line_at i.row).codes) (limit_a g) (both_left (leb (field_a (line_at i.row).codes) (limit_a g)) _ t));
      b = omega (arith, h.b, leb→le (field_b (line_at i.row).codes) limit_b (both_right (leb (field_a (line_at i.row).codes) (limit_a g)) (leb (field_b (line_at i.row).codes) limit_b) t));
    }

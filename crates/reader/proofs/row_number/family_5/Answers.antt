-- `reader::row_number::family_5` meets its contract.
use mathlib.Core.Path.{refl}
use mathlib.Core.List.{◌∷◌}
use Prim.Native.Nat.{◌/◌, ◌%◌}
use native.Mathlib.Omega.{arith}
use Rattle.sheet.specs.Reading.{row_number, row_with}
use Rattle.reader.proofs.row_number.Arms.{far_reads}
use Rattle.reader.proofs.row_number.family_5.Goals as goal

pub returns-in-5 : goal.returns-in-5
returns-in-5 c ds = rw (c.far_branch.ensures, c.in-5.is) (far_reads 5 1 c.args.b1 c.args.b2 ds (omega arith) (unfold row_number row_with in λ m h n. refl) (unfold row_with in λ k m. refl) (unfold row_number in tt))

pub returns-in-7 : goal.returns-in-7
returns-in-7 c ds = rw (c.far_branch-in-7.ensures, c.in-7.is) (far_reads 7 0 c.args.b1 c.args.b2 ds (omega arith) (unfold row_number row_with in λ m h n. refl) (unfold row_with in λ k m. refl) (unfold row_number in tt))

pub returns-in_default : goal.returns-in_default
returns-in_default c ds = rw c.numbered.ensures (c.row_5.ensures (c.args.b1 / 16 ∷ c.args.b1 % 16 ∷ c.args.b2 / 16 ∷ c.args.b2 % 16 ∷ ds))

-- `reader::row_number::row_6e` meets its contract.
use mathlib.Core.Path.{refl}
use mathlib.Core.List.{[], ◌∷◌}
use Prim.Native.Nat.{◌%◌}
use native.Mathlib.Omega.{arith}
use borrow.Author.Rules.{rules}
use Rattle.sheet.specs.Reading.{row_number, row_with}
use Rattle.reader.proofs.row_number.Arms.{by-rest}
use Rattle.reader.proofs.row_number.row_6e.Goals as goal

pub returns-in-1 : goal.returns-in-1
returns-in-1 c ds = rw c.in-1.is (unfold row_number row_with in refl)

pub returns-in-3 : goal.returns-in-3
returns-in-3 c ds = rw c.in-3.is (unfold row_number row_with in refl)

pub returns-in-4 : goal.returns-in-4
returns-in-4 c ds = rw c.in-4.is (unfold row_number row_with in refl)

pub returns-in-5 : goal.returns-in-5
returns-in-5 c ds = rw c.in-5.is (unfold row_number row_with in refl)

pub returns-in-6 : goal.returns-in-6
returns-in-6 c ds = rw c.in-6.is (unfold row_number row_with in refl)

pub returns-in-7 : goal.returns-in-7
returns-in-7 c ds = rw c.in-7.is (unfold row_number row_with in refl)

pub returns-in-9 : goal.returns-in-9
returns-in-9 c ds = rw c.in-9.is (unfold row_number row_with in refl)

pub returns-in-11 : goal.returns-in-11
returns-in-11 c ds = rw c.in-11.is (unfold row_number row_with in refl)

pub returns-in-12 : goal.returns-in-12
returns-in-12 c ds = rw c.in-12.is (unfold row_number row_with in refl)

pub returns-in-13 : goal.returns-in-13
returns-in-13 c ds = rw c.in-13.is (unfold row_number row_with in refl)

pub returns-in-14 : goal.returns-in-14
returns-in-14 c ds = rw c.in-14.is (unfold row_number row_with in refl)

pub returns-in-15 : goal.returns-in-15
returns-in-15 c ds = rw c.in-15.is (unfold row_number row_with in refl)

pub returns-in_default : goal.returns-in_default
returns-in_default c ds = unfold row_with in by-rest 6 14 0 (c.args.b1 % 16) ds (15 ∷ 14 ∷ 13 ∷ 12 ∷ 11 ∷ 9 ∷ 7 ∷ 6 ∷ 5 ∷ 4 ∷ 3 ∷ 1 ∷ []) (unfold row_number in tt) c.args.b1 (omega arith) (search rules)

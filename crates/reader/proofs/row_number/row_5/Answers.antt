-- `reader::row_number::row_5` meets its contract.
use mathlib.Core.Path.{◌≡◌, refl}
use mathlib.Core.List.{[], ◌∷◌}
use native.Mathlib.Omega.{arith}
use lib.Dec.{eqb, eqb→eq}
use borrow.Author.Rules.{rules}
use Rattle.laws.proofs.Computed.{rest_at}
use Rattle.sheet.specs.Reading.{row_number, row_with}
use Rattle.reader.proofs.row_number.row_5.Goals as goal

pub returns-in-0 : goal.returns-in-0
returns-in-0 c ds = rw c.in-0.is (unfold row_number row_with in refl)

pub returns-in-1 : goal.returns-in-1
returns-in-1 c ds = rw c.in-1.is (unfold row_number row_with in refl)

pub returns-in-2 : goal.returns-in-2
returns-in-2 c ds = rw c.in-2.is (unfold row_number row_with in refl)

pub returns-in-3 : goal.returns-in-3
returns-in-3 c ds = rw c.in-3.is (unfold row_number row_with in refl)

pub returns-in-6 : goal.returns-in-6
returns-in-6 c ds = rw c.in-6.is (unfold row_number row_with in refl)

pub returns-in-8 : goal.returns-in-8
returns-in-8 c ds = rw c.in-8.is (unfold row_number row_with in refl)

pub returns-in-9 : goal.returns-in-9
returns-in-9 c ds = rw c.in-9.is (unfold row_number row_with in refl)

pub returns-in-10 : goal.returns-in-10
returns-in-10 c ds = rw c.in-10.is (unfold row_number row_with in refl)

pub returns-in-11 : goal.returns-in-11
returns-in-11 c ds = rw c.in-11.is (unfold row_number row_with in refl)

pub returns-in-12 : goal.returns-in-12
returns-in-12 c ds = rw c.in-12.is (unfold row_number row_with in refl)

pub returns-in-13 : goal.returns-in-13
returns-in-13 c ds = rw c.in-13.is (unfold row_number row_with in refl)

pub returns-in-14 : goal.returns-in-14
returns-in-14 c ds = rw c.in-14.is (unfold row_number row_with in refl)

pub returns-in-15 : goal.returns-in-15
returns-in-15 c ds = rw c.in-15.is (unfold row_number row_with in refl)

pub returns-in_default : goal.returns-in_default
returns-in_default c ds = let e : c.args.l ≡ 4 = eqb→eq c.args.l 4 (rest_at (λ k. eqb k 4) (7 ∷ 5 ∷ 15 ∷ 14 ∷ 13 ∷ 12 ∷ 11 ∷ 10 ∷ 9 ∷ 8 ∷ 6 ∷ 3 ∷ 2 ∷ 1 ∷ 0 ∷ []) 16 tt c.args.l (omega arith) ((search rules, c.requires.1), c.requires.2)) in rw e (unfold row_number row_with in refl)

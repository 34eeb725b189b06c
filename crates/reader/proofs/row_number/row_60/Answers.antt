-- `reader::row_number::row_60` meets its contract.
use mathlib.Core.Path.{◌≡◌, refl}
use mathlib.Core.List.{[], ◌∷◌}
use native.Mathlib.Omega.{arith}
use lib.Dec.{eqb, eqb→eq}
use borrow.Author.Rules.{rules}
use Rattle.laws.proofs.Computed.{rest_at}
use Rattle.sheet.specs.Reading.{row_number, row_with}
use Rattle.reader.proofs.row_number.row_60.Goals as goal

pub returns-in-0 : goal.returns-in-0
returns-in-0 c ds = rw c.in-0.is (unfold row_number row_with in refl)

pub returns-in-1 : goal.returns-in-1
returns-in-1 c ds = rw c.in-1.is (unfold row_number row_with in refl)

pub returns-in-2 : goal.returns-in-2
returns-in-2 c ds = rw c.in-2.is (unfold row_number row_with in refl)

pub returns-in-4 : goal.returns-in-4
returns-in-4 c ds = rw c.in-4.is (unfold row_number row_with in refl)

pub returns-in-5 : goal.returns-in-5
returns-in-5 c ds = rw c.in-5.is (unfold row_number row_with in refl)

pub returns-in-6 : goal.returns-in-6
returns-in-6 c ds = rw c.in-6.is (unfold row_number row_with in refl)

pub returns-in_default : goal.returns-in_default
returns-in_default c ds = let e : c.args.l ≡ 7 = eqb→eq c.args.l 7 (rest_at (λ k. eqb k 7) (3 ∷ 6 ∷ 5 ∷ 4 ∷ 2 ∷ 1 ∷ 0 ∷ []) 8 tt c.args.l (omega arith) (search rules, c.requires.1)) in rw e (unfold row_number row_with in refl)

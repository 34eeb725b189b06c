-- `reader::row_number::row_69` meets its contract.
use mathlib.Core.Path.{refl}
use native.Mathlib.Omega.{arith}
use borrow.Author.Rules.{rules}
use Rattle.sheet.specs.Reading.{row_number, row_with}
use Rattle.reader.proofs.row_number.Arms.{unnamed}
use mathlib.Core.Logic.{⊎_elim}
use Rattle.reader.proofs.row_number.row_69.Goals as goal

pub returns-in-244 : goal.returns-in-244
returns-in-244 c ds = rw c.in-244.is (unfold row_number row_with in refl)

pub returns-in-245 : goal.returns-in-245
returns-in-245 c ds = rw c.in-245.is (unfold row_number row_with in refl)

pub returns-in-246 : goal.returns-in-246
returns-in-246 c ds = rw c.in-246.is (unfold row_number row_with in refl)

pub returns-in-248 : goal.returns-in-248
returns-in-248 c ds = rw c.in-248.is (unfold row_number row_with in refl)

pub returns-in-249 : goal.returns-in-249
returns-in-249 c ds = rw c.in-249.is (unfold row_number row_with in refl)

pub returns-in-250 : goal.returns-in-250
returns-in-250 c ds = rw c.in-250.is (unfold row_number row_with in refl)

pub returns-in-252 : goal.returns-in-252
returns-in-252 c ds = rw c.in-252.is (unfold row_number row_with in refl)

pub returns-in-253 : goal.returns-in-253
returns-in-253 c ds = rw c.in-253.is (unfold row_number row_with in refl)

pub returns-in-254 : goal.returns-in-254
returns-in-254 c ds = rw c.in-254.is (unfold row_number row_with in refl)

pub returns-in-255 : goal.returns-in-255
returns-in-255 c ds = rw c.in-255.is (unfold row_number row_with in refl)

pub returns-in_default : goal.returns-in_default
returns-in_default c ds = ⊎_elim (λ e. rw e (unfold row_number row_with in refl)) (λ e. rw e (unfold row_number row_with in refl)) (unnamed c.args.b1 (omega arith) (omega arith) (search rules))

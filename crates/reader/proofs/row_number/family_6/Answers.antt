-- `reader::row_number::family_6` meets its contract.
use mathlib.Core.List.{[], ◌∷◌}
use Prim.Native.Nat.{◌/◌, ◌%◌}
use native.Mathlib.Omega.{arith}
use lib.Dec.{ltb, ltb→lt}
use borrow.Author.Rules.{rules}
use Rattle.laws.proofs.Computed.{rest_at}
use Rattle.sheet.specs.Reading.{row_number, row_with}
use Rattle.reader.proofs.row_number.Arms.{whole, direct_reads}
use Rattle.reader.proofs.row_number.family_6.Goals as goal

pub row_60-requires : goal.row_60-requires
row_60-requires c = (ltb→lt c.args.l 8 (rest_at (λ k. ltb k 8) (15 ∷ 14 ∷ 13 ∷ 12 ∷ 11 ∷ 10 ∷ 9 ∷ 8 ∷ 3 ∷ []) 16 tt c.args.l (omega arith) (search rules)), search rules)

pub returns-in-3 : goal.returns-in-3
returns-in-3 c ds = rw (c.numbered.ensures, c.in-3.is) (c.row_63.ensures ds)

pub returns-in-8 : goal.returns-in-8
returns-in-8 c ds = rw (c.by_x.ensures, c.in-8.is) (unfold row_number row_with in direct_reads 42 _ c.args.b1 (whole c.args.b1))

pub returns-in-9 : goal.returns-in-9
returns-in-9 c ds = rw c.in-9.is (c.stores.ensures ds)

pub returns-in-10 : goal.returns-in-10
returns-in-10 c ds = rw c.in-10.is (c.loads.ensures ds)

pub returns-in-11 : goal.returns-in-11
returns-in-11 c ds = rw (c.by_x-in-11.ensures, c.in-11.is) (unfold row_number row_with in direct_reads 51 _ c.args.b1 (whole c.args.b1))

pub returns-in-12 : goal.returns-in-12
returns-in-12 c ds = rw (c.with_both.ensures, c.in-12.is) (c.row_6c.ensures ds)

pub returns-in-13 : goal.returns-in-13
returns-in-13 c ds = rw (c.with_both-in-13.ensures, c.in-13.is) (c.row_6d.ensures ds)

pub returns-in-14 : goal.returns-in-14
returns-in-14 c ds = rw (c.numbered-in-14.ensures, c.in-14.is) (c.row_6e.ensures ds)

pub returns-in-15 : goal.returns-in-15
returns-in-15 c ds = rw (c.numbered-in-15.ensures, c.in-15.is) (c.row_6f.ensures ds)

pub returns-in_default : goal.returns-in_default
returns-in_default c ds = rw c.with_both-in_default.ensures (c.row_60.ensures (c.args.b1 / 16 ∷ c.args.b1 % 16 ∷ ds))

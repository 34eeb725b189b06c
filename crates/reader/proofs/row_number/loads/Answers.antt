-- `reader::row_number::loads` meets its contract.
use mathlib.Core.Path.{sym, ◌∙◌}
use mathlib.Core.List.{◌∷◌}
use Prim.Native.Nat.{◌/◌, ◌%◌}
use native.Mathlib.Omega.{arith}
use lib.Dec.{eqb, ltb, lt→ltb}
use Rattle.laws.proofs.Computed.{where_at}
use Rattle.sheet.specs.Reading.{row_number, row_with}
use Rattle.reader.proofs.row_number.Arms.{row_is, whole, direct_reads}
use borrow.Author.Tests.{lt-ltb}
use Rattle.reader.proofs.row_number.loads.Goals as goal

pub returns-then-b1-lt244 : goal.returns-then-b1-lt244
returns-then-b1-lt244 c ds = rw c.with_both.ensures (unfold row_with in (sym (rw (lt-ltb c.args.b1 0xF4 c.if-b1-lt244.true) at (sym (direct_reads 1 _ c.args.b1 (whole c.args.b1)))) ∙ row_is 1 _ (where_at (λ k. ltb k 0xF4) (λ k. eqb (row_number (6 ∷ 10 ∷ k / 16 ∷ k % 16 ∷ ds)) 1) 256 (unfold row_number in tt) c.args.b1 (omega arith) (lt→ltb _ _ c.if-b1-lt244.true))))

pub returns-else-b1-lt244 : goal.returns-else-b1-lt244
returns-else-b1-lt244 c ds = rw c.numbered.ensures (c.row_6a.ensures ds)

-- `reader::row_number::row_63` meets its contract.
use mathlib.Core.Path.{ap, ◌∙◌}
use Prim.Native.Nat.{ℕ, ◌%◌}
use native.Mathlib.Omega.{arith}
use Rattle.sheet.specs.Reading.{insn, row_number, row_with}
use Rattle.std.specs.Prelude.{Ok}
use Rattle.reader.proofs.row_number.Arms.{by-quarter}
use Rattle.reader.proofs.row_number.row_63.Goals as goal

pub returns-in-1 : goal.returns-in-1
returns-in-1 c ds = unfold row_with in ap (λ (r : ℕ). Ok (insn 84 r 0)) (omega arith) ∙ by-quarter 6 3 84 (c.args.b1 % 16) ds 1 (unfold row_number in tt) c.args.b1 (omega arith) c.in-1.is

pub returns-in-2 : goal.returns-in-2
returns-in-2 c ds = unfold row_with in ap (λ (r : ℕ). Ok (insn 83 r 0)) (omega arith) ∙ by-quarter 6 3 83 (c.args.b1 % 16) ds 2 (unfold row_number in tt) c.args.b1 (omega arith) c.in-2.is

pub returns-in-3 : goal.returns-in-3
returns-in-3 c ds = unfold row_with in ap (λ (r : ℕ). Ok (insn 82 r 0)) (omega arith) ∙ by-quarter 6 3 82 (c.args.b1 % 16) ds 3 (unfold row_number in tt) c.args.b1 (omega arith) c.in-3.is

pub returns-in_default : goal.returns-in_default
returns-in_default c ds = unfold row_with in by-quarter 6 3 0 (c.args.b1 % 16) ds 0 (unfold row_number in tt) c.args.b1 (omega arith) (omega arith)

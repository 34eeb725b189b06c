-- `reader::row_number::row_f` meets its contract.
use native.Mathlib.Omega.{arith}
use Rattle.sheet.specs.Reading.{row_number, row_with}
use Rattle.reader.proofs.row_number.Arms.{by_quarter_digit}
use Rattle.reader.proofs.row_number.row_f.Goals as goal

pub returns-in-0 : goal.returns-in-0
returns-in-0 c ds = unfold row_with in by_quarter_digit 15 56 ds 0 (unfold row_number in tt) c.args.l (omega arith) c.in-0.is

pub returns-in-1 : goal.returns-in-1
returns-in-1 c ds = unfold row_with in by_quarter_digit 15 60 ds 1 (unfold row_number in tt) c.args.l (omega arith) c.in-1.is

pub returns-in-2 : goal.returns-in-2
returns-in-2 c ds = unfold row_with in by_quarter_digit 15 65 ds 2 (unfold row_number in tt) c.args.l (omega arith) c.in-2.is

pub returns-in_default : goal.returns-in_default
returns-in_default c ds = unfold row_with in by_quarter_digit 15 66 ds 3 (unfold row_number in tt) c.args.l (omega arith) (omega arith)

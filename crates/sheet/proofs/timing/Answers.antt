-- `sheet::timing` meets its contract.
use borrow.Author.Tests.{ne_eqb}
use Prim.Native.Nat.{◌/◌}
use Rattle.sheet.proofs.FirstBytes.{by_first}
use borrow.Author.Rules.{rules}
use Rattle.sheet.proofs.timing.Goals as goal

pub returns-in-4 : goal.returns-in-4
returns-in-4 c = by_first _ (search rules) _ (rw (c.timing_4.ensures, c.in-4.is))

pub returns-in-5 : goal.returns-in-5
returns-in-5 c = by_first _ (search rules) _ (rw (c.timing_5.ensures, c.in-5.is))

pub returns-in-6 : goal.returns-in-6
returns-in-6 c = by_first _ (search rules) _ (rw (c.timing_6.ensures, c.in-6.is))

pub returns-in-7 : goal.returns-in-7
returns-in-7 c = by_first _ (search rules) _ (rw (c.timing_7.ensures, c.in-7.is))

pub returns-in_default : goal.returns-in_default
returns-in_default c = by_first _ (search rules) _ (rw (c.timing_other.ensures, ne_eqb (c.args.first / 16) 4 (search rules), ne_eqb (c.args.first / 16) 5 (search rules), ne_eqb (c.args.first / 16) 6 (search rules), ne_eqb (c.args.first / 16) 7 (search rules)))

-- `notation::row` meets its contract.
use native.Mathlib.Omega.{arith}
use borrow.Author.Rules.{rules}
use Rattle.std.proofs.Common.{ap}
use lib.ListN.{length-append}
use lib.ListN.{length}
use Rattle.notation.proofs.Widths.{row_width}
use Rattle.notation.proofs.row.Goals as goal

pub sign-requires : goal.sign-requires
sign-requires g c = omega (arith, simp length-append at (ap length c.loop-c.invariant), row_width c.args.at c.args.insn (search rules) (search rules))

pub returns-clause-upper_bound : goal.returns-clause-upper_bound
returns-clause-upper_bound g c = omega (arith, simp length-append at (ap length c.loop-c.invariant), row_width c.args.at c.args.insn (search rules) (search rules))

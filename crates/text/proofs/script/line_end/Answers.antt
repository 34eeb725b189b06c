-- `text::script::line_end` meets its contract.
use native.Mathlib.Omega.{arith}
use lib.ListN.{drop, length-drop}
use Rattle.std.proofs.lemmas.List.{take_rest}
use Rattle.text.proofs.script.Ends.{up_to_found, up_to_end}
use Rattle.text.proofs.script.line_end.Goals as goal

pub returns-in-Some-clause-value : goal.returns-in-Some-clause-value
returns-in-Some-clause-value c =
    let e = rw take_rest at c.in-Some.ensures in omega (arith, up_to_found (drop c.args.from c.args.script.now) c.in-Some.i e)

pub returns-in-None-clause-value : goal.returns-in-None-clause-value
returns-in-None-clause-value c =
    let e = rw take_rest at c.in-None.ensures in omega (arith, up_to_end (drop c.args.from c.args.script.now) e, length-drop c.args.from c.args.script.now)

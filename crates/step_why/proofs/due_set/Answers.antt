-- `step_why::due_set` meets its contract.
use Rattle.step_why.proofs.Sources.{by_pattern}
use Rattle.step_why.proofs.due_set.Goals as goal

pub returns : goal.returns
returns c = by_pattern c.args.il c.args.mask c.requires.0 c.requires.1

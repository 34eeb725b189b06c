-- `compare_lines::cut_short` meets its contract.
use Rattle.compare_lines.proofs.Ending.{short-missing}
use Rattle.compare_lines.proofs.cut_short.Goals as goal

pub returns-in-Matching : goal.returns-in-Matching
returns-in-Matching c = rw c.in-Matching.is (short-missing (rw c.in-Matching.is at c.requires) c.if-at-size.true)

-- `compare_lines::onward` meets its contract.
use Rattle.compare_lines.proofs.Ending.{onward-matched}
use Rattle.compare_lines.proofs.onward.Goals as goal

pub returns-in-Matching : goal.returns-in-Matching
returns-in-Matching c = rw c.in-Matching.is (onward-matched (rw c.in-Matching.is at c.requires.0))

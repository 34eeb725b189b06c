-- `row_ram::read_hl::read_by_hl` meets its contract.
use Rattle.std.proofs.Common.{rules}
use Rattle.row_ram.specs.Groups.{read_by_hl}
use Rattle.row_ram.proofs.Absent.{absent-read-by-hl}
use Rattle.row_ram.proofs.Around.{stopped_there}
use Rattle.row_ram.proofs.read_hl.read_by_hl.Goals as goal

pub returns-in_err-at : goal.returns-in_err-at
returns-in_err-at c = stopped_there _ read_by_hl _ _ _ _ _ _ _ (search rules) c.in_err-at.ensures (absent-read-by-hl _ _ _ _) c.requires.row

-- `row_ram::write_hl::write_by_hl` meets its contract.
use Rattle.std.proofs.Common.{rules}
use Rattle.row_ram.specs.Groups.{written_by_hl}
use Rattle.row_ram.proofs.Absent.{absent-written-by-hl}
use Rattle.row_ram.proofs.Around.{stopped_there}
use Rattle.row_ram.proofs.write_hl.write_by_hl.Goals as goal

pub returns-in_err-at : goal.returns-in_err-at
returns-in_err-at c = stopped_there _ written_by_hl _ _ _ _ _ _ _ (search rules) c.in_err-at.ensures (absent-written-by-hl _ _ _ _) c.requires.row

-- `row_ram::write_y::write_by_y` meets its contract.
use Rattle.std.proofs.Common.{rules}
use Rattle.row_ram.specs.Groups.{written_by_y}
use Rattle.row_ram.proofs.Absent.{absent-written-by-y}
use Rattle.row_ram.proofs.Around.{stopped_there}
use Rattle.row_ram.proofs.write_y.write_by_y.Goals as goal

pub returns-in_err-at : goal.returns-in_err-at
returns-in_err-at c = stopped_there _ written_by_y _ _ _ _ _ _ _ (search rules) c.in_err-at.ensures (absent-written-by-y _ _ _ _) c.requires.row

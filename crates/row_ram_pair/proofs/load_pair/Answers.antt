-- `row_ram_pair::load_pair` meets its contract.
use mathlib.Core.Path.{refl}
use Rattle.std.proofs.Common.{rules}
use Rattle.row_ram.proofs.Around.{stopped_there}
use Rattle.row_ram_pair.specs.Groups.{loads}
use Rattle.row_ram_pair.proofs.Rows.{absent-loaded, absent-loaded-beside}
use Rattle.row_ram_pair.proofs.Around.{loaded-there}
use Rattle.row_ram_pair.proofs.load_pair.Goals as goal

pub returns-in_err-at : goal.returns-in_err-at
returns-in_err-at c = stopped_there _ loads _ _ _ _ _ _ _ (search rules) c.in_err-at.ensures (absent-loaded _ _ _ _ _ refl) c.requires.row

pub returns-in_err-beside : goal.returns-in_err-beside
returns-in_err-beside c = stopped_there _ loads _ _ _ _ _ _ _ (search rules) c.in_err-beside.ensures (absent-loaded-beside _ _ _ _ _ refl) c.requires.row

pub returns : goal.returns
returns c = loaded-there _ _ _ _ _ _ _ _ _ _ c.in_ok-at.ensures c.in_ok-beside.ensures c.requires.row c.peek-2.ensures c.peek.ensures c.hl_loaded.ensures

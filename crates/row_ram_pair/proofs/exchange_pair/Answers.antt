-- `row_ram_pair::exchange_pair` meets its contract.
use mathlib.Core.Path.{refl}
use Rattle.std.proofs.Common.{rules}
use Rattle.record.proofs.Places.{set_nibble}
use Rattle.row_ram.proofs.Around.{stopped_there}
use Rattle.row_ram_pair.specs.Groups.{exchanges}
use Rattle.row_ram_pair.proofs.Rows.{absent-exchanged, absent-exchanged-beside}
use Rattle.row_ram_pair.proofs.Around.{exchanged-there}
use Rattle.row_ram_pair.proofs.exchange_pair.Goals as goal

pub returns-in_err-at : goal.returns-in_err-at
returns-in_err-at c = stopped_there _ exchanges _ _ _ _ _ _ _ (search rules) c.in_err-at.ensures (absent-exchanged _ _ _ _ _ refl) c.requires.row

pub returns-in_err-beside : goal.returns-in_err-beside
returns-in_err-beside c = stopped_there _ exchanges _ _ _ _ _ _ _ (search rules) c.in_err-beside.ensures (absent-exchanged-beside _ _ _ _ _ refl) c.requires.row

pub peek-hr-requires : goal.peek-hr-requires
peek-hr-requires c = (rw c.poke.ensures (set_nibble _ _ _ c.requires.ram c.requires.regs.lr), c.in_ok-beside.ensures.1)

pub returns : goal.returns
returns c = exchanged-there _ _ _ _ _ _ _ _ _ _ c.in_ok-at.ensures c.in_ok-beside.ensures _ _ c.requires.row c.peek-lr.ensures c.poke.ensures c.peek-hr.ensures c.poke-2.ensures c.hl_loaded.ensures

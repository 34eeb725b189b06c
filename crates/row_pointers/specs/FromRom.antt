-- What a row that loads from the ROM by DP gives, held against the table's definition.
use Rattle.std.specs.Prelude.{ℕ, ◌+◌, List, Ok, ◌≡◌}
use Rattle.device.specs.declared.Options.{Options}
use Rattle.sheet.specs.Reading.{insn}
use Rattle.record.specs.declared.Core.{Core}
use Rattle.record.specs.With.{assembled}
use Rattle.row.specs.Rows.{executed}
use Rattle.row_pointers.specs.Pointed.{pointed_as}
use Rattle.row_pointers.specs.declared.Pointed.{Pointed}

-- where the byte stands at 1000h + DP, the row gives what x says, whatever RAM, the options and the operands are
pub record FromRom (m : Core) (row byte : ℕ) (x : Pointed) : Type 0 where
  pub same : (rom : ℕ → ℕ) (options : Options) (a b : ℕ) (l : List ℕ) → rom (0x1000 + m.ptrs.dp) ≡ byte → pointed_as m (Ok x) l ≡ executed (record { rom = rom; options = options; insn = insn row a b }) (assembled m l)

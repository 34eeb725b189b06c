-- What executing a row gives, held against the table's definition.
use Rattle.std.specs.Prelude.{ℕ, List, Result, ◌≡◌}
use Rattle.numbers.specs.declared.Stop.{Stop}
use Rattle.device.specs.declared.Device.{Device}
use Rattle.device.specs.declared.Options.{Options}
use Rattle.sheet.specs.Fields.{InFields}
use Rattle.sheet.specs.declared.Insn.{Insn}
use Rattle.record.specs.Valid.{ValidCore, Nibbles}
use Rattle.record.specs.declared.Core.{Core}
use Rattle.row.specs.Rows.{executed}
use Rattle.row_registers.specs.Quiet.{after_act}
use Rattle.record.specs.With.{assembled}
use Rattle.row_ends.specs.declared.Act.{Act}
use Rattle.row_pointers.specs.Pointed.{after_pointer}
use Rattle.row_pointers.specs.declared.Pointed.{Pointed}
use Rattle.row.specs.Turns.{done_as}
use Rattle.row.specs.declared.Turn.{Turn}

-- what executing a row asks: a valid record with RAM l, and an instruction of the sheet
pub record Ready (d : Device) (m : Core) (l : List ℕ) (i : Insn) : Type 0 where
  pub core : ValidCore d m
  pub ram : Nibbles l
  pub insn : InFields i

-- the row in its surroundings takes RAM from l to k and gives what x says
pub record Performs (rom : ℕ → ℕ) (options : Options) (m : Core) (i : Insn) (l k : List ℕ) (x : Result Turn Stop) : Type 0 where
  pub same : done_as m x k ≡ executed (record { rom = rom; options = options; insn = i }) (assembled m l)

-- the scalars after a row that changes PC and the registers, or the pointers and the timers too
abbrev pub turn_of : Core → Act → Turn
turn_of m x = record { cycles = x.cycles; core = after_act m x }

abbrev pub turn_by : Core → Pointed → Turn
turn_by m x = record { cycles = x.act.cycles; core = after_pointer m x }

-- What a row that leaves RAM alone gives, held against the table's definition.
use Rattle.std.specs.Prelude.{ℕ, ◌<◌, List, ◌≡◌}
use Rattle.numbers.specs.Sizes.{addresses}
use Rattle.device.specs.declared.Options.{Options}
use Rattle.sheet.specs.Reading.{insn}
use Rattle.record.specs.With.{assembled, core_with_regs, core_with_pc}
use Rattle.record.specs.declared.Core.{Core}
use Rattle.row.specs.Rows.{Done, spent, executed}
use Rattle.row_ends.specs.declared.Act.{Act}

-- the scalars after a row that changes PC and the registers
abbrev pub after_act : Core → Act → Core
after_act m x = core_with_pc (core_with_regs m x.regs) x.pc

abbrev pub done_by : Core → Act → List ℕ → Done
done_by m x l = spent x.cycles (assembled (after_act m x) l)

-- the row with its operand gives what x says, whatever RAM, ROM, the options and the other operand are
pub record Quiet (m : Core) (row a : ℕ) (x : Act) : Type 0 where
  pub same : (rom : ℕ → ℕ) (options : Options) (b : ℕ) (l : List ℕ) → done_by m x l ≡ executed (record { rom = rom; options = options; insn = insn row a b }) (assembled m l)

-- what the rows ask of the registers and the operand
pub record Low (m : Core) (k : ℕ) : Type 0 where
  pub acc : m.regs.acc < 16
  pub hr : m.regs.hr < 16
  pub lr : m.regs.lr < 16
  pub pc : m.pc < addresses
  pub operand : k < 16

-- What a row of a pointer or a timer gives, held against the table's definition.
use Rattle.std.specs.Prelude.{ℕ, ◌<◌, true, false, List, Result, Ok, Err, ◌≡◌, eqb}
use Rattle.numbers.specs.Numbered.{stop_number}
use Rattle.numbers.specs.Sizes.{addresses}
use Rattle.numbers.specs.declared.Stop.{Stop}
use Rattle.device.specs.declared.Options.{Options}
use Rattle.sheet.specs.Reading.{insn}
use Rattle.record.specs.Ram.{bank_of}
use Rattle.record.specs.Valid.{ValidRegisters, ValidPointers, ValidTimers}
use Rattle.record.specs.declared.Core.{Core}
use Rattle.record.specs.With.{assembled, core_with_regs, core_with_pc, core_with_ptrs, core_with_timers}
use Rattle.row.specs.Rows.{Done, spent, stops, executed}
use Rattle.row_ends.specs.declared.Act.{Act}
use Rattle.row_pointers.specs.declared.Pointed.{Pointed}
use Rattle.laws.specs.Among.{among}

-- the scalars with PC, the registers, the pointers and the timers anew
abbrev pub after_pointer : Core → Pointed → Core
after_pointer m x = core_with_timers (core_with_ptrs (core_with_pc (core_with_regs m x.act.regs) x.act.pc) x.ptrs) x.timers

-- what came of the scalars m, where RAM is l: a stop leaves the scalars
abbrev pub pointed_as : Core → Result Pointed Stop → List ℕ → Done
pointed_as m (Ok x) l = spent x.act.cycles (assembled (after_pointer m x) l)
pointed_as m (Err s) l = stops (stop_number s) (assembled m l)

-- a row that leaves the pointers and the timers
abbrev pub loaded : Core → Result Act Stop → Result Pointed Stop
loaded m (Ok x) = Ok (record { act = x; ptrs = m.ptrs; timers = m.timers })
loaded m (Err s) = Err s

-- the row gives what x says, whatever RAM, ROM, the options and the operands are
pub record Leaves (m : Core) (row : ℕ) (x : Result Pointed Stop) : Type 0 where
  pub same : (rom : ℕ → ℕ) (options : Options) (a b : ℕ) (l : List ℕ) → pointed_as m x l ≡ executed (record { rom = rom; options = options; insn = insn row a b }) (assembled m l)

-- what such a row asks of the record
pub record Asks (rows : List ℕ) (m : Core) (row : ℕ) : Type 0 where
  pub regs : ValidRegisters m.regs
  pub ptrs : ValidPointers m.ptrs
  pub timers : ValidTimers m.timers
  pub pc : m.pc < addresses
  pub listed : among rows row ≡ true

-- "Timer, DP and SP rows need P9.3 = 0, else 31."
abbrev pub Banked : Core → Result Unit Stop → Type 0
Banked m (Ok t) = bank_of m ≡ 0
Banked m (Err s) = (s ≡ Stop.AbsentRamAddress) × (eqb (bank_of m) 0 ≡ false)

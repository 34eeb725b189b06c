-- The ends of the rows of interrupt control: the scalars after, by what the row leaves in EI, or with ACC and the mask exchanged.
use Rattle.std.specs.Prelude.{ℕ, ◌+◌, ◌%◌, Bool, true}
use Rattle.std.specs.Int.Bits.{bit_and}
use Rattle.numbers.specs.Sizes.{addresses}
use Rattle.record.specs.With.{core_with_regs, core_with_pc, core_with_ints, interrupts_of}
use Rattle.record.specs.declared.Registers.{Registers}
use Rattle.record.specs.declared.Interrupts.{Interrupts}
use Rattle.record.specs.declared.Core.{Core}
use Rattle.row.specs.declared.Turn.{Turn}

-- - - 1, past a row of n bytes
abbrev pub leaving : Core → ℕ → Interrupts → ℕ → Core
leaving m acc i n =
    let regs : Registers = record { acc = acc; hr = m.regs.hr; lr = m.regs.lr; cf = m.regs.cf; zf = m.regs.zf; sf = true } in
    core_with_ints (core_with_pc (core_with_regs m regs) ((m.pc + n) % addresses)) i

abbrev pub latches_left : Core → Bool → ℕ → Turn
latches_left m ei r = record {
  cycles = 2;
  core = leaving m m.regs.acc (interrupts_of ei (bit_and m.ints.il r) m.ints.mask) 2;
}

abbrev pub exchanged : Core → Turn
exchanged m = record {
  cycles = 1;
  core = leaving m m.ints.mask (interrupts_of m.ints.ei m.ints.il m.regs.acc) 1;
}

-- A valid part in place of another leaves the record valid. Only P16 and the mode are tied, so that the latches and the mode come together.
use Prim.Native.Nat.{ℕ, ◌<◌}
use mathlib.Core.Bool.{Bool}
use Rattle.numbers.specs.Sizes.{addresses}
use Rattle.device.specs.declared.Device.{Device}
use Rattle.frame.specs.Frame.{PinsInRange}
use Rattle.frame.specs.declared.Pins.{Pins}
use Rattle.ports.specs.declared.Ports.{Ports}
use Rattle.ports.specs.declared.Mode.{Mode}
use Rattle.record.specs.With.{core_with_regs, core_with_pc, core_with_ptrs, core_with_ints, core_with_timers, core_with_ports, core_with_pins, core_with_mode, core_with_mark}
use Rattle.record.specs.Valid.{ValidRegisters, ValidPointers, ValidInterrupts, ValidTimers, ValidPorts, ModeFits, ValidCore}
use Rattle.record.specs.declared.Registers.{Registers}
use Rattle.record.specs.declared.Pointers.{Pointers}
use Rattle.record.specs.declared.Interrupts.{Interrupts}
use Rattle.record.specs.declared.Timers.{Timers}
use Rattle.record.specs.declared.Core.{Core}

module _ {d : Device} {m : Core} (v : ValidCore d m) where
  pub with_regs : {r : Registers} → ValidRegisters r → ValidCore d (core_with_regs m r)
  with_regs h = record { regs = h; pc = v.pc; ptrs = v.ptrs; ints = v.ints; timers = v.timers; ports = v.ports; pins = v.pins; mode = v.mode }

  pub with-pc : {pc : ℕ} → pc < addresses → ValidCore d (core_with_pc m pc)
  with-pc h = record { regs = v.regs; pc = h; ptrs = v.ptrs; ints = v.ints; timers = v.timers; ports = v.ports; pins = v.pins; mode = v.mode }

  pub with-ptrs : {p : Pointers} → ValidPointers p → ValidCore d (core_with_ptrs m p)
  with-ptrs h = record { regs = v.regs; pc = v.pc; ptrs = h; ints = v.ints; timers = v.timers; ports = v.ports; pins = v.pins; mode = v.mode }

  pub with-ints : {i : Interrupts} → ValidInterrupts i → ValidCore d (core_with_ints m i)
  with-ints h = record { regs = v.regs; pc = v.pc; ptrs = v.ptrs; ints = h; timers = v.timers; ports = v.ports; pins = v.pins; mode = v.mode }

  pub with-timers : {t : Timers} → ValidTimers t → ValidCore d (core_with_timers m t)
  with-timers h = record { regs = v.regs; pc = v.pc; ptrs = v.ptrs; ints = v.ints; timers = h; ports = v.ports; pins = v.pins; mode = v.mode }

  pub with-pins : {p : Pins} → PinsInRange d p → ValidCore d (core_with_pins m p)
  with-pins h = record { regs = v.regs; pc = v.pc; ptrs = v.ptrs; ints = v.ints; timers = v.timers; ports = v.ports; pins = h; mode = v.mode }

  pub with-ports-and-mode : {p : Ports} {o : Mode} → ValidPorts d p → ModeFits o p.p16 → ValidCore d (core_with_mode (core_with_ports m p) o)
  with-ports-and-mode h f = record { regs = v.regs; pc = v.pc; ptrs = v.ptrs; ints = v.ints; timers = v.timers; ports = h; pins = v.pins; mode = f }

  pub with-mark : {b : Bool} → ValidCore d (core_with_mark m b)
  with-mark = record { regs = v.regs; pc = v.pc; ptrs = v.ptrs; ints = v.ints; timers = v.timers; ports = v.ports; pins = v.pins; mode = v.mode }

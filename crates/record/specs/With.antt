-- The record with one part anew, and all else as it was.
use Rattle.std.specs.Prelude.{ℕ, Bool, List}
use Rattle.frame.specs.declared.Pins.{Pins}
use Rattle.ports.specs.declared.Ports.{Ports}
use Rattle.ports.specs.declared.Mode.{Mode}
use Rattle.due.specs.Due.{due_number}
use Rattle.record.specs.declared.Registers.{Registers}
use Rattle.record.specs.declared.Pointers.{Pointers}
use Rattle.record.specs.declared.Interrupts.{Interrupts}
use Rattle.record.specs.declared.Timers.{Timers}
use Rattle.record.specs.declared.Core.{Core}
use Rattle.record.specs.declared.Machine.{Machine}

-- the scalars with a RAM
abbrev pub assembled : Core → List ℕ → Machine
assembled m l = record { core = m; ram = l }

abbrev pub core_with_regs : Core → Registers → Core
core_with_regs m r = record { regs = r; pc = m.pc; ptrs = m.ptrs; ints = m.ints; timers = m.timers; ports = m.ports; pins = m.pins; mode = m.mode; mark = m.mark }

abbrev pub core_with_pc : Core → ℕ → Core
core_with_pc m pc = record { regs = m.regs; pc = pc; ptrs = m.ptrs; ints = m.ints; timers = m.timers; ports = m.ports; pins = m.pins; mode = m.mode; mark = m.mark }

abbrev pub core_with_ptrs : Core → Pointers → Core
core_with_ptrs m p = record { regs = m.regs; pc = m.pc; ptrs = p; ints = m.ints; timers = m.timers; ports = m.ports; pins = m.pins; mode = m.mode; mark = m.mark }

abbrev pub core_with_ints : Core → Interrupts → Core
core_with_ints m i = record { regs = m.regs; pc = m.pc; ptrs = m.ptrs; ints = i; timers = m.timers; ports = m.ports; pins = m.pins; mode = m.mode; mark = m.mark }

abbrev pub core_with_timers : Core → Timers → Core
core_with_timers m t = record { regs = m.regs; pc = m.pc; ptrs = m.ptrs; ints = m.ints; timers = t; ports = m.ports; pins = m.pins; mode = m.mode; mark = m.mark }

abbrev pub core_with_ports : Core → Ports → Core
core_with_ports m p = record { regs = m.regs; pc = m.pc; ptrs = m.ptrs; ints = m.ints; timers = m.timers; ports = p; pins = m.pins; mode = m.mode; mark = m.mark }

abbrev pub core_with_pins : Core → Pins → Core
core_with_pins m p = record { regs = m.regs; pc = m.pc; ptrs = m.ptrs; ints = m.ints; timers = m.timers; ports = m.ports; pins = p; mode = m.mode; mark = m.mark }

abbrev pub core_with_mode : Core → Mode → Core
core_with_mode m o = record { regs = m.regs; pc = m.pc; ptrs = m.ptrs; ints = m.ints; timers = m.timers; ports = m.ports; pins = m.pins; mode = o; mark = m.mark }

abbrev pub core_with_mark : Core → Bool → Core
core_with_mark m b = record { regs = m.regs; pc = m.pc; ptrs = m.ptrs; ints = m.ints; timers = m.timers; ports = m.ports; pins = m.pins; mode = m.mode; mark = b }

-- EI, the latches, the mask, and the source that is due by them: "Frames, instructions, acceptance, timers, waking and reset all keep it true" (Q-11), since every place that changes one of them makes all four by this
abbrev pub interrupts_of : Bool → ℕ → ℕ → Interrupts
interrupts_of ei il mask = record { ei = ei; il = il; mask = mask; due = due_number il mask }

-- What stands at a place that the operation column names, what reading it does besides, and what putting a nibble there does.
use Rattle.std.specs.Prelude.{ℕ, ◌+◌, ◌*◌, ◌/◌, ◌%◌, ◌^◌, List, eqb, ltb, get_or, set}
use Rattle.numbers.specs.Sizes.{ram_nibbles}
use Rattle.laws.specs.Choice.{pick}
use Rattle.numbers.specs.ComesBack.{absent_ram_address}
use Rattle.device.specs.declared.Device.{Device}
use Rattle.device.specs.declared.Options.{Options}
use Rattle.sheet.specs.Operation.{Register, Given, Cell, Port, Part, Pointer, Half, Place}
use Rattle.sheet.specs.declared.Insn.{Insn}
use Rattle.bits.specs.Bits.{bit_of}
use Rattle.ports.specs.Ports.{latch_of, read_port, write_port, enters, mode_after, ReadDone}
use Rattle.ports.specs.declared.Ports.{Ports}
use Rattle.record.specs.With.{assembled, core_with_regs, core_with_pc, core_with_ptrs, core_with_ints, core_with_timers, core_with_ports, core_with_mode, interrupts_of}
use Rattle.record.specs.Ram.{bank_of, at_hl, at_x, beside_x, at_y}
use Rattle.record.specs.declared.Registers.{Registers}
use Rattle.record.specs.declared.Pointers.{Pointers}
use Rattle.record.specs.declared.Interrupts.{Interrupts}
use Rattle.record.specs.declared.Timers.{Timers}
use Rattle.record.specs.declared.Core.{Core}
use Rattle.record.specs.declared.Machine.{Machine}

-- the record with one part anew
abbrev pub with_registers : Machine → Registers → Machine
with_registers m r = assembled (core_with_regs m.core r) m.ram

abbrev pub with_pc : Machine → ℕ → Machine
with_pc m pc = assembled (core_with_pc m.core pc) m.ram

abbrev pub with_pointers : Machine → Pointers → Machine
with_pointers m p = assembled (core_with_ptrs m.core p) m.ram

abbrev pub with_interrupts : Machine → Interrupts → Machine
with_interrupts m i = assembled (core_with_ints m.core i) m.ram

abbrev pub with_timers : Machine → Timers → Machine
with_timers m t = assembled (core_with_timers m.core t) m.ram

abbrev pub with_ports : Machine → Ports → Machine
with_ports m p = assembled (core_with_ports m.core p) m.ram

abbrev pub with_ram : Machine → List ℕ → Machine
with_ram m l = assembled m.core l

-- what is around a row: the ROM by address, the options, and the instruction with its operands
pub record Around : Type 0 where
  pub rom : ℕ → ℕ
  pub options : Options
  pub insn : Insn

-- a stop of document 01's table or 0, and the nibble; a stop or 0, and the record
pub record Got : Type 0 where
  pub stop : ℕ
  pub value : ℕ

pub record Put : Type 0 where
  pub stop : ℕ
  pub machine : Machine

abbrev pub found : ℕ → Got
found v = record { stop = 0; value = v }

abbrev pub got_stop : ℕ → Got
got_stop n = record { stop = n; value = 0 }

abbrev pub there : Machine → Put
there m = record { stop = 0; machine = m }

abbrev pub register_of : Registers → Register → ℕ
register_of r Register.acc = r.acc
register_of r Register.hr = r.hr
register_of r Register.lr = r.lr

-- a bit of a nibble is named by its weight
abbrev pub weight_of : ℕ → ℕ
weight_of n = 2 ^ (n % 4)

abbrev pub given_of : Registers → Insn → Given → ℕ
given_of r i Given.nothing = 0
given_of r i Given.operand_k = i.a
given_of r i Given.unit = 1
given_of r i Given.bit_b = weight_of i.a
given_of r i Given.bit_l = weight_of r.lr
given_of r i Given.cf = bit_of r.cf
given_of r i Given.zf = bit_of r.zf

abbrev pub cell_of : Core → Insn → Cell → ℕ
cell_of m i Cell.by_hl = at_hl m
cell_of m i Cell.by_x = at_x m i.a
cell_of m i Cell.beside_x_lem = beside_x m i.a
cell_of m i Cell.by_y = at_y i.b

-- the number of a port: p, or LR 3..2 + 4
abbrev pub port_of : Registers → Insn → Port → ℕ
port_of r i Port.pins_p = i.b
port_of r i Port.pins_l = r.lr / 4 + 4
port_of r i Port.latch_p = i.b
port_of r i Port.latch_l = r.lr / 4 + 4

abbrev pub part_of : Part → ℕ → ℕ
part_of Part.low n = n % 16
part_of Part.middle n = n / 16 % 16
part_of Part.high n = n / 256 % 16

abbrev pub pointer_of : Core → Pointer → ℕ
pointer_of m Pointer.sp = m.ptrs.sp
pointer_of m (Pointer.dp p) = part_of p m.ptrs.dp
pointer_of m (Pointer.ta p) = part_of p m.timers.ta
pointer_of m (Pointer.tb p) = part_of p m.timers.tb

-- "Timer, DP and SP rows need P9.3 = 0, else 31."
abbrev pub in_bank0 : {A : Type 0} → Core → A → A → A
in_bank0 m a b = pick (eqb (bank_of m) 0) a b

abbrev pub half_of : Half → ℕ → ℕ
half_of Half.low_half_lem b = b % 16
half_of Half.high_half_lem b = b / 16

-- what reading a port does, and what it gives: its pins, or its latch
abbrev pub port_read : Machine → Around → Port → ReadDone
port_read m w p = read_port w.options.device w.options.sound m.core.pins m.core.ports (port_of m.core.regs w.insn p)

abbrev pub pins_got : ReadDone → Got
pins_got r = record { stop = r.stop; value = r.value }

abbrev pub port_got : Machine → Around → Port → Got
port_got m w Port.pins_p = pins_got (port_read m w Port.pins_p)
port_got m w Port.pins_l = pins_got (port_read m w Port.pins_l)
port_got m w Port.latch_p = found (latch_of m.core.ports w.insn.b)
port_got m w Port.latch_l = found (latch_of m.core.ports (m.core.regs.lr / 4 + 4))

-- "LDAX reads ROM at 1000h + DP"
abbrev pub get_of : Machine → Around → Place → Got
get_of m w (Place.register r) = found (register_of m.core.regs r)
get_of m w (Place.given g) = found (given_of m.core.regs w.insn g)
get_of m w (Place.cell c) = pick (ltb (cell_of m.core w.insn c) ram_nibbles) (found (get_or m.ram (cell_of m.core w.insn c) 0)) (got_stop absent_ram_address)
get_of m w (Place.port p) = port_got m w p
get_of m w (Place.pointer p) = in_bank0 m.core (found (pointer_of m.core p)) (got_stop absent_ram_address)
get_of m w (Place.rom h) = found (half_of h (w.rom (0x1000 + m.core.ptrs.dp)))
get_of m w Place.mask = found m.core.ints.mask

-- "Reading or testing P4 or P8 .. sets the latch to 15"
abbrev pub after_port_read : Machine → Around → Port → Machine
after_port_read m w Port.pins_p = with_ports m (port_read m w Port.pins_p).ports
after_port_read m w Port.pins_l = with_ports m (port_read m w Port.pins_l).ports
after_port_read m w Port.latch_p = m
after_port_read m w Port.latch_l = m

abbrev pub after_reading : Machine → Around → Place → Machine
after_reading m w (Place.register r) = m
after_reading m w (Place.given g) = m
after_reading m w (Place.cell c) = m
after_reading m w (Place.port p) = after_port_read m w p
after_reading m w (Place.pointer p) = m
after_reading m w (Place.rom h) = m
after_reading m w Place.mask = m

abbrev pub register_put : Registers → Register → ℕ → Registers
register_put r Register.acc v = record { acc = v; hr = r.hr; lr = r.lr; cf = r.cf; zf = r.zf; sf = r.sf }
register_put r Register.hr v = record { acc = r.acc; hr = v; lr = r.lr; cf = r.cf; zf = r.zf; sf = r.sf }
register_put r Register.lr v = record { acc = r.acc; hr = r.hr; lr = v; cf = r.cf; zf = r.zf; sf = r.sf }

abbrev pub part_put : Part → ℕ → ℕ → ℕ
part_put Part.low n v = n / 16 * 16 + v
part_put Part.middle n v = n / 256 * 256 + v * 16 + n % 16
part_put Part.high n v = v * 256 + n % 256

abbrev pub pointer_put : Machine → Pointer → ℕ → Machine
pointer_put m Pointer.sp v = with_pointers m (record { sp = v; dp = m.core.ptrs.dp })
pointer_put m (Pointer.dp p) v = with_pointers m (record { sp = m.core.ptrs.sp; dp = part_put p m.core.ptrs.dp v })
pointer_put m (Pointer.ta p) v = with_timers m (record { base = m.core.timers.base; ta = part_put p m.core.timers.ta v; tb = m.core.timers.tb })
pointer_put m (Pointer.tb p) v = with_timers m (record { base = m.core.timers.base; ta = m.core.timers.ta; tb = part_put p m.core.timers.tb v })

-- "Writing P16 with bit 2 set enters hold .. or sleep; the time base becomes 0"
abbrev pub base_after : ℕ → ℕ → ℕ → ℕ
base_after base n v = pick (enters n v) 0 base

abbrev pub timers_after : Timers → ℕ → ℕ → Timers
timers_after t n v = record { base = base_after t.base n v; ta = t.ta; tb = t.tb }

abbrev pub port_written : Device → Machine → ℕ → ℕ → Machine
port_written d m n v =
    let timed = core_with_timers m.core (timers_after m.core.timers n v) in
    assembled (core_with_mode (core_with_ports timed (write_port d m.core.ports n v).ports) (mode_after m.core.mode n v)) m.ram

abbrev pub put_of : Machine → Around → Place → ℕ → Put
put_of m w (Place.register r) v = there (with_registers m (register_put m.core.regs r v))
put_of m w (Place.given g) v = there m
put_of m w (Place.cell c) v = record { stop = pick (ltb (cell_of m.core w.insn c) ram_nibbles) 0 absent_ram_address; machine = with_ram m (set m.ram (cell_of m.core w.insn c) v) }
put_of m w (Place.port p) v = record { stop = (write_port w.options.device m.core.ports (port_of m.core.regs w.insn p) v).stop; machine = port_written w.options.device m (port_of m.core.regs w.insn p) v }
put_of m w (Place.pointer p) v = record { stop = in_bank0 m.core 0 absent_ram_address; machine = pointer_put m p v }
put_of m w (Place.rom h) v = there m
put_of m w Place.mask v = there (with_interrupts m (interrupts_of m.core.ints.ei m.core.ints.il v))

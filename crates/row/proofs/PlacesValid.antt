-- What stands at a place of a valid record is a nibble, and a nibble put there leaves the record valid.
use Prim.Native.Nat.{ℕ, ◌+◌, ◌/◌, ◌%◌, ◌^◌, ◌<◌}
use mathlib.Core.Bool.{Bool, true, false}
use native.Mathlib.Nat.{lt_of_lt_of_le}
use native.Mathlib.Omega.{arith}
use lib.Dec.{T, eqb, ltb, ltb→lt}
use lib.ListN.{get_or}
use Rattle.laws.specs.Choice.{pick}
use Rattle.laws.proofs.Computed.{at}
use Rattle.bits.specs.Bits.{bit_of}
use Rattle.device.specs.Device.{p4_pins}
use Rattle.device.specs.declared.Device.{Device}
use Rattle.device.proofs.Laws.{p4_pins_lt, also_nibble, banked}
use Rattle.frame.specs.declared.Pins.{Pins}
use Rattle.frame.specs.Frame.{PinsInRange}
use Rattle.sheet.specs.Operation.{Register, Given, Port, Part, Pointer, Half, Place}
use Rattle.sheet.specs.declared.Insn.{Insn}
use Rattle.ports.specs.Ports.{latch_of, port_pins, read_port, is_readable, ReadDone}
use Rattle.ports.specs.declared.Ports.{Ports}
use Rattle.record.specs.Valid.{ValidPorts, Valid}
use Rattle.record.specs.declared.Machine.{Machine}
use Rattle.row.specs.Places.{Around, found, got_stop, weight_of, given_of, part_of, part_put, half_of, cell_of, get_of}
use Rattle.row.proofs.PortsValid.{chosen_lt}

-- the operand k of a row that names it is a nibble
abbrev pub LowGiven : Given → Insn → Type 0
LowGiven Given.nothing i = Unit
LowGiven Given.operand_k i = i.a < 16
LowGiven Given.unit i = Unit
LowGiven Given.bit_b i = Unit
LowGiven Given.bit_l i = Unit
LowGiven Given.cf i = Unit
LowGiven Given.zf i = Unit

abbrev pub LowPlace : Place → Insn → Type 0
LowPlace (Place.register r) i = Unit
LowPlace (Place.given g) i = LowGiven g i
LowPlace (Place.cell c) i = Unit
LowPlace (Place.port p) i = Unit
LowPlace (Place.pointer p) i = Unit
LowPlace (Place.rom h) i = Unit
LowPlace Place.mask i = Unit

bit_low : (b : Bool) → bit_of b < 16
bit_low true = omega arith
bit_low false = omega arith

weight_low : (n : ℕ) → weight_of n < 16
weight_low n = ltb→lt (2 ^ (n % 4)) 16 (at (λ k. ltb (2 ^ k) 16) 4 tt (n % 4) (omega arith))

part_low : (p : Part) (n : ℕ) → part_of p n < 16
part_low Part.low n = omega arith
part_low Part.middle n = omega arith
part_low Part.high n = omega arith

half_low : (h : Half) (b : ℕ) → b < 256 → half_of h b < 16
half_low Half.low_half_lem b l = omega arith
half_low Half.high_half_lem b l = omega arith

pub latch_low : {d : Device} (p : Ports) (n : ℕ) → ValidPorts d p → latch_of p n < 16
unfolding latch_of
latch_low {d} p n h =
    chosen_lt (eqb n 3) p.p3 _ (lt_of_lt_of_le ((banked d p.p3).sound h.also.p3).0 (also_nibble d 3))
    (chosen_lt (eqb n 4) p.p4 _ h.p4
    (chosen_lt (eqb n 5) p.p5 _ (lt_of_lt_of_le h.also.p5 (also_nibble d 5))
    (chosen_lt (eqb n 6) p.p6 _ (lt_of_lt_of_le h.also.p6 (also_nibble d 6))
    (chosen_lt (eqb n 8) p.p8 _ h.p8
    (chosen_lt (eqb n 9) p.p9 _ h.p9
    (chosen_lt (eqb n 16) p.p16 _ h.p16
    (chosen_lt (eqb n 17) p.p17 _ (lt_of_lt_of_le h.also.p17 (also_nibble d 17))
    (chosen_lt (eqb n 23) p.p23 _ h.p23
    (chosen_lt (eqb n 24) p.p24 _ h.p24
    (chosen_lt (eqb n 25) p.p25 _ h.p25
    (chosen_lt (eqb n 27) p.p27 _ h.p27
    (chosen_lt (eqb n 28) p.p28 _ h.p28 (chosen_lt (eqb n 29) p.p29 _ h.p29 (chosen_lt (eqb n 30) p.p30 0 h.p30 (omega arith)))))))))))))))

read_value : (t : Bool) (v : ℕ) (p q : Ports) → v < 16 → (pick {A = ReadDone} t (record { stop = 0; value = v; ports = p }) (record { stop = 33; value = 0; ports = q })).value < 16
read_value true v p q h = h
read_value false v p q h = omega arith

read_low : (d : Device) (sound : Bool) (pins : Pins) (p : Ports) (n : ℕ) → PinsInRange d pins → ValidPorts d p → (read_port d sound pins p n).value < 16
unfolding read_port
read_low d sound pins p n f h =
    read_value (is_readable n) (port_pins d sound pins p n) _ p
    (chosen_lt (eqb n 0) pins.p0 _ f.p0 (chosen_lt (eqb n 4) (p4_pins d sound pins.p4) _ (p4_pins_lt d sound pins.p4 f.p4) (chosen_lt (eqb n 8) pins.p8 p.p9 f.p8 h.p9)))

got_low : (t : Bool) (v n : ℕ) → (T t → v < 16) → (pick t (found v) (got_stop n)).value < 16
got_low true v n h = h tt
got_low false v n h = omega arith

module _ (m : Machine) (w : Around) (valid : Valid w.options.device m) (bytes : (at : ℕ) → w.rom at < 256) where
  given-low : (g : Given) → LowGiven g w.insn → given_of m.core.regs w.insn g < 16
  given-low Given.nothing h = omega arith
  given-low Given.operand_k h = h
  given-low Given.unit h = omega arith
  given-low Given.bit_b h = weight_low w.insn.a
  given-low Given.bit_l h = weight_low m.core.regs.lr
  given-low Given.cf h = bit_low m.core.regs.cf
  given-low Given.zf h = bit_low m.core.regs.zf

  -- what stands at a place is a nibble
  pub get-low : (p : Place) → LowPlace p w.insn → (get_of m w p).value < 16
  get-low (Place.register Register.acc) h = valid.core.regs.acc
  get-low (Place.register Register.hr) h = valid.core.regs.hr
  get-low (Place.register Register.lr) h = valid.core.regs.lr
  get-low (Place.given g) h = given-low g h
  get-low (Place.cell c) h = got_low (ltb (cell_of m.core w.insn c) 372) (get_or m.ram (cell_of m.core w.insn c) 0) 31 (λ t. valid.ram.each (cell_of m.core w.insn c) (ltb→lt _ 372 t))
  get-low (Place.port Port.pins_p) h = read_low w.options.device w.options.sound m.core.pins m.core.ports w.insn.b valid.core.pins valid.core.ports
  get-low (Place.port Port.pins_l) h = read_low w.options.device w.options.sound m.core.pins m.core.ports (m.core.regs.lr / 4 + 4) valid.core.pins valid.core.ports
  get-low (Place.port Port.latch_p) h = latch_low m.core.ports w.insn.b valid.core.ports
  get-low (Place.port Port.latch_l) h = latch_low m.core.ports (m.core.regs.lr / 4 + 4) valid.core.ports
  get-low (Place.pointer Pointer.sp) h = got_low (eqb (m.core.ports.p9 / 8 % 2) 0) m.core.ptrs.sp 31 (λ t. valid.core.ptrs.sp)
  get-low (Place.pointer (Pointer.dp p)) h = got_low (eqb (m.core.ports.p9 / 8 % 2) 0) _ 31 (λ t. part_low p m.core.ptrs.dp)
  get-low (Place.pointer (Pointer.ta p)) h = got_low (eqb (m.core.ports.p9 / 8 % 2) 0) _ 31 (λ t. part_low p m.core.timers.ta)
  get-low (Place.pointer (Pointer.tb p)) h = got_low (eqb (m.core.ports.p9 / 8 % 2) 0) _ 31 (λ t. part_low p m.core.timers.tb)
  get-low (Place.rom g) h = half_low g _ (bytes (0x1000 + m.core.ptrs.dp))
  get-low Place.mask h = valid.core.ints.mask

pub part_put_lem : (p : Part) (n v : ℕ) → n < 4096 → v < 16 → part_put p n v < 4096
part_put_lem Part.low n v h k = omega arith
part_put_lem Part.middle n v h k = omega arith
part_put_lem Part.high n v h k = omega arith

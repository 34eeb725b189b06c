-- A nibble put at a place of a valid record leaves it valid; a port is written only while the record is running.
use Prim.Native.Nat.{ℕ, ◌/◌, ◌%◌, ◌<◌}
use mathlib.Core.Bool.{Bool, true, false}
use mathlib.Core.Path.{◌≡◌, refl}
use native.Mathlib.Omega.{arith}
use lib.Dec.{T, eqb}
use borrow.Author.Tests.{eqb-true, eqb-false}
use Rattle.laws.specs.Choice.{pick, both}
use Rattle.bits.specs.Bits.{has_bit}
use Rattle.device.specs.declared.Device.{Device}
use Rattle.device.specs.declared.Device.TheVariants.{Em73862, Em73P982}
use Rattle.sheet.specs.Operation.{Register, Pointer, Place}
use Rattle.ports.specs.Ports.{write_port, write_stop, with_latch, enters, mode_after}
use Rattle.ports.specs.declared.Ports.{Ports}
use Rattle.ports.specs.declared.Mode.{Mode}
use Rattle.ports.specs.declared.Mode.TheVariants.{Running, Sleep, Hold}
use Rattle.record.specs.Valid.{ValidRegisters, ValidPointers, ValidTimers, ModeFits, Valid}
use Rattle.record.specs.declared.Registers.{Registers}
use Rattle.record.specs.declared.Pointers.{Pointers}
use Rattle.record.specs.declared.Timers.{Timers}
use Rattle.record.specs.declared.Machine.{Machine}
use Rattle.record.proofs.Interrupting.{made_valid}
use Rattle.record.proofs.Places.{set_nibble}
use Rattle.record.proofs.WithValid.{with_regs, with-pc, with-ptrs, with-ints, with-timers, with-ports-and-mode}
use Rattle.row.specs.Places.{Around, with_registers, with_pc, with_pointers, with_timers, cell_of, port_of, port_written, put_of}
use Rattle.row.specs.Columns.{is_port}
use Rattle.row.proofs.PortsValid.{chosen_lt, written_valid}
use Rattle.row.proofs.PlacesValid.{part_put_lem}

-- the record with one part anew
pub regs_valid : {d : Device} {m : Machine} {r : Registers} → Valid d m → ValidRegisters r → Valid d (with_registers m r)
regs_valid v h = record { core = with_regs v.core h; ram = v.ram }

pub pc_valid : {d : Device} {m : Machine} {pc : ℕ} → Valid d m → pc < 8192 → Valid d (with_pc m pc)
pc_valid v h = record { core = with-pc v.core h; ram = v.ram }

pub pointers_valid : {d : Device} {m : Machine} {p : Pointers} → Valid d m → ValidPointers p → Valid d (with_pointers m p)
pointers_valid v h = record { core = with-ptrs v.core h; ram = v.ram }

timers_valid : {d : Device} {m : Machine} {t : Timers} → Valid d m → ValidTimers t → Valid d (with_timers m t)
timers_valid v h = record { core = with-timers v.core h; ram = v.ram }

-- the mode after a write to P16 is one that P16 fits
p16_after : (d : Device) (p : Ports) (v : ℕ) → (write_port d p 16 v).ports.p16 ≡ v
unfolding write_port write_stop with_latch
p16_after Em73862 p v = refl
p16_after Em73P982 p v = refl

mode_fits_lem : (d : Device) (s b h : Bool) (p : Ports) (n v : ℕ) → eqb n 16 ≡ s → has_bit v 4 ≡ b → eqb (v % 4) 3 ≡ h → ModeFits (pick (both s b) (pick h Hold Sleep) Running) (write_port d p n v).ports.p16
mode_fits_lem d false b h p n v e f g = tt
mode_fits_lem d true false h p n v e f g = tt
mode_fits_lem d true true true p n v e f g = rw (eqb-true n 16 e, p16_after d p v) (eqb-true (v / 4 % 2) 1 f, eqb-true (v % 4) 3 g)
mode_fits_lem d true true false p n v e f g = rw (eqb-true n 16 e, p16_after d p v) (eqb-true (v / 4 % 2) 1 f, eqb-false (v % 4) 3 g)

running_fits : (d : Device) (o : Mode) (p : Ports) (n v : ℕ) → o ≡ Running → ModeFits (mode_after o n v) (write_port d p n v).ports.p16
running_fits d o p n v e = rw e (mode_fits_lem d (eqb n 16) (has_bit v 4) (eqb (v % 4) 3) p n v refl refl refl)

base_eights : (t : Bool) (base : ℕ) → base % 8 ≡ 0 → pick t 0 base % 8 ≡ 0
base_eights true base h = refl
base_eights false base h = h

port_valid : (d : Device) (m : Machine) (n v : ℕ) → Valid d m → m.core.mode ≡ Running → v < 16 → Valid d (port_written d m n v)
port_valid d m n v h e hv = record {
  core =
      with-ports-and-mode
      (with-timers h.core
      (record {
        base = chosen_lt (enters n v) 0 m.core.timers.base (omega arith) h.core.timers.base;
        eights = base_eights (enters n v) m.core.timers.base h.core.timers.eights;
        ta = h.core.timers.ta;
        tb = h.core.timers.tb;
      }))
      (written_valid d m.core.ports n v h.core.ports hv)
      (running_fits d m.core.mode m.core.ports n v e);
  ram = h.ram;
}

pub put_valid : (m : Machine) (w : Around) (p : Place) (v : ℕ) → Valid w.options.device m → (T (is_port p) → m.core.mode ≡ Running) → v < 16 → Valid w.options.device (put_of m w p v).machine
put_valid m w (Place.register Register.acc) v h e hv = regs_valid h (record { acc = hv; hr = h.core.regs.hr; lr = h.core.regs.lr })
put_valid m w (Place.register Register.hr) v h e hv = regs_valid h (record { acc = h.core.regs.acc; hr = hv; lr = h.core.regs.lr })
put_valid m w (Place.register Register.lr) v h e hv = regs_valid h (record { acc = h.core.regs.acc; hr = h.core.regs.hr; lr = hv })
put_valid m w (Place.given g) v h e hv = h
put_valid m w (Place.cell c) v h e hv = record { core = h.core; ram = set_nibble m.ram (cell_of m.core w.insn c) v h.ram hv }
put_valid m w (Place.port p) v h e hv = port_valid w.options.device m (port_of m.core.regs w.insn p) v h (e tt) hv
put_valid m w (Place.pointer Pointer.sp) v h e hv = pointers_valid h (record { sp = hv; dp = h.core.ptrs.dp })
put_valid m w (Place.pointer (Pointer.dp p)) v h e hv = pointers_valid h (record { sp = h.core.ptrs.sp; dp = part_put_lem p m.core.ptrs.dp v h.core.ptrs.dp hv })
put_valid m w (Place.pointer (Pointer.ta p)) v h e hv = timers_valid h (record { base = h.core.timers.base; eights = h.core.timers.eights; ta = part_put_lem p m.core.timers.ta v h.core.timers.ta hv; tb = h.core.timers.tb })
put_valid m w (Place.pointer (Pointer.tb p)) v h e hv = timers_valid h (record { base = h.core.timers.base; eights = h.core.timers.eights; ta = h.core.timers.ta; tb = part_put_lem p m.core.timers.tb v h.core.timers.tb hv })
put_valid m w (Place.rom g) v h e hv = h
put_valid m w Place.mask v h e hv = record { core = with-ints h.core (made_valid h.core.ints.il h.core.ints.il4 hv); ram = h.ram }

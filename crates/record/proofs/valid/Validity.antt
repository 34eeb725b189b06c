-- Validity is decided, part by part.
use Prim.Native.Nat.{ℕ, ◌/◌, ◌%◌, ◌<◌}
use mathlib.Core.List.{List}
use lib.ListN.{length, get_or}
use Rattle.laws.proofs.Decided.{Decision, always, holds, less, equal, negated, ◌and◌, restated, each, decided}
use Rattle.device.specs.declared.Device.{Device}
use Rattle.frame.specs.declared.Pins.{Pins}
use Rattle.frame.specs.Frame.{PinsInRange}
use Rattle.device.specs.Device.{limit_of, also_below, is_banked}
use Rattle.due.specs.Due.{due_number}
use Rattle.record.specs.Valid.{ValidRegisters, ValidPointers, ValidInterrupts, ValidTimers, ValidAlso, ValidPorts, ModeFits, ValidCore, Nibbles, Valid}
use Rattle.record.specs.declared.Registers.{Registers}
use Rattle.record.specs.declared.Pointers.{Pointers}
use Rattle.record.specs.declared.Interrupts.{Interrupts}
use Rattle.record.specs.declared.Timers.{Timers}
use Rattle.ports.specs.declared.Ports.{Ports}
use Rattle.ports.specs.declared.Mode.{Mode}
use Rattle.record.specs.declared.Core.{Core}
use Rattle.record.specs.declared.Machine.{Machine}

abbrev pub registers : (r : Registers) → Decision (ValidRegisters r)
registers r =
    restated (λ h. record { acc = h.0; hr = h.1.0; lr = h.1.1 }) (λ v. (v.acc, (v.hr, v.lr)))
    (less r.acc 16 and less r.hr 16 and less r.lr 16)

abbrev pub pointers : (p : Pointers) → Decision (ValidPointers p)
pointers p =
    restated (λ h. record { sp = h.0; dp = h.1 }) (λ v. (v.sp, v.dp)) (less p.sp 16 and less p.dp 4096)

abbrev pub interrupts : (i : Interrupts) → Decision (ValidInterrupts i)
interrupts i =
    restated (λ h. record { il = h.0; il4 = h.1.0; mask = h.1.1.0; due = h.1.1.1 }) (λ v. (v.il, (v.il4, (v.mask, v.due))))
    (less i.il 64 and equal (i.il / 16 % 2) 0 and less i.mask 16 and equal i.due (due_number i.il i.mask))

abbrev pub timers : (t : Timers) → Decision (ValidTimers t)
timers t =
    restated (λ h. record { base = h.0; eights = h.1.0; ta = h.1.1.0; tb = h.1.1.1 })
    (λ v. (v.base, (v.eights, (v.ta, v.tb))))
    (less t.base 4194304 and equal (t.base % 8) 0 and less t.ta 4096 and less t.tb 4096)

abbrev pub also : (d : Device) (p : Ports) → Decision (ValidAlso d p)
also d p =
    restated (λ h. record { p3 = h.0; p5 = h.1.0; p6 = h.1.1.0; p17 = h.1.1.1 }) (λ v. (v.p3, (v.p5, (v.p6, v.p17))))
    (holds (is_banked d p.p3) and less p.p5 (also_below d 5) and less p.p6 (also_below d 6) and less p.p17 (also_below d 17))

abbrev pub ports : (d : Device) (p : Ports) → Decision (ValidAlso d p) → Decision (ValidPorts d p)
ports d p a =
    restated
    (λ h. record { also = h.0; p4 = h.1.0.0; p8 = h.1.0.1.0; p9 = h.1.0.1.1.0; p16 = h.1.0.1.1.1; p23 = h.1.1.0.0; p24 = h.1.1.0.1.0; p25 = h.1.1.0.1.1.0; p27 = h.1.1.0.1.1.1; p28 = h.1.1.1.0.0; p29 = h.1.1.1.0.1.0; p30 = h.1.1.1.0.1.1; p25_never_10xx = h.1.1.1.1.0; p27_never_10xx = h.1.1.1.1.1 })
    (λ v. (v.also, ((v.p4, (v.p8, (v.p9, v.p16))), ((v.p23, (v.p24, (v.p25, v.p27))), ((v.p28, (v.p29, v.p30)), (v.p25_never_10xx, v.p27_never_10xx))))))
    (a
    and (less p.p4 16 and less p.p8 16 and less p.p9 16 and less p.p16 16)
    and (less p.p23 16 and less p.p24 16 and less p.p25 16 and less p.p27 16)
    and (less p.p28 16 and less p.p29 16 and less p.p30 16)
    and (negated (equal (p.p25 / 4) 2) and negated (equal (p.p27 / 4) 2)))

abbrev pub pins : (d : Device) (p : Pins) → Decision (PinsInRange d p)
pins d p =
    restated (λ h. record { p0 = h.0.0; p8 = h.0.1; p4 = h.1.0; speech = h.1.1 }) (λ v. ((v.p0, v.p8), (v.p4, v.speech)))
    ((less p.p0 16 and less p.p8 16) and less p.p4 (limit_of d 2) and less p.speech (limit_of d 3))

abbrev pub mode_fits : (m : Mode) (p16 : ℕ) → Decision (ModeFits m p16)
mode_fits Mode.Running p16 = always
mode_fits Mode.Sleep p16 = equal (p16 / 4 % 2) 1 and negated (equal (p16 % 4) 3)
mode_fits Mode.Hold p16 = equal (p16 / 4 % 2) 1 and equal (p16 % 4) 3

-- the whole, from what decides its parts
abbrev pub core : (d : Device) (m : Core) → Decision (ValidRegisters m.regs) → Decision (ValidPointers m.ptrs) → Decision (ValidInterrupts m.ints) → Decision (ValidTimers m.timers) → Decision (ValidPorts d m.ports) → Decision (PinsInRange d m.pins) → Decision (ModeFits m.mode m.ports.p16) → Decision (ValidCore d m)
core d m r p i t o n f =
    restated
    (λ h. record { regs = h.0.0; pc = h.0.1.0; ptrs = h.0.1.1; ints = h.1.0.0; timers = h.1.0.1; ports = h.1.1.0; pins = h.1.1.1.0; mode = h.1.1.1.1 })
    (λ v. ((v.regs, (v.pc, v.ptrs)), ((v.ints, v.timers), (v.ports, (v.pins, v.mode)))))
    ((r and less m.pc 8192 and p) and (i and t) and (o and n and f))

abbrev pub nibbles : (ram : List ℕ) → Decision (Nibbles ram)
nibbles ram =
    restated (λ h. record { size = h.0; each = h.1 }) (λ v. (v.size, v.each))
    (equal (length ram) 372 and each 372 {P = λ k. get_or ram k 0 < 16} (λ k. less (get_or ram k 0) 16))

pub core? : (d : Device) (m : Core) → Dec (ValidCore d m)
core? d m =
    decided (core d m (registers m.regs) (pointers m.ptrs) (interrupts m.ints) (timers m.timers) (ports d m.ports (also d m.ports)) (pins d m.pins) (mode_fits m.mode m.ports.p16))

nibbles? : (ram : List ℕ) → Dec (Nibbles ram)
nibbles? ram = decided (nibbles ram)

valid_of : {d : Device} {m : Machine} → Dec (ValidCore d m.core) → Dec (Nibbles m.ram) → Dec (Valid d m)
valid_of (yes c) (yes r) = yes (record { core = c; ram = r })
valid_of (yes c) (no r) = no (λ v. r v.ram)
valid_of (no c) r = no (λ v. c v.core)

-- a record is valid or not
pub valid? : (d : Device) (m : Machine) → Dec (Valid d m)
valid? d m = valid_of (core? d m.core) (nibbles? m.ram)

-- The fresh record and each reset record are valid, and reset's answer is determined.
use mathlib.Core.Path.{◌≡◌, refl, sym, ◌∙◌}
use lib.Dec.{lit<}
use lib.ListN.{replicate}
use Rattle.device.specs.declared.Device.{Device}
use Rattle.device.specs.declared.Device.TheVariants.{Em73862, Em73P982}
use Rattle.frame.specs.Frame.{PinsInRange}
use Rattle.record.specs.Valid.{ValidRegisters, ValidPointers, ValidPorts, ValidCore, Valid}
use Rattle.record.specs.Start.{fresh_ports, fresh_pins, fresh_core, fresh_machine, reset_machine, ResetOf}
use Rattle.record.specs.declared.Registers.{Registers}
use Rattle.record.specs.declared.Pointers.{Pointers}
use Rattle.record.specs.declared.Machine.{Machine}
use Rattle.numbers.specs.declared.Refusal.{Refusal}
use Rattle.std.proofs.Common.{Result}
use Rattle.record.proofs.Interrupting.{made_valid}
use Rattle.record.proofs.valid.Validity.{registers, pointers, timers, also, ports, pins, nibbles, valid?}

-- the fresh latches and the fresh last frame are in each device's ranges
fresh_ports_lem : (d : Device) → ValidPorts d (fresh_ports d)
fresh_ports_lem Em73862 = (ports Em73862 (fresh_ports Em73862) (also Em73862 (fresh_ports Em73862))).decides.sound tt
fresh_ports_lem Em73P982 = (ports Em73P982 (fresh_ports Em73P982) (also Em73P982 (fresh_ports Em73P982))).decides.sound tt

fresh_pins_lem : (d : Device) → PinsInRange d (fresh_pins d)
fresh_pins_lem Em73862 = (pins Em73862 (fresh_pins Em73862)).decides.sound tt
fresh_pins_lem Em73P982 = (pins Em73P982 (fresh_pins Em73P982)).decides.sound tt

fresh_core_lem : {d : Device} {r : Registers} {p : Pointers} → ValidRegisters r → ValidPointers p → ValidCore d (fresh_core d r p)
fresh_core_lem {d} {r} {p} hr hp = record {
  regs = hr;
  pc = lit< tt;
  ptrs = hp;
  ints = made_valid (lit< tt) refl (lit< tt);
  timers = (timers (fresh_core d r p).timers).decides.sound tt;
  ports = fresh_ports_lem d;
  pins = fresh_pins_lem d;
  mode = tt;
}

pub fresh_valid : (d : Device) → Valid d (fresh_machine d)
fresh_valid d = record {
  core = fresh_core_lem ((registers (fresh_machine d).core.regs).decides.sound tt) ((pointers (fresh_machine d).core.ptrs).decides.sound tt);
  ram = (nibbles (replicate 372 0)).decides.sound tt;
}

pub reset_valid : {d : Device} (m : Machine) → Valid d m → Valid d (reset_machine d m)
reset_valid m v = record {
  core = fresh_core_lem (record { acc = v.core.regs.acc; hr = v.core.regs.hr; lr = v.core.regs.lr }) v.core.ptrs;
  ram = v.ram;
}

by_validity : {d : Device} {m : Machine} {r s : Result Machine Refusal} → ResetOf d m r → ResetOf d m s → Dec (Valid d m) → r ≡ s
by_validity a b (yes v) = a.inside v ∙ sym (b.inside v)
by_validity a b (no n) = a.outside n ∙ sym (b.outside n)

-- any two answers of reset are equal
pub reset_determined : (d : Device) (m : Machine) (r s : Result Machine Refusal) → ResetOf d m r → ResetOf d m s → r ≡ s
reset_determined d m r s a b = by_validity a b (valid? d m)

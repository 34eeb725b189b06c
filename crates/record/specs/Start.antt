-- Document 01, "The record": the fresh record and reset.
use Rattle.std.specs.Prelude.{◌≡◌, true, false, Result, Ok, Err, get_or, replicate}
use Rattle.numbers.specs.Sizes.{ram_nibbles}
use Rattle.device.specs.Device.{fresh_frame, reset_of}
use Rattle.device.specs.declared.Device.{Device}
use Rattle.frame.specs.declared.Pins.{Pins}
use Rattle.numbers.specs.declared.Refusal.{Refusal}
use Rattle.record.specs.Valid.{Valid}
use Rattle.record.specs.With.{interrupts_of}
use Rattle.record.specs.declared.Registers.{Registers}
use Rattle.record.specs.declared.Pointers.{Pointers}
use Rattle.ports.specs.declared.Ports.{Ports}
use Rattle.ports.specs.declared.Mode.{Mode}
use Rattle.record.specs.declared.Core.{Core}
use Rattle.record.specs.declared.Machine.{Machine}

-- "Fresh record: running, last frame FF1, SF 1, P23 and P24 at 15, P4 and P8 at 15, all else 0." Q-6: "fresh last frame FFF0"
abbrev pub fresh_pins : Device → Pins
fresh_pins d = record { p0 = get_or (fresh_frame d) 0 0; p8 = get_or (fresh_frame d) 1 0; p4 = get_or (fresh_frame d) 2 0; speech = get_or (fresh_frame d) 3 0 }

-- Q-6: P3 "resets to 0", "5 and 6 reset to 0 and 17 to 15"
abbrev pub fresh_ports : Device → Ports
fresh_ports d =
    record { p3 = reset_of d 3; p4 = 15; p5 = reset_of d 5; p6 = reset_of d 6; p8 = 15; p9 = 0; p16 = 0; p17 = reset_of d 17; p23 = 15; p24 = 15; p25 = 0; p27 = 0; p28 = 0; p29 = 0; p30 = 0 }

-- the registers and pointers are handed in, all else is fresh
abbrev pub fresh_core : Device → Registers → Pointers → Core
fresh_core d regs ptrs = record {
  regs = regs;
  pc = 0;
  ptrs = ptrs;
  ints = interrupts_of false 0 0;
  timers = record { base = 0; ta = 0; tb = 0 };
  ports = fresh_ports d;
  pins = fresh_pins d;
  mode = Mode.Running;
  mark = false;
}

abbrev pub fresh_machine : Device → Machine
fresh_machine d = record {
  core =
      fresh_core d (record { acc = 0; hr = 0; lr = 0; cf = false; zf = false; sf = true }) (record { sp = 0; dp = 0 });
  ram = replicate ram_nibbles 0;
}

-- "Reset gives this but keeps RAM, ACC, HR, LR, SP, DP, CF and ZF."
abbrev pub reset_registers : Registers → Registers
reset_registers r = record { acc = r.acc; hr = r.hr; lr = r.lr; cf = r.cf; zf = r.zf; sf = true }

abbrev pub reset_core : Device → Core → Core
reset_core d m = fresh_core d (reset_registers m.regs) m.ptrs

abbrev pub reset_machine : Device → Machine → Machine
reset_machine d m = record { core = reset_core d m.core; ram = m.ram }

-- the answers by document 01's table: 2, "record outside the ranges above", or the record
abbrev pub reset_refused : Result Machine Refusal
reset_refused = Err Refusal.RecordOutsideTheRanges

abbrev pub reset_done : Device → Machine → Result Machine Refusal
reset_done d m = Ok (reset_machine d m)

-- which of them reset gives
pub record ResetOf (d : Device) (m : Machine) (r : Result Machine Refusal) : Type 0 where
  pub outside : (Valid d m → ⊥) → r ≡ reset_refused
  pub inside : Valid d m → r ≡ reset_done d m

-- Document 01, "The record": the ranges of its parts and what ties them. A record outside them is refused with 2.
use Rattle.std.specs.Prelude.{ℕ, ◌/◌, ◌%◌, ◌<◌, ◌≡◌, List, length, get_or}
use Rattle.numbers.specs.Sizes.{addresses, ram_nibbles}
use Rattle.device.specs.Device.{also_below, Banked}
use Rattle.device.specs.declared.Device.{Device}
use Rattle.frame.specs.Frame.{PinsInRange}
use Rattle.due.specs.Due.{due_number}
use Rattle.record.specs.declared.Registers.{Registers}
use Rattle.record.specs.declared.Pointers.{Pointers}
use Rattle.record.specs.declared.Interrupts.{Interrupts}
use Rattle.record.specs.declared.Timers.{Timers}
use Rattle.ports.specs.declared.Ports.{Ports}
use Rattle.ports.specs.declared.Mode.{Mode}
use Rattle.record.specs.declared.Core.{Core}
use Rattle.record.specs.declared.Machine.{Machine}

-- "ACC, HR, LR, SP, mask, port latches: 0 to 15." "DP, timers TA and TB: 0 to 4095." "CF, ZF, SF, EI: one bit": their types are truth values
pub record ValidRegisters (r : Registers) : Type 0 where
  pub acc : r.acc < 16
  pub hr : r.hr < 16
  pub lr : r.lr < 16

pub record ValidPointers (p : Pointers) : Type 0 where
  pub sp : p.sp < 16
  pub dp : p.dp < 4096

-- "Latches IL5 to IL0, IL4 always clear." "2 also when the stored value disagrees with latches and mask" (Q-11)
pub record ValidInterrupts (i : Interrupts) : Type 0 where
  pub il : i.il < 64
  pub il4 : i.il / 16 % 2 ≡ 0
  pub mask : i.mask < 16
  pub due : i.due ≡ due_number i.il i.mask

-- "Time base: 22 bits, a multiple of 8."
pub record ValidTimers (t : Timers) : Type 0 where
  pub base : t.base < 4194304
  pub eights : t.base % 8 ≡ 0
  pub ta : t.ta < 4096
  pub tb : t.tb < 4096

-- Q-6: P3 as the window may have it, and P5, P6 and P17; of a port that the device does not have the latch holds 0
pub record ValidAlso (d : Device) (p : Ports) : Type 0 where
  pub p3 : Banked d p.p3
  pub p5 : p.p5 < also_below d 5
  pub p6 : p.p6 < also_below d 6
  pub p17 : p.p17 < also_below d 17

-- "P25 and P27 never hold 10xx."
pub record ValidPorts (d : Device) (p : Ports) : Type 0 where
  pub also : ValidAlso d p
  pub p4 : p.p4 < 16
  pub p8 : p.p8 < 16
  pub p9 : p.p9 < 16
  pub p16 : p.p16 < 16
  pub p23 : p.p23 < 16
  pub p24 : p.p24 < 16
  pub p25 : p.p25 < 16
  pub p27 : p.p27 < 16
  pub p28 : p.p28 < 16
  pub p29 : p.p29 < 16
  pub p30 : p.p30 < 16
  pub p25_never_10xx : p.p25 / 4 ≡ 2 → ⊥
  pub p27_never_10xx : p.p27 / 4 ≡ 2 → ⊥

-- "Sleep needs P16 bit 2 set and bits 1..0 not 3; hold needs bit 2 set and bits 1..0 = 3."
abbrev pub ModeFits : Mode → ℕ → Type 0
ModeFits Mode.Running p16 = Unit
ModeFits Mode.Sleep p16 = (p16 / 4 % 2 ≡ 1) × (p16 % 4 ≡ 3 → ⊥)
ModeFits Mode.Hold p16 = (p16 / 4 % 2 ≡ 1) × (p16 % 4 ≡ 3)

-- "PC 0 to 8191." "Last frame seen." The mark is a truth value
pub record ValidCore (d : Device) (m : Core) : Type 0 where
  pub regs : ValidRegisters m.regs
  pub pc : m.pc < addresses
  pub ptrs : ValidPointers m.ptrs
  pub ints : ValidInterrupts m.ints
  pub timers : ValidTimers m.timers
  pub ports : ValidPorts d m.ports
  pub pins : PinsInRange d m.pins
  pub mode : ModeFits m.mode m.ports.p16

-- "RAM: 372 nibbles": so many, and each is 0 to 15
pub record Nibbles (ram : List ℕ) : Type 0 where
  pub size : length ram ≡ ram_nibbles
  pub each : (i : ℕ) → i < ram_nibbles → get_or ram i 0 < 16

pub record Valid (d : Device) (m : Machine) : Type 0 where
  pub core : ValidCore d m.core
  pub ram : Nibbles m.ram

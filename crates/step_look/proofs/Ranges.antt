-- The time base, the timers and the latches of a valid record are in the clock's ranges, also where edges set latches.
use mathlib.Core.Path.{◌≡◌}
use mathlib.Core.Bool.{Bool, true, false}
use Prim.Native.Nat.{ℕ, ◌/◌, ◌%◌, ◌^◌, ◌<◌}
use native.Mathlib.Omega.{arith}
use lib.Dec.{lit<}
use borrow.Author.Tests.{eqb-false}
use Rattle.bits.specs.Bits.{has_bit}
use Rattle.bits.proofs.Laws.{with_lt}
use Rattle.device.specs.declared.Device.{Device}
use Rattle.edges.specs.Edges.{fell}
use Rattle.frame.specs.declared.Pins.{Pins}
use Rattle.clock.specs.Clock.{latched, InRange}
use Rattle.clock.proofs.Ranges.{Latches, latched_ok}
use Rattle.record.specs.Valid.{ValidInterrupts, ValidTimers}
use Rattle.record.specs.declared.Core.{Core}
use Rattle.step_look.specs.Look.{raises_il0, edges_latched, edges_timed}

-- a latch that is clear, as the record's ranges say it and as the clock's do
pub clear : (il : ℕ) → il / 16 % 2 ≡ 0 → has_bit il 16 ≡ false
clear il e = rw e

pub is_clear : (il : ℕ) → has_bit il 16 ≡ false → il / 16 % 2 ≡ 0
is_clear il e = let ne = eqb-false (il / 16 % 2) 1 e in omega arith

-- six latches stay six
pub latched_lt : (happens : Bool) (i il : ℕ) → i < 6 → il < 64 → latched happens (2 ^ i) il < 64
latched_lt true i il h l = with_lt 6 i il h l
latched_lt false i il h l = l

edges_ok : (d : Device) (last new : Pins) (il : ℕ) → Latches il → Latches (edges_latched d last new il)
edges_ok d last new il l =
    latched_ok (raises_il0 d last new) 0 (latched (fell last.p8 new.p8 4) 32 il) (lit< tt) (omega arith)
    (latched_ok (fell last.p8 new.p8 4) 5 il (lit< tt) (omega arith) l)

pub edges_in_range : (d : Device) (m : Core) (new : Pins) → ValidInterrupts m.ints → ValidTimers m.timers → InRange (edges_timed d m new)
edges_in_range d m new i t =
    let l = edges_ok d m.pins new m.ints.il (record { six = i.il; il4 = clear m.ints.il i.il4 }) in
    record { base = t.base; eights = t.eights; ta = t.ta; tb = t.tb; il = l.six; il4 = l.il4 }

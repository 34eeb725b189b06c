-- What a look sees where P8 is as it was.
use mathlib.Core.Path.{◌≡◌, refl}
use mathlib.Core.Bool.{Bool, true, false}
use Prim.Native.Nat.{ℕ}
use Rattle.laws.specs.Choice.{pick}
use Rattle.device.specs.Device.{ends_speech}
use Rattle.device.specs.declared.Device.{Device}
use Rattle.frame.specs.declared.Pins.{Pins}
use Rattle.edges.specs.Edges.{fell}
use Rattle.edges.proofs.Still.{no_fall, no_rise}
use Rattle.clock.proofs.Quiet.{no_event}
use Rattle.record.specs.declared.Core.{Core}
use Rattle.step_look.specs.Look.{time_of, edges_counted}

-- P8 as it was and a fourth digit of 0 raise nothing
none_raised : (speech : Bool) (p8 : ℕ) → pick speech false (fell p8 p8 1) ≡ false
none_raised true p8 = refl
none_raised false p8 = no_fall p8 1

-- with no edge and no end of speech nothing is latched or counted
pub counted_still : (d : Device) (m : Core) (new : Pins) → new.p8 ≡ m.pins.p8 → new.speech ≡ 0 → edges_counted d m new ≡ time_of m
unfolding edges_counted
counted_still d m new e f =
    rw (
      e,
      f,
      none_raised (ends_speech d) m.pins.p8,
      no_fall m.pins.p8 4,
      no_rise m.pins.p8 8,
      no_rise m.pins.p8 2,
      no_event m.ports.p28 m.ports.p29 (time_of m),
    )

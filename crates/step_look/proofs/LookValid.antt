-- A look at a frame makes a valid record of a valid one, leaves a running one running, and marks another.
use mathlib.Core.Path.{◌≡◌, refl}
use mathlib.Core.Bool.{Bool, true, false}
use Prim.Native.Nat.{ℕ}
use Rattle.laws.proofs.Computed.{true→T}
use Rattle.device.specs.declared.Device.{Device}
use Rattle.device.specs.declared.Options.{Options}
use Rattle.frame.specs.Frame.{PinsInRange}
use Rattle.edges.specs.Edges.{rose, wakes}
use Rattle.frame.specs.declared.Pins.{Pins}
use Rattle.clock.specs.Clock.{InRange}
use Rattle.clock.specs.declared.Time.{Time}
use Rattle.clock.proofs.Ranges.{events_in_range}
use Rattle.ports.specs.declared.Mode.{Mode}
use Rattle.record.specs.Valid.{ModeFits, ValidInterrupts, ValidTimers, ValidCore}
use Rattle.record.specs.declared.Core.{Core}
use Rattle.laws.proofs.Choices.{picked}
use Rattle.record.proofs.Interrupting.{made_valid}
use Rattle.record.proofs.WithValid.{with-ints, with-timers, with-pins, with-ports-and-mode, with-mark}
use Rattle.step_look.specs.declared.Looked.{Looked}
use Rattle.step_look.specs.Look.{with_time, showing, edges_timed, edges_counted, seen, is_running, releases_by_level, waited, looked}
use Rattle.step_look.proofs.Ranges.{is_clear, edges_in_range}

-- a valid record with another mode that fits and another frame, and with other times in range
showing_valid : {d : Device} (m : Core) (mode : Mode) (mark : Bool) (new : Pins) → ValidCore d m → ModeFits mode m.ports.p16 → PinsInRange d new → ValidCore d (showing m mode mark new)
showing_valid m mode mark new v f p = with-mark (with-ports-and-mode (with-pins v p) v.ports f)

pub with_time_valid : {d : Device} (m : Core) (t : Time) → ValidCore d m → InRange t → ValidCore d (with_time m t)
with_time_valid m t v i =
    with-timers (with-ints v (made_valid i.il (is_clear t.il i.il4) v.ints.mask)) (record { base = i.base; eights = i.eights; ta = i.ta; tb = i.tb })

counted_in_range : (d : Device) (m : Core) (new : Pins) → ValidInterrupts m.ints → ValidTimers m.timers → InRange (edges_counted d m new)
unfolding edges_counted
counted_in_range d m new i t =
    events_in_range m.ports.p28 m.ports.p29 (rose m.pins.p8 new.p8 8) (rose m.pins.p8 new.p8 2) (edges_timed d m new) (edges_in_range d m new i t)

pub seen_valid : (d : Device) (m : Core) (new : Pins) → ValidCore d m → PinsInRange d new → ValidCore d (seen d m new)
seen_valid d m new v p =
    let t = edges_counted d m new in
    showing_valid (with_time m t) m.mode false new (with_time_valid m t v (counted_in_range d m new v.ints v.timers)) v.mode p

waited_valid : (d : Device) (enabled : ℕ) (m : Core) (new : Pins) → ValidCore d m → PinsInRange d new → ValidCore d (waited enabled m new).core
unfolding waited
waited_valid d enabled m new v p =
    picked (λ (l : Looked). ValidCore d l.core) (wakes (releases_by_level m.ports.p16) enabled m.pins new) _ _ (showing_valid m Mode.Running true new v tt p) (showing_valid m m.mode true new v v.mode p)

pub looked_valid : (o : Options) (m : Core) (new : Pins) → ValidCore o.device m → PinsInRange o.device new → ValidCore o.device (looked o m new).core
unfolding looked
looked_valid o m new v p =
    picked (λ (l : Looked). ValidCore o.device l.core) (is_running m.mode) _ _ (seen_valid o.device m new v p) (waited_valid o.device o.wake m new v p)

pub running_is : (mode : Mode) → is_running mode ≡ true → mode ≡ Mode.Running
running_is Mode.Running e = refl
running_is Mode.Sleep e = absurd (true→T e)
running_is Mode.Hold e = absurd (true→T e)

-- a running record is running when it has seen the frame
pub looked_running : (o : Options) (m : Core) (new : Pins) → is_running m.mode ≡ true → (looked o m new).core.mode ≡ Mode.Running
unfolding looked
looked_running o m new e = rw e (running_is m.mode e)

-- a record that waits is marked
pub waited_marked : (enabled : ℕ) (m : Core) (new : Pins) → (waited enabled m new).core.mark ≡ true
unfolding waited
waited_marked enabled m new =
    picked (λ (l : Looked). l.core.mark ≡ true) (wakes (releases_by_level m.ports.p16) enabled m.pins new) _ _ refl refl

-- Document 01, "One step": what a step sees of its frame. Running, the edges set latches and count events; in sleep or hold it only looks for the pin that wakes. "The last frame is always updated."
use Rattle.std.specs.Prelude.{ℕ, ◌%◌, Bool, true, false, [], ◌∷◌, eqb, get_or}
use Rattle.laws.specs.Choice.{pick}
use Rattle.bits.specs.Bits.{has_bit}
use Rattle.device.specs.Device.{ends_speech}
use Rattle.device.specs.declared.Device.{Device}
use Rattle.device.specs.declared.Options.{Options}
use Rattle.edges.specs.Edges.{fell, rose, wakes}
use Rattle.frame.specs.declared.Pins.{Pins}
use Rattle.clock.specs.Clock.{latched, event_count}
use Rattle.clock.specs.declared.Time.{Time}
use Rattle.ports.specs.declared.Mode.{Mode}
use Rattle.record.specs.With.{core_with_ints, core_with_timers, core_with_pins, core_with_mode, core_with_mark, interrupts_of}
use Rattle.record.specs.declared.Core.{Core}
use Rattle.step_look.specs.declared.Looked.{Looked}

-- the time base, the timers and the latches of a record, and a record with others
abbrev pub time_of : Core → Time
time_of m = record { base = m.timers.base; ta = m.timers.ta; tb = m.timers.tb; il = m.ints.il }

abbrev pub with_time : Core → Time → Core
with_time m t =
    core_with_timers (core_with_ints m (interrupts_of m.ints.ei t.il m.ints.mask)) (record { base = t.base; ta = t.ta; tb = t.tb })

-- "The last frame is always updated."
abbrev pub showing : Core → Mode → Bool → Pins → Core
showing m mode mark pins = core_with_mark (core_with_mode (core_with_pins m pins) mode) mark

-- "A falling edge .. on P8.0 sets IL0." Q-6: "raised by a fourth frame digit of 1", whatever the last frame had
abbrev pub raises_il0 : Device → Pins → Pins → Bool
raises_il0 d last new = pick (ends_speech d) (eqb new.speech 1) (fell last.p8 new.p8 1)

-- "A falling edge on P8.2 sets IL5"
abbrev pub edges_latched : Device → Pins → Pins → ℕ → ℕ
edges_latched d last new il = latched (raises_il0 d last new) 1 (latched (fell last.p8 new.p8 4) 32 il)

abbrev pub edges_timed : Device → Core → Pins → Time
edges_timed d m new = record { base = m.timers.base; ta = m.timers.ta; tb = m.timers.tb; il = edges_latched d m.pins new m.ints.il }

-- "A rising edge on P8.3 (P8.1) adds one to TA (TB) in event mode."
unfoldable pub edges_counted : Device → Core → Pins → Time
edges_counted d m new =
    event_count m.ports.p28 m.ports.p29 (rose m.pins.p8 new.p8 8) (rose m.pins.p8 new.p8 2) (edges_timed d m new)

-- "a running first call clears it too" (Q-4): the mark
abbrev pub seen : Device → Core → Pins → Core
seen d m new = showing (with_time m (edges_counted d m new)) m.mode false new

-- "for sleep 32,768, 2,048 or 8,192 (bits 1..0 = 0, 1, 2)", "0 cycles for hold"
abbrev pub waking_cycles : Mode → ℕ → ℕ
waking_cycles Mode.Running p16 = 0
waking_cycles Mode.Sleep p16 = get_or (32768 ∷ 2048 ∷ 8192 ∷ []) (p16 % 4) 0
waking_cycles Mode.Hold p16 = 0

-- "The sheet's P16 table says bit 3 chooses level release" (Q-2)
abbrev pub releases_by_level : ℕ → Bool
releases_by_level p16 = has_bit p16 8

-- "In sleep or hold a step only looks for" what wakes. "None: 0 cycles. One: running again". "In sleep or hold the first call does the whole step and gives its cycles, and leaves a mark" (Q-4)
unfoldable pub waited : ℕ → Core → Pins → Looked
waited enabled m new =
    pick (wakes (releases_by_level m.ports.p16) enabled m.pins new)
    (record { core = showing m Mode.Running true new; cycles = waking_cycles m.mode m.ports.p16 })
    (record { core = showing m m.mode true new; cycles = 0 })

abbrev pub is_running : Mode → Bool
is_running Mode.Running = true
is_running Mode.Sleep = false
is_running Mode.Hold = false

-- what the look at a frame makes of a record
unfoldable pub looked : Options → Core → Pins → Looked
looked o m new =
    pick (is_running m.mode) (record { core = seen o.device m new; cycles = 0 }) (waited o.wake m new)

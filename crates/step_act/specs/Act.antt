-- Document 01, "One step": what a running record does once it has seen the frame. It accepts an interrupt or executes one row; then time passes.
use Rattle.std.specs.Prelude.{ℕ, ltb, Ok, Err}
use Rattle.laws.specs.Choice.{pick}
use Rattle.bits.specs.Bits.{has_bit}
use Rattle.numbers.specs.ComesBack.{unassigned_code, stack_level, past_end}
use Rattle.device.specs.declared.Options.{Options}
use Rattle.sheet.specs.Reading.{Read, read_at}
use Rattle.sheet.specs.declared.NoRow.{NoRow}
use Rattle.clock.specs.Clock.{passed}
use Rattle.clock.specs.declared.Rates.{Rates}
use Rattle.ports.specs.declared.Mode.{Mode}
use Rattle.due.specs.Due.{due_source}
use Rattle.record.specs.Stack.{can_push, accepted}
use Rattle.record.specs.declared.Core.{Core}
use Rattle.record.specs.declared.Machine.{Machine}
use Rattle.row.specs.Rows.{Done, spent, stops, executed}
use Rattle.step_look.specs.Look.{time_of, with_time}

-- "If EI is set and a latch is set and allowed by its mask": the number of the latch, 6 where none is accepted
unfoldable pub source_of : Core → ℕ
source_of m = pick m.ints.ei (due_source m.ints.il m.ints.mask) 6

-- "Acceptance .. costs 2 cycles", and "lowers SP first, so SP must be 1 to 13"
unfoldable pub accept_of : Machine → ℕ → Done
accept_of m source =
    pick (can_push m.core) (spent 2 (accepted m source)) (stops stack_level m)

-- "Otherwise one instruction runs."; what is no row stops with its number, 30 or 35
abbrev pub run_read : (ℕ → ℕ) → Options → Machine → Read → Done
run_read rom options m (Ok i) = executed (record { rom = rom; options = options; insn = i }) m
run_read rom options m (Err NoRow.Unassigned) = stops unassigned_code m
run_read rom options m (Err NoRow.PastEnd) = stops past_end m

-- Q-6: the ROM as the record's P3 shows it
abbrev pub shown : (ℕ → ℕ → ℕ) → Machine → ℕ → ℕ
shown rom m = rom m.core.ports.p3

unfoldable pub run_one : (ℕ → ℕ → ℕ) → Options → Machine → Done
run_one rom options m = run_read (shown rom m) options m (read_at (shown rom m) m.core.pc)

-- "accept the first of INT0, TRGA, TRGB, TBI, INT1 .. Otherwise one instruction runs."
unfoldable pub accept_or_run : (ℕ → ℕ → ℕ) → Options → Machine → Done
accept_or_run rom options m = pick (ltb (source_of m.core) 6) (accept_of m (source_of m.core)) (run_one rom options m)

-- "Settings are those left by the instruction", and the pins P8.3 and P8.1 are those of this step's frame
abbrev pub rates_of : Core → Rates
rates_of m = record { p25 = m.ports.p25; p28 = m.ports.p28; p29 = m.ports.p29; p83 = has_bit m.pins.p8 8; p81 = has_bit m.pins.p8 2 }

abbrev pub timed : ℕ → Core → Core
timed n m = with_time m (passed n (rates_of m) (time_of m))

-- "phase 3 is left out (the row's cycles are still spent)" on entering sleep or hold
abbrev pub core_in : Mode → ℕ → Core → Core
core_in Mode.Running n m = timed n m
core_in Mode.Sleep n m = m
core_in Mode.Hold n m = m

unfoldable pub core_after : ℕ → Core → Core
core_after n m = core_in m.mode n m

-- "For each cycle ..": what the turn has spent
abbrev pub after_time : Done → Done
after_time x = record { stop = x.stop; cycles = x.cycles; machine = record { core = core_after x.cycles x.machine.core; ram = x.machine.ram } }

unfoldable pub act_of : (ℕ → ℕ → ℕ) → Options → Machine → Done
act_of rom options m = after_time (accept_or_run rom options m)

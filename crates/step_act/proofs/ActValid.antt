-- Acting makes a valid record of a valid one that runs.
use mathlib.Core.Path.{◌≡◌, refl}
use Prim.Native.Nat.{ℕ, ◌<◌}
use lib.Dec.{ltb, ltb→lt}
use Rattle.laws.proofs.Computed.{T→true}
use Rattle.laws.proofs.Choices.{picked_by}
use Rattle.numbers.specs.ComesBack.{stack_level}
use Rattle.device.specs.declared.Device.{Device}
use Rattle.device.specs.declared.Options.{Options}
use Rattle.std.specs.Prelude.{Ok, Err}
use Rattle.sheet.specs.Reading.{Read, read_at}
use Rattle.sheet.specs.declared.NoRow.{NoRow}
use Rattle.reader.proofs.Rows.{read-in-fields}
use Rattle.clock.specs.Clock.{InRange}
use Rattle.clock.proofs.Ranges.{passed_in_range}
use Rattle.ports.specs.declared.Mode.{Mode}
use Rattle.ports.specs.declared.Mode.TheVariants.{Running}
use Rattle.record.specs.Stack.{can_push, accepted}
use Rattle.record.specs.Valid.{ValidInterrupts, ValidTimers, ValidCore, Valid}
use Rattle.record.specs.declared.Core.{Core}
use Rattle.record.specs.declared.Machine.{Machine}
use Rattle.record.proofs.Range.{can-push}
use Rattle.record.proofs.StackValid.{accepted_valid}
use Rattle.row.specs.Rows.{Done, spent, stops}
use Rattle.row.proofs.RowsValid.{executed-valid}
use Rattle.step_look.specs.Look.{time_of}
use Rattle.step_look.proofs.LookValid.{with_time_valid}
use Rattle.step_look.proofs.Ranges.{clear}
use Rattle.step_act.specs.Act.{source_of, accept_of, run_read, shown, run_one, accept_or_run, rates_of, timed, core_in, core_after, act_of}

pub time_in_range : (m : Core) → ValidInterrupts m.ints → ValidTimers m.timers → InRange (time_of m)
time_in_range m i t =
    record { base = t.base; eights = t.eights; ta = t.ta; tb = t.tb; il = i.il; il4 = clear m.ints.il i.il4 }

timed_valid : {d : Device} (n : ℕ) (m : Core) → ValidCore d m → ValidCore d (timed n m)
timed_valid n m v = with_time_valid m _ v (passed_in_range n (rates_of m) (time_of m) (time_in_range m v.ints v.timers))

in_mode_valid : {d : Device} (mode : Mode) (n : ℕ) (m : Core) → ValidCore d m → ValidCore d (core_in mode n m)
in_mode_valid Mode.Running n m v = timed_valid n m v
in_mode_valid Mode.Sleep n m v = v
in_mode_valid Mode.Hold n m v = v

pub after_valid : {d : Device} (n : ℕ) (m : Core) → ValidCore d m → ValidCore d (core_after n m)
unfolding core_after
after_valid n m v = in_mode_valid m.mode n m v

module _ (rom : ℕ → ℕ → ℕ) (options : Options) (m : Machine) (valid : Valid options.device m) (running : m.core.mode ≡ Running) (bytes : (p3 at : ℕ) → rom p3 at < 256) where
  accept-valid : (source : ℕ) → source < 6 → Valid options.device (accept_of m source).machine
  unfolding accept_of
  accept-valid source h =
      picked_by (λ (x : Done). Valid options.device x.machine) (can_push m.core) (spent 2 (accepted m source)) (stops stack_level m)
      (λ q. accepted_valid m source valid (can-push (T→true (can_push m.core) q)) h) valid

  read_valid : (r : Read) → read_at (shown rom m) m.core.pc ≡ r → Valid options.device (run_read (shown rom m) options m r).machine
  read_valid (Ok i) e =
      let f = read-in-fields (shown rom m) m.core.pc i e (bytes m.core.ports.p3) in
      executed-valid (record { rom = shown rom m; options = options; insn = i }) m valid running (bytes m.core.ports.p3) f.row f.a
  read_valid (Err NoRow.Unassigned) e = valid
  read_valid (Err NoRow.PastEnd) e = valid

  run-valid : Valid options.device (run_one rom options m).machine
  unfolding run_one
  run-valid = read_valid (read_at (shown rom m) m.core.pc) refl

  pub turn-valid : Valid options.device (accept_or_run rom options m).machine
  unfolding accept_or_run
  turn-valid =
      picked_by (λ (x : Done). Valid options.device x.machine) (ltb (source_of m.core) 6) (accept_of m (source_of m.core)) (run_one rom options m)
      (λ q. accept-valid (source_of m.core) (ltb→lt (source_of m.core) 6 q)) run-valid

  pub act-valid : Valid options.device (act_of rom options m).machine
  unfolding act_of
  act-valid = record { core = after_valid (accept_or_run rom options m).cycles (accept_or_run rom options m).machine.core turn-valid.core; ram = turn-valid.ram }

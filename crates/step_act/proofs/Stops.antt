-- A turn that stops leaves the record as it was and spends nothing, and so does acting; a turn and acting leave the mark.
use mathlib.Core.Path.{◌≡◌, refl, ap, ◌∙◌}
use Prim.Native.Nat.{ℕ}
use lib.Dec.{ltb}
use Rattle.laws.proofs.Choices.{picked}
use Rattle.numbers.specs.ComesBack.{stack_level}
use Rattle.device.specs.declared.Options.{Options}
use Rattle.std.specs.Prelude.{Ok, Err}
use Rattle.sheet.specs.Reading.{Read, read_at}
use Rattle.sheet.specs.Table.{line_at}
use Rattle.sheet.specs.declared.NoRow.{NoRow}
use Rattle.clock.specs.Clock.{passed}
use Rattle.ports.specs.declared.Mode.{Mode}
use Rattle.due.specs.Due.{due_number}
use Rattle.record.specs.Stack.{can_push, accepted}
use Rattle.record.specs.declared.Core.{Core}
use Rattle.record.specs.declared.Machine.{Machine}
use Rattle.row.specs.Rows.{Done, spent, stops}
use Rattle.row.proofs.Frame.{stop_undone}
use Rattle.row.proofs.RowMark.{performed_mark}
use Rattle.step_act.specs.Act.{source_of, accept_of, run_read, shown, run_one, accept_or_run, core_in, core_after, after_time, act_of}

-- a stop gives the record m back and spends nothing
abbrev Keeps : Machine → Done → Type 0
Keeps m x = (x.stop ≡ 0 → ⊥) → x ≡ stops x.stop m

abbrev Marked : Machine → Done → Type 0
Marked m x = x.machine.core.mark ≡ m.core.mark

-- the due source of the record agrees with latches and mask
abbrev pub Agrees : Core → Type 0
Agrees m = m.ints.due ≡ due_number m.ints.il m.ints.mask

in_mode_none : (mode : Mode) (m : Core) → Agrees m → core_in mode 0 m ≡ m
unfolding passed
in_mode_none Mode.Running m a = rw (← a)
in_mode_none Mode.Sleep m a = refl
in_mode_none Mode.Hold m a = refl

-- no cycles, no time
pub none_passes : (m : Core) → Agrees m → core_after 0 m ≡ m
unfolding core_after
none_passes m a = in_mode_none m.mode m a

in_mode_marked : (mode : Mode) (n : ℕ) (m : Core) → (core_in mode n m).mark ≡ m.mark
in_mode_marked Mode.Running n m = refl
in_mode_marked Mode.Sleep n m = refl
in_mode_marked Mode.Hold n m = refl

after_marked : (n : ℕ) (m : Core) → (core_after n m).mark ≡ m.mark
unfolding core_after
after_marked n m = in_mode_marked m.mode n m

module _ (rom : ℕ → ℕ → ℕ) (options : Options) (m : Machine) where
  accept-keeps : (source : ℕ) → Keeps m (accept_of m source)
  unfolding accept_of
  accept-keeps source =
      picked (Keeps m) (can_push m.core) (spent 2 (accepted m source)) (stops stack_level m)
      (λ z. absurd (z refl)) (λ z. refl)

  read_keeps : (r : Read) → Keeps m (run_read (shown rom m) options m r)
  read_keeps (Ok i) =
      λ z. stop_undone m (record { rom = shown rom m; options = options; insn = i }) (line_at i.row) (line_at i.row).operation z
  read_keeps (Err NoRow.Unassigned) = λ z. refl
  read_keeps (Err NoRow.PastEnd) = λ z. refl

  turn-keeps : Keeps m (accept_or_run rom options m)
  unfolding accept_or_run run_one
  turn-keeps =
      picked (Keeps m) (ltb (source_of m.core) 6) (accept_of m (source_of m.core)) (run_one rom options m)
      (accept-keeps (source_of m.core)) (read_keeps (read_at (shown rom m) m.core.pc))

  pub act-keeps : Agrees m.core → Keeps m (act_of rom options m)
  unfolding act_of
  act-keeps a z =
      ap after_time (turn-keeps z)
      ∙ ap (λ (c : Core). stops (accept_or_run rom options m).stop (record { core = c; ram = m.ram })) (none_passes m.core a)

  accept-marked : (source : ℕ) → Marked m (accept_of m source)
  unfolding accept_of accepted
  accept-marked source = picked (Marked m) (can_push m.core) (spent 2 (accepted m source)) (stops stack_level m) refl refl

  read-marked : (r : Read) → Marked m (run_read (shown rom m) options m r)
  read-marked (Ok i) =
      performed_mark m (record { rom = shown rom m; options = options; insn = i }) (line_at i.row) (line_at i.row).operation
  read-marked (Err NoRow.Unassigned) = refl
  read-marked (Err NoRow.PastEnd) = refl

  turn-marked : Marked m (accept_or_run rom options m)
  unfolding accept_or_run run_one
  turn-marked =
      picked (Marked m) (ltb (source_of m.core) 6) (accept_of m (source_of m.core)) (run_one rom options m)
      (accept-marked (source_of m.core)) (read-marked (read_at (shown rom m) m.core.pc))

  pub act-marked : Marked m (act_of rom options m)
  unfolding act_of
  act-marked = after_marked (accept_or_run rom options m).cycles (accept_or_run rom options m).machine.core ∙ turn-marked

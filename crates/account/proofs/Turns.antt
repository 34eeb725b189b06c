-- What a turn, an acceptance or one row, leaves of the time base and of a timer.
use Rattle.std.specs.Prelude.{Err, Ok}
use mathlib.Core.Path.{◌≡◌, refl, sym, subst, ap, ◌∙◌}
use mathlib.Core.Bool.{Bool, true, false}
use mathlib.Core.List.{List}
use Prim.Native.Nat.{ℕ, ◌%◌}
use lib.Dec.{T, ltb, eqb}
use Rattle.laws.specs.Choice.{pick}
use Rattle.laws.proofs.Choices.{picked}
use Rattle.numbers.specs.ComesBack.{stack_level}
use Rattle.device.specs.declared.Options.{Options}
use Rattle.sheet.specs.declared.NoRow.{NoRow}
use Rattle.sheet.specs.Operation.{Place, Pointer, Step, After, Operation}
use Rattle.sheet.specs.Flow.{call_entry}
use Rattle.sheet.specs.Reading.{Read, read_at}
use Rattle.sheet.specs.Table.{Line, line_at}
use Rattle.sheet.specs.declared.Insn.{Insn}
use Rattle.ports.specs.Ports.{enters}
use Rattle.ports.specs.declared.Mode.{Mode}
use Rattle.ports.specs.declared.Mode.TheVariants.{Running}
use Rattle.record.specs.Stack.{can_push, can_pop, moved, called, popped, accepted, flags_returned}
use Rattle.record.specs.declared.Registers.{Registers}
use Rattle.record.specs.declared.Interrupts.{Interrupts}
use Rattle.record.specs.declared.Machine.{Machine}
use Rattle.row.specs.Places.{Around, port_of, put_of}
use Rattle.row.specs.Rows.{Done, spent, stops, work_of, branch_of, call_of, latches_of, performed, pc_past}
use Rattle.row.proofs.Keeps.{work-holds, work-keeps-but, Any, any_in, any_after}
use Rattle.step_look.specs.Look.{is_running}
use Rattle.step_act.specs.Act.{source_of, accept_of, run_read, shown, run_one, accept_or_run}
use Rattle.account.specs.Account.{Timer, count_of, is_part_of, writes_timer}

-- a turn by its two ways: what holds of the record holds after it where it is kept by new registers, PC, SP, interrupt bits and RAM, and by the work of the row that is executed
module _ (P : Machine → Type 0) (m : Machine)
    (moves : (r : Registers) (pc sp : ℕ) (i : Interrupts) (l : List ℕ) → P (record { core = moved m.core r pc sp i; ram = l })) (same : P m) where
  performed-holds : (w : Around) (l : Line) (o : Operation) → ((s : Step) (a : After) → o ≡ Operation.work s a → P (work_of m w l s a).machine) → P (performed m w l o).machine
  unfolding branch_of call_of latches_of called flags_returned
  performed-holds w l (Operation.work s a) works = works s a refl
  performed-holds w l (Operation.branch t) works = moves _ _ _ _ _
  performed-holds w l (Operation.call e) works =
      picked (λ (x : Done). P x.machine) (can_push m.core) (spent l.cycles (called m (pc_past m l) (call_entry e w.insn.a))) (stops stack_level m) (moves _ _ _ _ _) same
  performed-holds w l Operation.return works = picked (λ (x : Done). P x.machine) (can_pop m.core) (spent l.cycles (popped m)) (stops stack_level m) (moves _ _ _ _ _) same
  performed-holds w l Operation.return_flag works =
      picked (λ (x : Done). P x.machine) (can_pop m.core) (spent l.cycles (flags_returned m)) (stops stack_level m) (moves _ _ _ _ _) same
  performed-holds w l (Operation.IL⟵IL-and-r e) works = moves _ _ _ _ _
  performed-holds w l Operation.no_operation works = moves _ _ _ _ _

  accept-holds : (source : ℕ) → P (accept_of m source).machine
  unfolding accept_of accepted
  accept-holds source = picked (λ (x : Done). P x.machine) (can_push m.core) (spent 2 (accepted m source)) (stops stack_level m) (moves _ _ _ _ _) same

  module _ (rom : ℕ → ℕ → ℕ) (o : Options) where
    abbrev pub around : Insn → Around
    around i = record { rom = shown rom m; options = o; insn = i }

    read-holds : (r : Read) → read_at (shown rom m) m.core.pc ≡ r
        → ((i : Insn) → read_at (shown rom m) m.core.pc ≡ Ok i → (s : Step) (a : After) → (line_at i.row).operation ≡ Operation.work s a → P (work_of m (around i) (line_at i.row) s a).machine)
        → P (run_read (shown rom m) o m r).machine
    read-holds (Ok i) e works = performed-holds (around i) (line_at i.row) (line_at i.row).operation (works i e)
    read-holds (Err NoRow.Unassigned) e works = same
    read-holds (Err NoRow.PastEnd) e works = same

    turn_by : (t : Bool) → ltb (source_of m.core) 6 ≡ t
        → (t ≡ false → (i : Insn) → read_at (shown rom m) m.core.pc ≡ Ok i → (s : Step) (a : After) → (line_at i.row).operation ≡ Operation.work s a → P (work_of m (around i) (line_at i.row) s a).machine)
        → P (pick t (accept_of m (source_of m.core)) (run_one rom o m)).machine
    unfolding run_one
    turn_by true e works = accept-holds (source_of m.core)
    turn_by false e works = read-holds (read_at (shown rom m) m.core.pc) refl (works refl)

    pub turn_holds : (ltb (source_of m.core) 6 ≡ false → (i : Insn) → read_at (shown rom m) m.core.pc ≡ Ok i → (s : Step) (a : After) → (line_at i.row).operation ≡ Operation.work s a → P (work_of m (around i) (line_at i.row) s a).machine)
        → P (accept_or_run rom o m).machine
    unfolding accept_or_run
    turn_holds works = turn_by (ltb (source_of m.core) 6) refl works

-- "Writing P16 with bit 2 set enters hold .. or sleep; the time base becomes 0": where a record still runs, its time base was left
abbrev pub StillAt : ℕ → Machine → Type 0
StillAt base n = n.core.mode ≡ Running → n.core.timers.base ≡ base

left_running : (t u : Bool) (mode : Mode) (base b : ℕ) → (mode ≡ Running → base ≡ b) → pick t (pick u Mode.Hold Mode.Sleep) mode ≡ Running → pick t 0 base ≡ b
left_running true true mode base b h e = absurd (subst (λ (x : Mode). T (is_running x)) (sym e) tt)
left_running true false mode base b h e = absurd (subst (λ (x : Mode). T (is_running x)) (sym e) tt)
left_running false u mode base b h e = h e

base_put : (w : Around) (b : ℕ) (m : Machine) (p : Place) (v : ℕ) → StillAt b m → StillAt b (put_of m w p v).machine
base_put w b m (Place.register r) v h = h
base_put w b m (Place.given g) v h = h
base_put w b m (Place.cell c) v h = h
base_put w b m (Place.port q) v h = left_running (enters (port_of m.core.regs w.insn q) v) (eqb (v % 4) 3) m.core.mode m.core.timers.base b h
base_put w b m (Place.pointer Pointer.sp) v h = h
base_put w b m (Place.pointer (Pointer.dp p)) v h = h
base_put w b m (Place.pointer (Pointer.ta p)) v h = h
base_put w b m (Place.pointer (Pointer.tb p)) v h = h
base_put w b m (Place.rom g) v h = h
base_put w b m Place.mask v h = h

pub turn_base : (rom : ℕ → ℕ → ℕ) (o : Options) (m : Machine) → StillAt m.core.timers.base (accept_or_run rom o m).machine
turn_base rom o m =
    turn_holds (StillAt m.core.timers.base) m (λ r pc sp i l e. refl) (λ e. refl) rom o
    (λ _ i _ s a _.
    let w : Around = record { rom = shown rom m; options = o; insn = i } in
    work-holds (StillAt m.core.timers.base) w (λ n q h. h) (λ n q h. h) (λ n r pc h. h) Any
    (λ n p v _. base_put w m.core.timers.base n p v) m (line_at i.row) s a (any_in w m s) (any_after w m s a) (λ e. refl))

-- a nibble put at another place leaves the timer
count_put : (t : Timer) (w : Around) (m : Machine) (p : Place) (v : ℕ) → is_part_of t p ≡ false → count_of t (put_of m w p v).machine.core.timers ≡ count_of t m.core.timers
count_put t w m (Place.register r) v e = refl
count_put t w m (Place.given g) v e = refl
count_put t w m (Place.cell c) v e = refl
count_put Timer.TA w m (Place.port q) v e = refl
count_put Timer.TB w m (Place.port q) v e = refl
count_put t w m (Place.pointer Pointer.sp) v e = refl
count_put t w m (Place.pointer (Pointer.dp p)) v e = refl
count_put Timer.TA w m (Place.pointer (Pointer.ta p)) v e = absurd (subst T e tt)
count_put Timer.TB w m (Place.pointer (Pointer.ta p)) v e = refl
count_put Timer.TA w m (Place.pointer (Pointer.tb p)) v e = refl
count_put Timer.TB w m (Place.pointer (Pointer.tb p)) v e = absurd (subst T e tt)
count_put t w m (Place.rom g) v e = refl
count_put t w m Place.mask v e = refl

-- a turn that executes no row which writes the timer leaves it
pub turn_count : (t : Timer) (rom : ℕ → ℕ → ℕ) (o : Options) (m : Machine)
    → (ltb (source_of m.core) 6 ≡ false → (i : Insn) → read_at (shown rom m) m.core.pc ≡ Ok i → writes_timer t (line_at i.row).operation ≡ false)
    → count_of t (accept_or_run rom o m).machine.core.timers ≡ count_of t m.core.timers
turn_count t rom o m none =
    turn_holds (λ n. count_of t n.core.timers ≡ count_of t m.core.timers) m (λ r pc sp i l. refl) refl rom o
    (λ q i e s a is.
    let w : Around = record { rom = shown rom m; options = o; insn = i } in
    work-keeps-but (λ n. count_of t n.core.timers) w (λ n q. refl) (λ n q. refl) (λ n r pc. refl) (is_part_of t) (λ n p v. count_put t w n p v)
    m (line_at i.row) s a (ap (writes_timer t) (sym is) ∙ none q i e))

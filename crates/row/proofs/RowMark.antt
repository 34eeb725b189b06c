-- A row leaves the mark: it says whether a look was the whole step, and no instruction speaks of it.
use mathlib.Core.Path.{◌≡◌, refl}
use Rattle.laws.proofs.Choices.{picked}
use Rattle.numbers.specs.ComesBack.{stack_level}
use Rattle.sheet.specs.Operation.{Step, After, Operation}
use Rattle.sheet.specs.Flow.{call_entry}
use Rattle.sheet.specs.Table.{Line}
use Rattle.record.specs.Stack.{can_push, can_pop, called, popped, flags_returned}
use Rattle.record.specs.declared.Machine.{Machine}
use Rattle.row.specs.Places.{Around}
use Rattle.row.specs.Rows.{Done, spent, stops, work_of, branch_of, call_of, latches_of, performed, pc_past}
use Rattle.row.proofs.Keeps.{putting, work-keeps-always}

work_mark : (m : Machine) (w : Around) (l : Line) (s : Step) (a : After) → (work_of m w l s a).machine.core.mark ≡ m.core.mark
work_mark m w l s a =
    work-keeps-always (λ n. n.core.mark) w (λ n q. refl) (λ n q. refl) (λ n r pc. refl)
    (λ n p v. putting {P = λ k. k.core.mark ≡ n.core.mark} {w = w} p (record { same = refl; regs = λ r. refl; ram = λ r. refl; ports = λ q e. refl; ptrs = λ q. refl; timers = λ t. refl; ints = λ i e. refl }))
    m l s a

-- the record after a row has the mark of the record before
abbrev Marked : Machine → Done → Type 0
Marked m x = x.machine.core.mark ≡ m.core.mark

pub performed_mark : (m : Machine) (w : Around) (l : Line) (o : Operation) → Marked m (performed m w l o)
unfolding branch_of call_of latches_of called flags_returned
performed_mark m w l (Operation.work s a) = work_mark m w l s a
performed_mark m w l (Operation.branch t) = refl
performed_mark m w l (Operation.call e) =
    picked (Marked m) (can_push m.core) (spent l.cycles (called m (pc_past m l) (call_entry e w.insn.a))) (stops stack_level m) refl refl
performed_mark m w l Operation.return = picked (Marked m) (can_pop m.core) (spent l.cycles (popped m)) (stops stack_level m) refl refl
performed_mark m w l Operation.return_flag =
    picked (Marked m) (can_pop m.core) (spent l.cycles (flags_returned m)) (stops stack_level m) refl refl
performed_mark m w l (Operation.IL⟵IL-and-r e) = refl
performed_mark m w l Operation.no_operation = refl

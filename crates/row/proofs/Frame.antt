-- What the columns of a line tell of its row: one proof over the shapes of the operation column.
use Prim.Native.Nat.{ℕ}
use mathlib.Core.Bool.{Bool, true, false}
use mathlib.Core.Path.{◌≡◌, refl, sym, subst, ap, ◌∙◌}
use lib.Dec.{T, eqb, leb}
use borrow.Author.Tests.{eq-eqb}
use Rattle.numbers.specs.ComesBack.{stack_level}
use Rattle.laws.specs.Choice.{pick, both}
use Rattle.sheet.specs.Operation.{Step, After, Enable, Operation}
use Rattle.sheet.specs.Table.{Line, Mark, set}
use Rattle.alu.specs.Making.{value_and_carry}
use Rattle.alu.specs.Flags.{flag_after}
use Rattle.alu.specs.declared.Made.{Made}
use Rattle.record.specs.declared.Machine.{Machine}
use Rattle.row.specs.Places.{Around, with_pc}
use Rattle.row.specs.Steps.{Did}
use Rattle.row.specs.Rows.{Done, spent, stops, with_marks, work_of, branch_of, call_of, worked, ended, latches_of, performed, pc_past}
use Rattle.row.specs.Columns.{is_port, work_puts, is_ordinary, Ordinary}
use Rattle.row.proofs.Keeps.{putting, work-keeps-always, work-keeps-but}

-- every work leaves EI; and the mode, unless it puts a nibble to a port
work_ei : (m : Machine) (w : Around) (l : Line) (s : Step) (a : After) → (work_of m w l s a).machine.core.ints.ei ≡ m.core.ints.ei
work_ei m w l s a =
    work-keeps-always (λ n. n.core.ints.ei) w (λ n q. refl) (λ n q. refl) (λ n r pc. refl)
    (λ n p v. putting {P = λ k. k.core.ints.ei ≡ n.core.ints.ei} {w = w} p (record { same = refl; regs = λ r. refl; ram = λ r. refl; ports = λ q e. refl; ptrs = λ q. refl; timers = λ t. refl; ints = λ i e. e }))
    m l s a

work_mode : (m : Machine) (w : Around) (l : Line) (s : Step) (a : After) → work_puts is_port s a ≡ false → (work_of m w l s a).machine.core.mode ≡ m.core.mode
work_mode m w l s a =
    work-keeps-but (λ n. n.core.mode) w (λ n q. refl) (λ n q. refl) (λ n r pc. refl) is_port
    (λ n p v e. putting {P = λ k. k.core.mode ≡ n.core.mode} {w = w} p (record { same = refl; regs = λ r. refl; ram = λ r. refl; ports = λ q is. absurd (subst T (sym (ap is_port is) ∙ e) tt); ptrs = λ q. refl; timers = λ t. refl; ints = λ i e. refl }))
    m l s a

set_flag : (k : Mark) (old : Bool) (x : Made) → k ≡ set → flag_after k old x ≡ true
unfolding flag_after
set_flag k old x e = rw e

-- a row that does not stop went on
going : (t : Bool) (n : ℕ) (m : Machine) (x : Done) → eqb n 0 ≡ t → (pick t x (stops n m)).stop ≡ 0 → t ≡ true
going true n m x e z = refl
going false n m x e z = absurd (subst T (sym (eq-eqb n 0 z) ∙ e) tt)

went : (m : Machine) (l : Line) (x : Did) → (ended m l x).stop ≡ 0 → eqb x.stop 0 ≡ true
went m l x z = going (eqb x.stop 0) x.stop m (spent l.cycles (with_pc (with_marks x.machine l x.made) (pc_past m l))) refl z

work_row : (m : Machine) (w : Around) (l : Line) (s : Step) (a : After) → (work_of m w l s a).stop ≡ 0 → Ordinary m l (Operation.work s a) (work_of m w l s a)
unfolding work_of
work_row m w l s a z =
    let x = worked m w s a in
    let e = went m l x z in
    record {
      pc = rw e;
      cycles = rw e;
      sf = λ q. rw e (set_flag l.s x.machine.core.regs.sf x.made q);
      ei = λ q off. work_ei m w l s a ∙ off;
      mode = λ q. work_mode m w l s a q;
    }

latch_row : (m : Machine) (w : Around) (l : Line) (e : Enable) → Ordinary m l (Operation.IL⟵IL-and-r e) (latches_of m w l e)
unfolding latches_of
latch_row m w l Enable.EI⟵EI = record { pc = refl; cycles = refl; sf = λ q. set_flag l.s m.core.regs.sf (value_and_carry 0 false) q; ei = λ q off. off; mode = λ q. refl }
latch_row m w l Enable.EI⟵0 = record { pc = refl; cycles = refl; sf = λ q. set_flag l.s m.core.regs.sf (value_and_carry 0 false) q; ei = λ q off. refl; mode = λ q. refl }
latch_row m w l Enable.EI⟵1 = record { pc = refl; cycles = refl; sf = λ q. set_flag l.s m.core.regs.sf (value_and_carry 0 false) q; ei = λ q off. absurd (subst T q tt); mode = λ q. refl }

-- the theorem, over the shapes
pub ordinary : (m : Machine) (w : Around) (l : Line) (o : Operation) → is_ordinary o ≡ true → (performed m w l o).stop ≡ 0 → Ordinary m l o (performed m w l o)
ordinary m w l (Operation.work s a) e z = work_row m w l s a z
ordinary m w l (Operation.branch t) e z = absurd (subst T (sym e) tt)
ordinary m w l (Operation.call c) e z = absurd (subst T (sym e) tt)
ordinary m w l Operation.return e z = absurd (subst T (sym e) tt)
ordinary m w l Operation.return_flag e z = absurd (subst T (sym e) tt)
ordinary m w l (Operation.IL⟵IL-and-r c) e z = latch_row m w l c
ordinary m w l Operation.no_operation e z = record { pc = refl; cycles = refl; sf = λ q. set_flag l.s m.core.regs.sf (value_and_carry 0 false) q; ei = λ q off. off; mode = λ q. refl }

-- a stop gives the record as it was, and no cycles
undone : (t : Bool) (n : ℕ) (m : Machine) (x : Done) → x.stop ≡ 0 → ((pick t x (stops n m)).stop ≡ 0 → ⊥) → pick t x (stops n m) ≡ record { stop = (pick t x (stops n m)).stop; cycles = 0; machine = m }
undone true n m x e z = absurd (z e)
undone false n m x e z = refl

pub stop_undone : (m : Machine) (w : Around) (l : Line) (o : Operation) → ((performed m w l o).stop ≡ 0 → ⊥) → performed m w l o ≡ record { stop = (performed m w l o).stop; cycles = 0; machine = m }
unfolding work_of branch_of call_of latches_of
stop_undone m w l (Operation.work s a) z = undone (eqb (worked m w s a).stop 0) (worked m w s a).stop m _ refl z
stop_undone m w l (Operation.branch t) z = absurd (z refl)
stop_undone m w l (Operation.call c) z = undone (both (leb 1 m.core.ptrs.sp) (leb m.core.ptrs.sp 13)) stack_level m _ refl z
stop_undone m w l Operation.return z = undone (leb m.core.ptrs.sp 12) stack_level m _ refl z
stop_undone m w l Operation.return_flag z = undone (leb m.core.ptrs.sp 12) stack_level m _ refl z
stop_undone m w l (Operation.IL⟵IL-and-r c) z = absurd (z refl)
stop_undone m w l Operation.no_operation z = absurd (z refl)

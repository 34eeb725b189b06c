-- What the columns of a line tell of any row that is no branch, call or return and does not stop.
use Rattle.std.specs.Prelude.{Bool, true, false, ◌≡◌}
use Rattle.laws.specs.Choice.{either}
use Rattle.sheet.specs.Operation.{Place, Step, After, Enable, Operation}
use Rattle.sheet.specs.Table.{Line, set}
use Rattle.record.specs.declared.Machine.{Machine}
use Rattle.row.specs.Rows.{Done, pc_past}

-- whether a place is a port
abbrev pub is_port : Place → Bool
is_port (Place.register r) = false
is_port (Place.given g) = false
is_port (Place.cell c) = false
is_port (Place.port p) = true
is_port (Place.pointer p) = false
is_port (Place.rom h) = false
is_port Place.mask = false

-- whether a step puts a nibble at such a place, and whether one of a row's steps does
abbrev pub step_puts : (Place → Bool) → Step → Bool
step_puts f (Step.put d o x y) = f d
step_puts f (Step.exchange d x) = either (f d) (f x)
step_puts f Step.DP+1 = false

abbrev pub after_puts : (Place → Bool) → After → Bool
after_puts f After.alone = false
after_puts f (After.flags_of t) = step_puts f t
after_puts f (After.flags_before t) = step_puts f t

abbrev pub work_puts : (Place → Bool) → Step → After → Bool
work_puts f s a = either (step_puts f s) (after_puts f a)

-- the row sets EI: EICIL and RTI
abbrev pub sets_ei : Operation → Bool
sets_ei (Operation.work s a) = false
sets_ei (Operation.branch t) = false
sets_ei (Operation.call e) = false
sets_ei Operation.return = false
sets_ei Operation.return_flag = true
sets_ei (Operation.IL⟵IL-and-r Enable.EI⟵EI) = false
sets_ei (Operation.IL⟵IL-and-r Enable.EI⟵0) = false
sets_ei (Operation.IL⟵IL-and-r Enable.EI⟵1) = true
sets_ei Operation.no_operation = false

abbrev pub writes_port : Operation → Bool
writes_port (Operation.work s a) = work_puts is_port s a
writes_port (Operation.branch t) = false
writes_port (Operation.call e) = false
writes_port Operation.return = false
writes_port Operation.return_flag = false
writes_port (Operation.IL⟵IL-and-r e) = false
writes_port Operation.no_operation = false

-- neither a branch, a call nor a return
abbrev pub is_ordinary : Operation → Bool
is_ordinary (Operation.work s a) = true
is_ordinary (Operation.branch t) = false
is_ordinary (Operation.call e) = false
is_ordinary Operation.return = false
is_ordinary Operation.return_flag = false
is_ordinary (Operation.IL⟵IL-and-r e) = true
is_ordinary Operation.no_operation = true

-- such a row moves PC by its length, spends its cycles, sets SF where S is 1, sets EI only where its operation does, and keeps the mode unless it writes a port
pub record Ordinary (m : Machine) (l : Line) (o : Operation) (x : Done) : Type 0 where
  pub pc : x.machine.core.pc ≡ pc_past m l
  pub cycles : x.cycles ≡ l.cycles
  pub sf : l.s ≡ set → x.machine.core.regs.sf ≡ true
  pub ei : sets_ei o ≡ false → m.core.ints.ei ≡ false → x.machine.core.ints.ei ≡ false
  pub mode : writes_port o ≡ false → x.machine.core.mode ≡ m.core.mode

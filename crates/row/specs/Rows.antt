-- What a row does to the record: the operation column interpreted, a definition for each of its shapes; then the flags by the three marks, PC past the row, and its cycles. A stop gives the record as it was, and no cycles.
use Rattle.std.specs.Prelude.{ℕ, Bool, true, false, eqb}
use Rattle.std.specs.Int.Bits.{bit_and}
use Rattle.laws.specs.Choice.{pick}
use Rattle.numbers.specs.ComesBack.{stack_level}
use Rattle.sheet.specs.Operation.{Step, After, Target, Entry, Enable, Operation}
use Rattle.sheet.specs.Table.{Line, line_at}
use Rattle.sheet.specs.Reading.{wrapped}
use Rattle.sheet.specs.Flow.{target_of, call_entry}
use Rattle.alu.specs.Making.{value_and_carry}
use Rattle.alu.specs.Flags.{flag_after}
use Rattle.alu.specs.declared.Made.{Made}
use Rattle.record.specs.With.{interrupts_of}
use Rattle.record.specs.Stack.{can_push, can_pop, called, popped, flags_returned}
use Rattle.record.specs.declared.Registers.{Registers}
use Rattle.record.specs.declared.Machine.{Machine}
use Rattle.row.specs.Places.{Around, with_registers, with_pc, with_interrupts}
use Rattle.row.specs.Steps.{Did, first_of, operation_step}

-- a stop or 0, the cycles spent, and the record
pub record Done : Type 0 where
  pub stop : ℕ
  pub cycles : ℕ
  pub machine : Machine

abbrev pub spent : ℕ → Machine → Done
spent t m = record { stop = 0; cycles = t; machine = m }

abbrev pub stops : ℕ → Machine → Done
stops n m = record { stop = n; cycles = 0; machine = m }

-- the three flags after a row that made what it made
abbrev pub flagged : Registers → Line → Made → Registers
flagged r l x = record {
  acc = r.acc;
  hr = r.hr;
  lr = r.lr;
  cf = flag_after l.c r.cf x;
  zf = flag_after l.z r.zf x;
  sf = flag_after l.s r.sf x;
}

abbrev pub pc_past : Machine → Line → ℕ
pc_past m l = wrapped m.core.pc l.bytes

abbrev pub with_marks : Machine → Line → Made → Machine
with_marks m l x = with_registers m (flagged m.core.regs l x)

-- the end of a row that goes on at the next one
abbrev pub ended : Machine → Line → Did → Done
ended m l x =
    pick (eqb x.stop 0) (spent l.cycles (with_pc (with_marks x.machine l x.made) (pc_past m l))) (stops x.stop m)

-- two steps in one row, the flags speaking of the second or of the first
abbrev pub in_turn : Did → Did → Made → Did
in_turn x y made = record { stop = first_of x.stop y.stop; made = made; machine = y.machine }

abbrev pub worked : Machine → Around → Step → After → Did
worked m w s After.alone = operation_step m w s
worked m w s (After.flags_of t) = in_turn (operation_step m w s) (operation_step (operation_step m w s).machine w t) (operation_step (operation_step m w s).machine w t).made
worked m w s (After.flags_before t) = in_turn (operation_step m w s) (operation_step (operation_step m w s).machine w t) (operation_step m w s).made

unfoldable pub work_of : Machine → Around → Line → Step → After → Done
work_of m w l s a = ended m l (worked m w s a)

-- sheet 000: "If SF=1 then PC←a else null"; "A branch sets SF, taken or not"
unfoldable pub branch_of : Machine → Around → Line → Target → Done
branch_of m w l t =
    spent l.cycles
    (with_pc (with_marks m l (value_and_carry 0 false)) (pick m.core.regs.sf (target_of t m.core.pc w.insn.a) (pc_past m l)))

-- "A call or acceptance lowers SP first, so SP must be 1 to 13."
unfoldable pub call_of : Machine → Around → Line → Entry → Done
call_of m w l e =
    pick (can_push m.core)
    (spent l.cycles (called m (pc_past m l) (call_entry e w.insn.a)))
    (stops stack_level m)

-- "RET and RTI read level SP, then raise it: 0 to 12."
abbrev pub returned : Machine → Line → Machine → Done
returned m l n = pick (can_pop m.core) (spent l.cycles n) (stops stack_level m)

abbrev pub enabled : Enable → Bool → Bool
enabled Enable.EI⟵EI ei = ei
enabled Enable.EI⟵0 ei = false
enabled Enable.EI⟵1 ei = true

-- CIL, DICIL, EICIL, sheet 000: "IL←IL & r"
unfoldable pub latches_of : Machine → Around → Line → Enable → Done
latches_of m w l e =
    spent l.cycles
    (with_pc
    (with_interrupts (with_marks m l (value_and_carry 0 false)) (interrupts_of (enabled e m.core.ints.ei) (bit_and m.core.ints.il w.insn.a) m.core.ints.mask))
    (pc_past m l))

abbrev pub performed : Machine → Around → Line → Operation → Done
performed m w l (Operation.work s a) = work_of m w l s a
performed m w l (Operation.branch t) = branch_of m w l t
performed m w l (Operation.call e) = call_of m w l e
performed m w l Operation.return = returned m l (popped m)
performed m w l Operation.return_flag = returned m l (flags_returned m)
performed m w l (Operation.IL⟵IL-and-r e) = latches_of m w l e
performed m w l Operation.no_operation = spent l.cycles (with_pc (with_marks m l (value_and_carry 0 false)) (pc_past m l))

-- a row with its operands, in its surroundings, on a record
abbrev pub executed : Around → Machine → Done
executed w m = performed m w (line_at w.insn.row) (line_at w.insn.row).operation

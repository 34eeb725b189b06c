-- Where a branch or a call goes, by its operand and, of a branch, by the address of the row's own first byte.
use Rattle.std.specs.Prelude.{ℕ, ◌+◌, ◌*◌, ◌/◌, eqb, Option, Some, None}
use Rattle.laws.specs.Choice.{pick}
use Rattle.sheet.specs.Operation.{Operation, Target, Entry}
use Rattle.sheet.specs.Operation.Operation.{work, branch, call, return, return_flag, IL⟵IL-and-r, no_operation}
use Rattle.sheet.specs.Table.{line_at}
use Rattle.sheet.specs.declared.Insn.{Insn}
use Rattle.sheet.specs.Operation.Target.{page, half, whole}
use Rattle.sheet.specs.Operation.Entry.{long, short}

-- "SBR keeps PC bits 12..6 and LBR bit 12 of its own first byte. SLBR: 55h goes to the upper 4 KiB, 57h to the lower, second byte 1100 aaaa (001)": its codes stand in the table, and its operand has bit 12
abbrev pub target_of : Target → ℕ → ℕ → ℕ
target_of page at a = at / 64 * 64 + a
target_of half at a = at / 4096 * 4096 + a
target_of whole at a = a

-- "SCALL n: 8n + 6, but 86h for n = 0"; the address of LCALL stands in its code
abbrev pub call_entry : Entry → ℕ → ℕ
call_entry long a = a
call_entry short n = pick (eqb n 0) 0x86 (8 * n + 6)

-- where a row goes by its operation; one that is no branch and no call goes nowhere
abbrev pub goes_by : Operation → ℕ → ℕ → Option ℕ
goes_by (work s t) at a = None
goes_by (branch t) at a = Some (target_of t at a)
goes_by (call e) at a = Some (call_entry e a)
goes_by return at a = None
goes_by return_flag at a = None
goes_by (IL⟵IL-and-r e) at a = None
goes_by no_operation at a = None

unfoldable pub goes_to : ℕ → Insn → Option ℕ
goes_to at i = goes_by (line_at i.row).operation at i.a

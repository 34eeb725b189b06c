-- Document 01, "The handler bound": the places of an image and what follows each, read off the columns of the sheet.
use Rattle.std.specs.Prelude.{Ok, Err, ℕ, ◌+◌, ◌*◌, ◌/◌, ◌%◌, Bool, true, false, eqb}
use Rattle.laws.specs.Among.{among}
use Rattle.laws.specs.Choice.{pick, both}
use Rattle.bits.specs.Bits.{bit_of}
use Rattle.device.specs.Device.{guarded}
use Rattle.device.specs.declared.Device.{Device}
use Rattle.sheet.specs.Operation.{Target, Operation}
use Rattle.sheet.specs.Table.{Mark, Line, line_at}
use Rattle.sheet.specs.Reading.{Read, read_at, wrapped}
use Rattle.sheet.specs.Flow.{target_of}
use Rattle.sheet.specs.declared.Insn.{Insn}
use Rattle.row.specs.Columns.{sets_ei, writes_port}
use Rattle.graph.specs.Graph.{Kind, kind_number, Graph}

-- "A place is an address with "SF known set" or not": twice the address, and one more where SF is known set
abbrev pub place : ℕ → Bool → ℕ
place at known = 2 * at + bit_of known

abbrev pub address_of : ℕ → ℕ
address_of v = v / 2

abbrev pub is_known : ℕ → Bool
is_known v = eqb (v % 2) 1

-- "A row whose S column is 1 makes it known, any other unknown."
abbrev pub is_one : Mark → Bool
is_one Mark.kept = false
is_one Mark.carry = false
is_one Mark.not_carry = false
is_one Mark.is_zero = false
is_one Mark.not_zero = false
is_one Mark.clear = false
is_one Mark.set = true
is_one Mark.by_operation = false

-- a port is written by its number p, or as PORT[LR₃₋₂+4], which is one of 4 to 7; a row without p has 0 for it
abbrev pub writes_guarded : Device → Insn → Operation → Bool
writes_guarded d i o = both (writes_port o) (among (guarded d) i.b)

-- how a path goes on after a row: not at all; to its end; at the next instruction, with SF known set or not; as a branch
pub data Way : Type 0 where
  nowhere : Way
  end : Way
  onward : Bool → Way
  branches : Target → Way

-- "RTI ends a path. Excluded, with no next place: calls, RET, .., any row other than RTI that sets EI, any row writing P16." Q-6: "any row writing P3, by set or clear too, joins the bound's excluded rows"
abbrev pub way_by : Device → Insn → Mark → Operation → Way
way_by d i s (Operation.work to a) = pick (writes_guarded d i (Operation.work to a)) Way.nowhere (Way.onward (is_one s))
way_by d i s (Operation.branch t) = Way.branches t
way_by d i s (Operation.call e) = Way.nowhere
way_by d i s Operation.return = Way.nowhere
way_by d i s Operation.return_flag = Way.end
way_by d i s (Operation.IL⟵IL-and-r e) = pick (sets_ei (Operation.IL⟵IL-and-r e)) Way.nowhere (Way.onward (is_one s))
way_by d i s Operation.no_operation = Way.onward (is_one s)

abbrev pub way_of : Device → Insn → Line → Way
way_of d i l = way_by d i l.s l.operation

-- a node: a place's kind in the graph, what follows it, and its cycles
pub record Node : Type 0 where
  pub kind : ℕ
  pub next : ℕ
  pub other : ℕ
  pub cost : ℕ

abbrev pub excluded : Node
excluded = record { kind = kind_number Kind.excluded; next = 0; other = 0; cost = 0 }

abbrev pub ending : ℕ → Node
ending cycles = record { kind = kind_number Kind.ends_path; next = 0; other = 0; cost = cycles }

abbrev pub going : ℕ → ℕ → ℕ → Node
going next other cycles = record { kind = kind_number Kind.goes_on; next = next; other = other; cost = cycles }

-- "Branches make it known; one at a known place has only its target, at an unknown place also the next instruction."
abbrev pub forked : Bool → ℕ → ℕ → ℕ → Node
forked known on target cycles = going (pick known (place target true) (place on true)) (place target true) cycles

abbrev pub node_by : ℕ → Bool → Insn → ℕ → ℕ → Way → Node
node_by at known i bytes cycles Way.nowhere = excluded
node_by at known i bytes cycles Way.end = ending cycles
node_by at known i bytes cycles (Way.onward set) = going (place (wrapped at bytes) set) (place (wrapped at bytes) set) cycles
node_by at known i bytes cycles (Way.branches t) = forked known (wrapped at bytes) (target_of t at i.a) cycles

abbrev pub node_row : Device → ℕ → Bool → Insn → Line → Node
node_row d at known i l = node_by at known i l.bytes l.cycles (way_of d i l)

-- "unassigned codes"; and Q-8 of one whose bytes pass the end: "bound (there it is excluded)"
abbrev pub node_read : Device → ℕ → Bool → Read → Node
node_read d at known (Ok i) = node_row d at known i (line_at i.row)
node_read d at known (Err why) = excluded

-- the ROM is the image as P3 shows it
unfoldable pub node_of : Device → (ℕ → ℕ) → ℕ → Node
node_of d rom v = node_read d (address_of v) (is_known v) (read_at rom (address_of v))

-- the flow graph of a device's ROM, and the cycles of its places
unfoldable pub flow_graph : Device → (ℕ → ℕ) → Graph
flow_graph d rom = record { kind = λ v. (node_of d rom v).kind; next = λ v. (node_of d rom v).next; other = λ v. (node_of d rom v).other }

unfoldable pub flow_cost : Device → (ℕ → ℕ) → ℕ → ℕ
flow_cost d rom v = (node_of d rom v).cost

-- "the start is known"
abbrev pub start_of : ℕ → ℕ
start_of address = place address true

-- Request Q-9, "Handlers that call": the flow rules with calls. What document 01 says of the other rows stands (bound_flow/specs/Flow.antt).
use Rattle.std.specs.Prelude.{Ok, Err, ℕ, Bool, true, false}
use Rattle.laws.specs.Choice.{pick}
use Rattle.device.specs.declared.Device.{Device}
use Rattle.sheet.specs.declared.NoRow.{NoRow}
use Rattle.sheet.specs.Operation.{Place, Pointer, Entry, Operation}
use Rattle.sheet.specs.Table.{Mark, Line, line_at}
use Rattle.sheet.specs.Reading.{Read, read_at, wrapped}
use Rattle.sheet.specs.Flow.{call_entry}
use Rattle.sheet.specs.declared.Insn.{Insn}
use Rattle.row.specs.Columns.{work_puts}
use Rattle.routines.specs.Calling.{Flow}
use Rattle.bound_flow.specs.Flow.{place, address_of, is_known, Way, way_by, Node, excluded, ending, going, forked, node_by, start_of}
use Rattle.bound_calls.specs.declared.CallNode.{CallNode}

-- ".. and any row storing to SP"
abbrev pub is_sp : Place → Bool
is_sp (Place.pointer Pointer.sp) = true
is_sp (Place.pointer (Pointer.dp p)) = false
is_sp (Place.pointer (Pointer.ta p)) = false
is_sp (Place.pointer (Pointer.tb p)) = false
is_sp (Place.register r) = false
is_sp (Place.given g) = false
is_sp (Place.cell c) = false
is_sp (Place.port p) = false
is_sp (Place.rom h) = false
is_sp Place.mask = false

-- how a path goes on after a row: as document 01 says, or back to where the call was, or into the routine at an entry
pub data CallWay : Type 0 where
  as_before : Way → CallWay
  back : CallWay
  into : Entry → CallWay

-- "a call is followed to its RET and continues after it"
abbrev pub call_way_by : Device → Insn → Mark → Operation → CallWay
call_way_by d i s (Operation.work to a) = CallWay.as_before (pick (work_puts is_sp to a) Way.nowhere (way_by d i s (Operation.work to a)))
call_way_by d i s (Operation.branch t) = CallWay.as_before (way_by d i s (Operation.branch t))
call_way_by d i s (Operation.call e) = CallWay.into e
call_way_by d i s Operation.return = CallWay.back
call_way_by d i s Operation.return_flag = CallWay.as_before (way_by d i s Operation.return_flag)
call_way_by d i s (Operation.IL⟵IL-and-r e) = CallWay.as_before (way_by d i s (Operation.IL⟵IL-and-r e))
call_way_by d i s Operation.no_operation = CallWay.as_before (way_by d i s Operation.no_operation)

-- document 01's node in the flow with calls: it calls nothing
abbrev pub plain_node : Node → CallNode
plain_node n = record { kind = n.kind; next = n.next; other = n.other; entry = 0; cost = n.cost }

abbrev pub no_node : CallNode
no_node = plain_node excluded

abbrev pub ended : ℕ → CallNode
ended cycles = plain_node (ending cycles)

abbrev pub went : ℕ → ℕ → ℕ → CallNode
went next other cycles = plain_node (going next other cycles)

abbrev pub turned : Bool → ℕ → ℕ → ℕ → CallNode
turned known on target cycles = plain_node (forked known on target cycles)

-- RET; and a call, after which comes the next instruction, with SF unknown and with SF known
abbrev pub returning : ℕ → CallNode
returning cycles = record { kind = 4; next = 0; other = 0; entry = 0; cost = cycles }

abbrev pub calling : ℕ → ℕ → ℕ → CallNode
calling on entry cycles = record { kind = 3; next = place on false; other = place on true; entry = entry; cost = cycles }

abbrev pub call_node_by : ℕ → Bool → Insn → ℕ → ℕ → CallWay → CallNode
call_node_by at known i bytes cycles (CallWay.as_before w) = plain_node (node_by at known i bytes cycles w)
call_node_by at known i bytes cycles CallWay.back = returning cycles
call_node_by at known i bytes cycles (CallWay.into e) = calling (wrapped at bytes) (call_entry e i.a) cycles

abbrev pub call_way_of : Device → Insn → Line → CallWay
call_way_of d i l = call_way_by d i l.s l.operation

abbrev pub call_node_row : Device → ℕ → Bool → Insn → Line → CallNode
call_node_row d at known i l = call_node_by at known i l.bytes l.cycles (call_way_of d i l)

abbrev pub call_node_read : Device → ℕ → Bool → Read → CallNode
call_node_read d at known (Ok i) = call_node_row d at known i (line_at i.row)
call_node_read d at known (Err NoRow.Unassigned) = no_node
call_node_read d at known (Err NoRow.PastEnd) = no_node

-- the ROM is the image as P3 shows it
unfoldable pub call_node_of : Device → (ℕ → ℕ) → ℕ → CallNode
call_node_of d rom v = call_node_read d (address_of v) (is_known v) (read_at rom (address_of v))

-- "A called routine starts with SF unknown"; the handler's start is known
unfoldable pub call_flow : Device → (ℕ → ℕ) → ℕ → Flow
call_flow d rom start = record {
  kind = λ v. (call_node_of d rom v).kind;
  next = λ v. (call_node_of d rom v).next;
  other = λ v. (call_node_of d rom v).other;
  entry = λ v. (call_node_of d rom v).entry;
  known = is_known;
  start = start_of start;
  from = λ e. place e false;
}

unfoldable pub call_cycles : Device → (ℕ → ℕ) → ℕ → ℕ
call_cycles d rom v = (call_node_of d rom v).cost

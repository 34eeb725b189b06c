-- Request Q-9: "For handlers without calls or stores to SP the old answer stands, joined only by depth 0 with its path and that path's buffer under 23." The old answer is document 01's, by its own flow rules.
use Rattle.std.specs.Prelude.{Ok, ◌≡◌, Bool, true, false, not, List, ◌++◌, ℕ, ◌*◌, ◌<◌, ◌≤◌, length, drop}
use Rattle.device.specs.declared.Device.{Device}
use Rattle.sheet.specs.Operation.{Operation}
use Rattle.sheet.specs.Reading.{read_at}
use Rattle.sheet.specs.Table.{line_at}
use Rattle.sheet.specs.declared.Insn.{Insn}
use Rattle.row.specs.Columns.{work_puts}
use Rattle.graph.specs.Graph.{Reach, Path, next_only, Bad, Loops}
use Rattle.routines.specs.Answer.{LowestAddress, bytes_of, Found, excluded, repetition, short, bounds, Kept, Answer}
use Rattle.bound_flow.specs.Flow.{address_of, flow_graph, start_of}
use Rattle.bound_flow.specs.Bound.{HasBound}
use Rattle.bound_calls.specs.CallFlow.{is_sp, call_flow, call_cycles}

-- neither a call nor a row storing to SP
abbrev pub is_plain : Operation → Bool
is_plain (Operation.work s a) = not (work_puts is_sp s a)
is_plain (Operation.branch t) = true
is_plain (Operation.call e) = false
is_plain Operation.return = true
is_plain Operation.return_flag = true
is_plain (Operation.IL⟵IL-and-r e) = true
is_plain Operation.no_operation = true

-- "handlers without calls or stores to SP": none is reachable by document 01's rules
abbrev pub Plain : Device → (ℕ → ℕ) → ℕ → Type 0
Plain d rom start =
    (v : ℕ) (i : Insn) → Reach (flow_graph d rom) (start_of start) v → read_at rom (address_of v) ≡ Ok i → is_plain (line_at i.row).operation ≡ true

-- document 01's answer: 21 or 22 with the lowest address, 23 with the bytes needed, or N
pub data OldFound : Type 0 where
  old_21 old_22 old_23 old_n : ℕ → OldFound

-- "If an excluded place is reachable: 21. Else if a reachable place can be reached from itself in one or more steps: 22. Else N is the largest sum of cycles to an RTI, RTI included."
-- "The path is its addresses, two bytes each, low first .. Bytes after it stay." The buffer p became p'; "A refusal changes no buffer."
pub data OldAnswer (d : Device) (rom : ℕ → ℕ) (start : ℕ) (p p' : List ℕ) : OldFound → Type 0 where
  gives_21 : {a : ℕ} → LowestAddress address_of (Bad (flow_graph d rom) (start_of start)) a → p' ≡ p → OldAnswer d rom start p p' (old_21 a)
  gives_22 : {a : ℕ} → ((v : ℕ) → Bad (flow_graph d rom) (start_of start) v → ⊥) → LowestAddress address_of (Loops (flow_graph d rom) (start_of start)) a → p' ≡ p → OldAnswer d rom start p p' (old_22 a)
  gives_23 : {N : ℕ} {path : List ℕ} → HasBound d rom start N path → length p < 2 * length path → p' ≡ p → OldAnswer d rom start p p' (old_23 (2 * length path))
  gives_n : {N : ℕ} {path : List ℕ} → HasBound d rom start N path → 2 * length path ≤ length p → p' ≡ bytes_of address_of path ++ drop (2 * length path) p → OldAnswer d rom start p p' (old_n N)

-- "depth 0 with its path": the depth is 0 on each path, and "among equal sums take the next instruction before the target" takes it at every branch
abbrev pub DepthPath : Device → (ℕ → ℕ) → ℕ → List ℕ → Type 0
DepthPath d rom start deep = Path (next_only (flow_graph d rom)) (start_of start) deep

-- "the old answer stands, joined only by depth 0 with its path and that path's buffer under 23": neither 24 nor 25 is among them. The buffer of depth's path, q, became q'
pub data Joined (d : Device) (rom : ℕ → ℕ) (start : ℕ) (p p' q q' : List ℕ) : Found → Type 0 where
  same_21 : {a : ℕ} → OldAnswer d rom start p p' (old_21 a) → q' ≡ q → Joined d rom start p p' q q' (excluded a)
  same_22 : {a : ℕ} → OldAnswer d rom start p p' (old_22 a) → q' ≡ q → Joined d rom start p p' q q' (repetition a)
  same_23 : {n : ℕ} → OldAnswer d rom start p p' (old_23 n) → q' ≡ q → Joined d rom start p p' q q' (short n)
  depth_23 : {N : ℕ} {written deep : List ℕ} → OldAnswer d rom start p written (old_n N) → DepthPath d rom start deep → length q < 2 * length deep → Kept p p' q q' → Joined d rom start p p' q q' (short (2 * length deep))
  same_n : {N : ℕ} {deep : List ℕ} → OldAnswer d rom start p p' (old_n N) → DepthPath d rom start deep → 2 * length deep ≤ length q → q' ≡ bytes_of address_of deep ++ drop (2 * length deep) q → Joined d rom start p p' q q' (bounds N 0)

-- what is answered is exactly that
pub record Stands (d : Device) (rom : ℕ → ℕ) (start : ℕ) (p p' q q' : List ℕ) (x : Found) : Type 0 where
  pub only_if : Answer (call_flow d rom start) (call_cycles d rom) address_of p p' q q' x → Joined d rom start p p' q q' x
  pub if_so : Joined d rom start p p' q q' x → Answer (call_flow d rom start) (call_cycles d rom) address_of p p' q q' x

abbrev pub OldAnswerStands : Type 0
OldAnswerStands = (d : Device) (rom : ℕ → ℕ) (start : ℕ) → ((at : ℕ) → rom at < 256) → start < 8192 → Plain d rom start → (p p' q q' : List ℕ) (x : Found) → Stands d rom start p p' q q' x

-- The places that a handler's routines may reach, numbered as they are found. A call may be followed by both places after it and by its routine's first.
use Rattle.std.specs.Prelude.{◌≡◌, List, ℕ, ◌+◌, ◌*◌, ◌≤◌, ◌<◌, get_or}
use Rattle.device.specs.declared.Device.{Device}
use Rattle.routines.specs.Exploring.{Told, Grows, NodeOf, Explored}
use Rattle.routines_numbered.specs.Packed.{name_in, map_in, nodes_in}
use Rattle.routines_numbered.specs.Numbering.{LinksLt}
use Rattle.routines_numbered.specs.declared.Links.{Links}
use Rattle.bound_flow.specs.Flow.{address_of}
use Rattle.bound_calls.specs.CallFlow.{call_flow, call_cycles}
use Rattle.bound_calls.specs.declared.CallNode.{CallNode}

-- w may follow the node
pub data After (x : CallNode) (w : ℕ) : Type 0 where
  goes_next : x.kind ≡ 1 → w ≡ x.next → After x w
  goes_other : x.kind ≡ 1 → w ≡ x.other → After x w
  call_unknown : x.kind ≡ 3 → w ≡ x.next → After x w
  call_known : x.kind ≡ 3 → w ≡ x.other → After x w
  call_into : x.kind ≡ 3 → w ≡ 2 * x.entry → After x w

-- what follows a node are places of the image, and it fits a word
pub record Good (x : CallNode) : Type 0 where
  pub next_lt : x.next < 16384
  pub other_lt : x.other < 16384
  pub entry_lt : x.entry < 2048
  pub kind_lt : x.kind < 8
  pub cost_lt : x.cost < 4

-- the numbers of what may follow the node: a place's is one less than the map has
pub data Linked (map : ℕ → ℕ) (x : CallNode) (l : Links) : Type 0 where
  none : (x.kind ≡ 3 → ⊥) → (x.kind ≡ 1 → ⊥) → l.next ≡ 0 → l.other ≡ 0 → l.into ≡ 0 → Linked map x l
  on : x.kind ≡ 1 → l.next + 1 ≡ map x.next → l.other + 1 ≡ map x.other → l.into ≡ 0 → Linked map x l
  call : x.kind ≡ 3 → l.next + 1 ≡ map x.next → l.other + 1 ≡ map x.other → l.into + 1 ≡ map (2 * x.entry) → Linked map x l

-- the words x and the map m, which tell n places, became x' and m', which tell n': the place that has the number done is read
pub record Reads (d : Device) (rom : ℕ → ℕ) (x m : List ℕ) (n done : ℕ) (x' m' : List ℕ) (n' : ℕ) : Type 0 where
  pub told : Told (name_in x') (map_in m') n'
  pub grows : Grows (name_in x) n (name_in x') n'
  pub same : (v : ℕ) → v < done → get_or x' v 0 ≡ get_or x v 0
  pub rest : (v : ℕ) → n' ≤ v → get_or x' v 0 ≡ get_or x v 0
  pub node : (start : ℕ) → NodeOf (call_flow d rom start) (call_cycles d rom) address_of (name_in x') n' (name_in x done) (nodes_in x' done)
  pub links : LinksLt x' n' done

-- all that may be reached from the start has a number, and its word is laid by it; past the numbers the words are 0
pub record ImageNumbered (d : Device) (rom : ℕ → ℕ) (start : ℕ) (x m : List ℕ) (n : ℕ) : Type 0 where
  pub explored : Explored (call_flow d rom start) (call_cycles d rom) address_of (name_in x) (map_in m) n n 0 (nodes_in x)
  pub links : (v : ℕ) → v < n → LinksLt x n v
  pub rest : (v : ℕ) → n ≤ v → get_or x v 0 ≡ 0

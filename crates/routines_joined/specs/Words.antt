-- The flow that words by number are, with the map by place: its routines joined in one graph, and the order in which its nodes are named.
use Rattle.std.specs.Prelude.{◌≡◌, ℕ, ◌+◌, ◌-◌, ◌*◌, ◌/◌, ◌%◌, ◌<◌, ◌≤◌, ◌⊎◌, List, length, ◌==◌, nat_lt, slice_index, Option, Some}
use Rattle.laws.specs.Choice.{pick, either}
use Rattle.graph.specs.Graph.{Graph}
use Rattle.graph_search.specs.Marks.{OnQ}
use Rattle.routines.specs.Calling.{Flow, unknown}
use Rattle.routines.specs.Joined.{joined}
use Rattle.routines_numbered.specs.Packed.{name_in, nodes_in, map_in}
use Rattle.routines_numbered.specs.Numbering.{LinksLt}

-- the entry of a call is the address of its routine's first place; only a call has one
unfoldable pub flow_at : List ℕ → List ℕ → Flow
flow_at x m = record {
  kind = λ v. (nodes_in x v).kind;
  next = λ v. (nodes_in x v).next;
  other = λ v. (nodes_in x v).other;
  entry = λ v. pick ((nodes_in x v).kind == 3) (nodes_in x (nodes_in x v).into).address 0;
  known = λ v. (nodes_in x v).known;
  start = 0;
  from = λ e. map_in m (2 * e) - 1;
}

-- the words of n numbers, at least the start's
pub record Laid (x m : List ℕ) (n : ℕ) : Type 0 where
  pub words : length x ≡ 16384
  pub map : length m ≡ 16384
  pub few : n ≤ 16384
  pub some : 0 < n
  pub once : (u v : ℕ) → u < n → v < n → name_in x u ≡ name_in x v → u ≡ v
  pub links : (v : ℕ) → v < n → LinksLt x n v
  pub entry_lt : (v : ℕ) → v < n → (nodes_in x v).kind ≡ 3 → (nodes_in x (nodes_in x v).into).address < 2048
  pub map_le : (w : ℕ) → map_in m w ≤ n

-- "judged with SF unknown after every call": where SF is known after a call, the word says so, with that place as its next
unfoldable pub joined_at : List ℕ → List ℕ → Graph
joined_at x m = joined (flow_at x m) unknown 2048

-- a place's kind in its routine, the outer one where side is 1, a called one where it is 0
abbrev pub kind_at : ℕ → ℕ → ℕ
kind_at kind side = pick (either (kind == 1) (kind == 3)) 1 (pick (kind == pick (side == 1) 2 4) 2 0)

-- k, nx and o are what a graph has at x
pub record NodeIs (g : Graph) (x k nx o : ℕ) : Type 0 where
  pub kind : k ≡ g.kind x
  pub next : nx ≡ g.next x
  pub other : o ≡ g.other x

-- arrays to work in, an element for each node
pub record Works (marks queue rank number back stage : List ℕ) : Type 0 where
  pub queues : length queue ≡ length marks
  pub ranks : length rank ≡ length marks
  pub numbers : length number ≡ length marks
  pub backs : length back ≡ length marks
  pub stages : length stage ≡ length marks

-- an entry's key is its number; of a place by address, unknown before known, in a called routine before the outer one
unfoldable pub key_at : List ℕ → ℕ → ℕ
key_at x y = pick (nat_lt y 2048) y (2048 + (2 * name_in x ((y - 2048) / 2) + (y - 2048) % 2))

-- r is the key of y where y has P and that is lower than low, or there is no low; else low
pub record LowerKey (x : List ℕ) (P : ℕ → Type 0) (low : Option ℕ) (y : ℕ) (r : Option ℕ) : Type 0 where
  pub keeps : (l : ℕ) → low ≡ Some l → (k : ℕ) × (r ≡ Some k) × (k ≤ l)
  pub least : P y → (k : ℕ) × (r ≡ Some k) × (k ≤ key_at x y)
  pub found : (k : ℕ) → r ≡ Some k → (low ≡ Some k) ⊎ ((key_at x y ≡ k) × P y)

-- r is the lowest key of the queue's nodes with P, if one has it
pub record LowestKey (x : List ℕ) (P : ℕ → Type 0) (q : List ℕ) (count : ℕ) (r : Option ℕ) : Type 0 where
  pub found : (k : ℕ) → r ≡ Some k → (y : ℕ) × OnQ q count y × (key_at x y ≡ k) × P y
  pub least : (i : ℕ) → i < count → P (slice_index q i) → (k : ℕ) × (r ≡ Some k) × (k ≤ key_at x (slice_index q i))

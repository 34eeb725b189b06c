-- A graph laid in arrays, a place an index; and what a place costs.
use Rattle.std.specs.Prelude.{◌≡◌, List, ℕ, ◌≤◌, ◌<◌, length, get_or}
use Rattle.graph.specs.Graph.{Graph, Edge}

unfoldable pub graph_of : List ℕ → List ℕ → List ℕ → Graph
graph_of k nx o = record { kind = λ v. get_or k v 0; next = λ v. get_or nx v 0; other = λ v. get_or o v 0 }

unfoldable pub cost_of : List ℕ → ℕ → ℕ
cost_of c v = get_or c v 0

-- how many places an image has: an address, with SF known or not
abbrev pub places : ℕ
places = 16384

-- how many a graph has at most, each an index of an array: routines that are joined in one have their entries, and each place of an image twice
abbrev pub most_nodes : ℕ
most_nodes = 34816

-- the arrays are a graph of n places
pub record Laid (k nx o : List ℕ) (n : ℕ) : Type 0 where
  pub kinds : length k ≡ n
  pub nexts : length nx ≡ n
  pub others : length o ≡ n
  pub small : n ≤ most_nodes
  pub next_lt : (v : ℕ) → v < n → get_or nx v 0 < n
  pub other_lt : (v : ℕ) → v < n → get_or o v 0 < n

-- each place that goes on or ends costs something; none costs more than 65,536, so that a sum fits 32 bits
pub record Costs (k c : List ℕ) (n : ℕ) : Type 0 where
  pub costs : length c ≡ n
  pub on_pos : (v : ℕ) → v < n → get_or k v 0 ≡ 1 → 0 < get_or c v 0
  pub end_pos : (v : ℕ) → v < n → get_or k v 0 ≡ 2 → 0 < get_or c v 0
  pub le : (v : ℕ) → v < n → get_or c v 0 ≤ 65536

-- from the places below n the edges lead to places below n
pub record Inside (g : Graph) (n : ℕ) : Type 0 where
  pub edge : (v w : ℕ) → v < n → Edge g v w → w < n

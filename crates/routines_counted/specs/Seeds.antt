-- Words with the places at an address as ends, calls stepped over.
use Rattle.std.specs.Prelude.{◌≡◌, ◌⊎◌, false, List, ℕ, ◌<◌, get_or}
use Rattle.graph.specs.Graph.{Reach}
use Rattle.graph_search.specs.Marks.{Marked}
use Rattle.routines_numbered.specs.Packed.{node_in, nodes_in}
use Rattle.routines_counted.specs.Overs.{steps_in}

pub record SeededIs (word at r : ℕ) : Type 0 where
  pub there : (node_in word).address ≡ at → ((node_in r).kind ≡ 4) × ((node_in r).known ≡ false)
  pub on : ((node_in word).address ≡ at → ⊥) → (node_in word).kind ≡ 1 → ((node_in r).kind ≡ 1) × ((node_in r).next ≡ (node_in word).next) × ((node_in r).other ≡ (node_in word).other)
  pub call : ((node_in word).address ≡ at → ⊥) → (node_in word).kind ≡ 3 → ((node_in r).kind ≡ 1) × ((node_in r).next ≡ (node_in word).next) × ((node_in r).other ≡ (node_in word).next)
  pub end : ((node_in word).address ≡ at → ⊥) → ((node_in word).kind ≡ 1 → ⊥) → ((node_in word).kind ≡ 3 → ⊥) → (node_in r).kind ≡ 0
  -- it leads nowhere else
  pub next : ((node_in r).next ≡ (node_in word).next) ⊎ ((node_in r).next ≡ 0)
  pub other : (((node_in r).other ≡ (node_in word).other) ⊎ ((node_in r).other ≡ (node_in word).next)) ⊎ ((node_in r).other ≡ 0)
  pub into : (node_in r).into ≡ 0

pub record SeededTo (x : List ℕ) (at t : ℕ) (y : List ℕ) : Type 0 where
  pub is : (v : ℕ) → v < t → SeededIs (get_or x v 0) at (get_or y v 0)

-- of n places m marks exactly those from which one at the address is reached
pub record AheadIs (x : List ℕ) (at n : ℕ) (m : List ℕ) : Type 0 where
  pub sound : (v : ℕ) → v < n → Marked m v → (q : ℕ) × ((nodes_in x q).address ≡ at) × Reach (steps_in x) v q
  pub complete : (v q : ℕ) → v < n → (nodes_in x q).address ≡ at → Reach (steps_in x) v q → Marked m v

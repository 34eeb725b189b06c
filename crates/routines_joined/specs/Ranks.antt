-- Ranks that rule out that a node is reached from itself.
use Rattle.std.specs.Prelude.{◌≡◌, ℕ, ◌<◌, ◌≤◌, Bool, true, false, List, slice_index}
use Rattle.graph.specs.Graph.{Graph, Edge}
use Rattle.graph_search.specs.Marks.{Marked}

-- r tells whether P
pub record Tells (P : Type 0) (r : Bool) : Type 0 where
  pub so : r ≡ true → P
  pub not_so : r ≡ false → P → ⊥

-- no node that follows v has a rank over r
pub record After (g : Graph) (rank : List ℕ) (v r : ℕ) : Type 0 where
  pub le : (w : ℕ) → Edge g v w → slice_index rank w ≤ r

-- from the first t nodes of the queue no edge leads to a higher rank
pub record NeverRises (g : Graph) (rank q : List ℕ) (t : ℕ) : Type 0 where
  pub at : (i : ℕ) → i < t → After g rank (slice_index q i) (slice_index rank (slice_index q i))

-- what follows a marked node is marked, and has no higher rank
pub record Steady (g : Graph) (rank m : List ℕ) : Type 0 where
  pub closed : (v w : ℕ) → Marked m v → Edge g v w → Marked m w
  pub after : (v : ℕ) → Marked m v → After g rank v (slice_index rank v)

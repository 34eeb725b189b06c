-- Ranks rule out that nodes come back to themselves; those that are left are tried by their keys.
use Rattle.std.specs.Prelude.{◌≡◌, ℕ, ◌<◌, ◌≤◌, ◌⊎◌, List, slice_index, Option, Some}
use Rattle.graph.specs.Graph.{Graph}
use Rattle.graph_search.specs.Marks.{Marked, OnQ}
use Rattle.routines_joined.specs.Ranks.{Steady}
use Rattle.routines_joined.specs.Words.{key_at}

-- among marked nodes, y of them, no rank rises
pub record Ruled (g : Graph) (rank : List ℕ) (y : ℕ) : Type 0 where
  pub m : List ℕ
  pub steady : Steady g rank m
  pub marked : Marked m y

abbrev pub RuledAll : Graph → List ℕ → List ℕ → ℕ → Type 0
RuledAll g rank q count = (i : ℕ) → i < count → Ruled g rank (slice_index q i)

-- r is y, whose key is from floor on, or the best so far; it has no higher key than that one, and none than y, if y has P
pub record Better (x : List ℕ) (P : ℕ → Type 0) (floor : ℕ) (best : Option ℕ) (y : ℕ) (r : Option ℕ) : Type 0 where
  pub either : (z : ℕ) → r ≡ Some z → (best ≡ Some z) ⊎ ((z ≡ y) × (floor ≤ key_at x y))
  pub keeps : (b : ℕ) → best ≡ Some b → (z : ℕ) × (r ≡ Some z) × (key_at x z ≤ key_at x b)
  pub least : floor ≤ key_at x y → P y → (z : ℕ) × (r ≡ Some z) × (key_at x z ≤ key_at x y)

-- r has the lowest key, from floor on, of the queue's nodes that may have P; where there is none, none has it
pub record Suspect (x : List ℕ) (P : ℕ → Type 0) (q : List ℕ) (count floor : ℕ) (r : Option ℕ) : Type 0 where
  pub found : (z : ℕ) → r ≡ Some z → OnQ q count z × (floor ≤ key_at x z)
  pub least : (i : ℕ) → i < count → floor ≤ key_at x (slice_index q i) → P (slice_index q i) → (z : ℕ) × (r ≡ Some z) × (key_at x z ≤ key_at x (slice_index q i))

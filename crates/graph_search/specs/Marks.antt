-- Places that are marked in m and stand in the first places of a queue q, and how both grow.
use Rattle.std.specs.Prelude.{◌≡◌, ◌⊎◌, List, [], ◌∷◌, ℕ, zero, suc, ◌+◌, ◌≤◌, ◌<◌, length, get_or}
use Rattle.graph.specs.Laid.{most_nodes}

-- how many elements are 0
unfoldable pub zeros : List ℕ → ℕ
zeros [] = 0
zeros (zero ∷ l) = suc (zeros l)
zeros (suc x ∷ l) = zeros l

abbrev pub Marked : List ℕ → ℕ → Type 0
Marked m v = 0 < get_or m v 0

-- v stands in q before count
abbrev pub OnQ : List ℕ → ℕ → ℕ → Type 0
OnQ q count v = (i : ℕ) × (i < count) × (get_or q i 0 ≡ v)

-- every element is 0
pub record Blank (m : List ℕ) : Type 0 where
  pub at : (i : ℕ) → get_or m i 0 ≡ 0

-- every element is below n
pub record Within (l : List ℕ) (n : ℕ) : Type 0 where
  pub at : (i : ℕ) → get_or l i 0 < n

-- n places at most, and room in the queue for each that is not marked
pub record Room (m q : List ℕ) (count : ℕ) : Type 0 where
  pub len : length q ≡ length m
  pub small : length m ≤ most_nodes
  pub room : count + zeros m ≡ length m

-- m, q and count became m', q' and count': nothing was lost, and what is new has P and stands in the queue
pub record Grown (P : ℕ → Type 0) (m q : List ℕ) (count : ℕ) (m' q' : List ℕ) (count' : ℕ) : Type 0 where
  pub total : count' + zeros m' ≡ count + zeros m
  pub more : count ≤ count'
  pub keeps : (v : ℕ) → Marked m v → Marked m' v
  pub same : (i : ℕ) → i < count → get_or q' i 0 ≡ get_or q i 0
  pub new : (v : ℕ) → Marked m' v → Marked m v ⊎ OnQ q' count' v
  pub has : (i : ℕ) → count ≤ i → i < count' → P (get_or q' i 0)

-- the queue holds places below n, so many at most
pub record Places (q : List ℕ) (n : ℕ) : Type 0 where
  pub small : n ≤ most_nodes
  pub le : length q ≤ n
  pub below : (i : ℕ) → i < length q → get_or q i 0 < n

-- the queue holds just what is marked
pub record Listed (m q : List ℕ) (count : ℕ) : Type 0 where
  pub listed : (v : ℕ) → Marked m v → OnQ q count v
  pub marked : (i : ℕ) → i < count → Marked m (get_or q i 0)
  pub le : count ≤ length m

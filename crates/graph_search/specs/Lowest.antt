-- The lowest place of a queue that has a property.
use Rattle.std.specs.Prelude.{◌≡◌, List, ℕ, ◌≤◌, ◌<◌, ◌⊎◌, get_or, Option, Some}
use Rattle.graph_search.specs.Marks.{OnQ}

-- by its kind the place neither goes on nor ends
abbrev pub Outside : List ℕ → ℕ → Type 0
Outside k v = (get_or k v 0 ≡ 1 → ⊥) × (get_or k v 0 ≡ 2 → ⊥)

-- r is v where v has P and is lower than low, or there is no low; else low
pub record Lower (P : ℕ → Type 0) (low : Option ℕ) (v : ℕ) (r : Option ℕ) : Type 0 where
  pub keeps : (l : ℕ) → low ≡ Some l → (x : ℕ) × (r ≡ Some x) × (x ≤ l)
  pub least : P v → (x : ℕ) × (r ≡ Some x) × (x ≤ v)
  pub found : (x : ℕ) → r ≡ Some x → (low ≡ Some x) ⊎ ((x ≡ v) × P v)

-- r is the lowest with P of the queue's first count, if one has it
pub record Lowest (P : ℕ → Type 0) (q : List ℕ) (count : ℕ) (r : Option ℕ) : Type 0 where
  pub least : (i : ℕ) → i < count → P (get_or q i 0) → (x : ℕ) × (r ≡ Some x) × (x ≤ get_or q i 0)
  pub found : (x : ℕ) → r ≡ Some x → OnQ q count x × P x

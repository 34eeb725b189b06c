-- How many nodes the places that are marked have, and where those of each begin.
use Rattle.std.specs.Prelude.{◌≡◌, List, ℕ, zero, suc, ◌+◌, ◌≤◌, ◌<◌, ltb, length, get_or}
use Rattle.laws.specs.Choice.{pick}
use Rattle.counts.specs.Counts.{Count}
use Rattle.counts.specs.Radix.{size}

-- how many nodes the places before v have, of those that are marked
unfoldable pub nodes_before : List Count → List ℕ → List ℕ → ℕ → ℕ
nodes_before C ms marks zero = 0
nodes_before C ms marks (suc v) = nodes_before C ms marks v + pick (ltb 0 (get_or marks v 0)) (size C (get_or ms v 0)) 0

-- the first t places have their bases, those that are marked: as many nodes are before them
pub record BasesTo (C : List Count) (ms marks : List ℕ) (t : ℕ) (bs : List ℕ) : Type 0 where
  pub at : (v : ℕ) → v < t → 0 < get_or marks v 0 → get_or bs v 0 ≡ nodes_before C ms marks v
  pub none : (v : ℕ) → v < t → get_or marks v 0 ≡ 0 → get_or bs v 0 ≡ 0

-- r is how many there are in all, with the bases; or both are over 32,768
pub record Based (C : List Count) (ms marks bs : List ℕ) (r : ℕ) : Type 0 where
  pub all : r ≤ 32768 → (r ≡ nodes_before C ms marks (length marks)) × BasesTo C ms marks (length marks) bs
  pub over : 32768 < r → 32768 < nodes_before C ms marks (length marks)

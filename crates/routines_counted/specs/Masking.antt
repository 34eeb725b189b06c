-- Masks of the counts that weigh, which get one bit more for each count.
use Rattle.std.specs.Prelude.{◌≡◌, List, ℕ, ◌+◌, ◌*◌, ◌≤◌, ◌<◌, get_or}
use Rattle.graph.specs.Graph.{Graph, Edge, Reach, ReachPlus}
use Rattle.graph_search.specs.Marks.{Marked}
use Rattle.routines_numbered.specs.Packed.{nodes_in}
use Rattle.routines_counted.specs.Overs.{steps_in, Starts}

-- a step from v leads to what m marks
abbrev pub LeadsTo : Graph → List ℕ → ℕ → Type 0
LeadsTo g m v = (w : ℕ) × Edge g v w × Marked m w

-- and v is marked in behind
abbrev pub WeighsBy : Graph → List ℕ → List ℕ → ℕ → Type 0
WeighsBy g behind ahead v = Marked behind v × LeadsTo g ahead v

-- there is room for a bit
pub record Halves (ms : List ℕ) : Type 0 where
  pub at : (v : ℕ) → get_or ms v 0 < 32768

-- b is a with one bit more before the others, which tells whether P
pub data BitIs (P : Type 0) (a b : ℕ) : Type 0 where
  set : P → b ≡ 2 * a + 1 → BitIs P a b
  clear : (P → ⊥) → b ≡ 2 * a → BitIs P a b

-- the first t masks have it; the others are as they were
pub record BitsTo (W : ℕ → Type 0) (a : List ℕ) (t : ℕ) (b : List ℕ) : Type 0 where
  pub at : (v : ℕ) → v < t → BitIs (W v) (get_or a v 0) (get_or b v 0)
  pub rest : (v : ℕ) → t ≤ v → get_or b v 0 ≡ get_or a v 0

-- the count at an address weighs at v: v is reached from a place there that is marked in r, and from v one there in one step or more
abbrev pub WeighsIn : List ℕ → List ℕ → ℕ → ℕ → Type 0
WeighsIn x r at v = ((s : ℕ) × Starts x r at s × Reach (steps_in x) s v) × ((q : ℕ) × ((nodes_in x q).address ≡ at) × ReachPlus (steps_in x) v q)

-- Words by number as the graph on which sums and depths are settled: after 21 a number is reached in the outer routine or in called ones, not in both, so that one sum a number is enough.
use Rattle.std.specs.Prelude.{◌≡◌, Bool, true, false, List, ℕ, ◌≤◌, ◌<◌, eqb, length}
use Rattle.laws.specs.Choice.{pick}
use Rattle.graph.specs.Graph.{Graph}
use Rattle.graph_search.specs.Marks.{zeros}
use Rattle.routines_numbered.specs.Packed.{nodes_in}
use Rattle.routines_numbered.specs.Numbering.{LinksLt}
use Rattle.routines_sums.specs.Dist.{Dist, Idle}

-- RTI and RET end; a call leads to where its routine starts and to where it goes on
unfoldable pub ways_in : List ℕ → Graph
ways_in x = record {
  kind = λ v. pick (eqb (nodes_in x v).kind 4) 2 (nodes_in x v).kind;
  next = λ v. pick (eqb (nodes_in x v).kind 3) (nodes_in x v).into (nodes_in x v).next;
  other = λ v. pick (eqb (nodes_in x v).kind 3) (nodes_in x v).next (nodes_in x v).other;
}

unfoldable pub costs_in : List ℕ → ℕ → ℕ
costs_in x v = (nodes_in x v).cost

-- n words, linked among themselves; what is not excluded costs something
pub record Priced (x : List ℕ) (n : ℕ) : Type 0 where
  pub words : length x ≡ 16384
  pub few : n ≤ 16384
  pub links : (v : ℕ) → v < n → LinksLt x n v
  pub pos : (v : ℕ) → v < n → 1 ≤ (nodes_in x v).kind → (nodes_in x v).kind ≤ 4 → 0 < (nodes_in x v).cost

-- the first t numbers have their sum, or can have none yet, or none that fits
pub record IdleTo (g : Graph) (c : ℕ → ℕ) (d : List ℕ) (t : ℕ) : Type 0 where
  pub at : (v : ℕ) → v < t → Idle g c d v

-- they were settled, and r tells whether some changed d
pub record Swept (g : Graph) (c : ℕ → ℕ) (d : List ℕ) (t : ℕ) (d' dep' : List ℕ) (r : Bool) : Type 0 where
  pub dist : Dist g c d' dep'
  pub changed : r ≡ true → zeros d' < zeros d
  pub idle : r ≡ false → (d' ≡ d) × IdleTo g c d t

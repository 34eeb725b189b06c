-- Places are numbered: the words x and the map m, which tell n places, become x' and m', which tell n'.
use Rattle.std.specs.Prelude.{◌≡◌, List, ℕ, ◌≤◌, ◌<◌, get_or}
use Rattle.routines.specs.Exploring.{Told, Grows}
use Rattle.routines_numbered.specs.Packed.{name_in, nodes_in, map_in}

-- each place with W has a number then; the words of the numbers before stay, and so do those past the last
pub record Numbers (W : ℕ → Type 0) (x m : List ℕ) (n : ℕ) (x' m' : List ℕ) (n' : ℕ) : Type 0 where
  pub told : Told (name_in x') (map_in m') n'
  pub grows : Grows (name_in x) n (name_in x') n'
  pub has : (w : ℕ) → W w → 0 < map_in m' w
  pub same : (v : ℕ) → v < n → get_or x' v 0 ≡ get_or x v 0
  pub rest : (v : ℕ) → n' ≤ v → get_or x' v 0 ≡ get_or x v 0

-- what the word of v links to has a number below n
pub record LinksLt (x : List ℕ) (n v : ℕ) : Type 0 where
  pub next : (nodes_in x v).next < n
  pub other : (nodes_in x v).other < n
  pub into : (nodes_in x v).into < n

-- A place and its node in one number of 64 bits, from the lowest: the place 14, next 15, other 15, into 15, the kind 3, the cycles 2. A place is twice its address, and one more where SF is known set.
use Rattle.std.specs.Prelude.{List, ℕ, ◌+◌, ◌*◌, ◌/◌, ◌%◌, ◌<◌, eqb, get_or}
use Rattle.routines.specs.Exploring.{Node}

abbrev pub place_in : ℕ → ℕ
place_in x = x % 16384

abbrev pub next_in : ℕ → ℕ
next_in x = x / 16384 % 32768

abbrev pub other_in : ℕ → ℕ
other_in x = x / 536870912 % 32768

abbrev pub into_in : ℕ → ℕ
into_in x = x / 17592186044416 % 32768

abbrev pub kind_in : ℕ → ℕ
kind_in x = x / 576460752303423488 % 8

abbrev pub cost_in : ℕ → ℕ
cost_in x = x / 4611686018427387904 % 4

unfoldable pub node_in : ℕ → Node
node_in x = record { kind = kind_in x; next = next_in x; other = other_in x; into = into_in x; known = eqb (place_in x % 2) 1; cost = cost_in x; address = place_in x / 2 }

abbrev pub packed : ℕ → ℕ → ℕ → ℕ → ℕ → ℕ → ℕ
packed place next other into kind cost = place + 16384 * next + 536870912 * other + 17592186044416 * into + 576460752303423488 * kind + 4611686018427387904 * cost

-- what fits
pub record Fits (place next other into kind cost : ℕ) : Type 0 where
  pub place_lt : place < 16384
  pub next_lt : next < 32768
  pub other_lt : other < 32768
  pub into_lt : into < 32768
  pub kind_lt : kind < 8
  pub cost_lt : cost < 4

-- by number: the place, and its node; by place: 0, or one more than its number
unfoldable pub name_in : List ℕ → ℕ → ℕ
name_in x v = place_in (get_or x v 0)

unfoldable pub nodes_in : List ℕ → ℕ → Node
nodes_in x v = node_in (get_or x v 0)

unfoldable pub map_in : List ℕ → ℕ → ℕ
map_in m w = get_or m w 0

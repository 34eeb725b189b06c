-- A search of a graph from s: what holds while it goes on, and what it comes to.
use Rattle.std.specs.Prelude.{◌≡◌, List, ℕ, ◌≤◌, ◌<◌, get_or, Option, None, Some}
use Rattle.graph.specs.Graph.{Graph, GoesOn, Edge, Reach}
use Rattle.graph_search.specs.Marks.{Marked, OnQ}

-- of v, which goes on: its successors are a and b, places below n
pub record GoesTo (g : Graph) (n v a b : ℕ) : Type 0 where
  pub on : GoesOn g v
  pub next : a ≡ g.next v
  pub next_lt : a < n
  pub other : b ≡ g.other v
  pub other_lt : b < n

-- what is told of v: its successors, or that it does not go on
abbrev pub Follows : Graph → ℕ → ℕ → Option (ℕ × ℕ) → Type 0
Follows g n v None = GoesOn g v → ⊥
Follows g n v (Some s) = GoesTo g n v s.0 s.1

-- the successors of v are marked
pub record Visited (g : Graph) (v : ℕ) (m : List ℕ) : Type 0 where
  pub all : (w : ℕ) → Edge g v w → Marked m w

-- the queue holds just what is marked, all of it reached, and what stands before its head has its successors marked
pub record Search (g : Graph) (s : ℕ) (m q : List ℕ) (count head : ℕ) : Type 0 where
  pub started : Marked m s
  pub onq : (v : ℕ) → Marked m v → OnQ q count v
  pub marked : (i : ℕ) → i < count → Marked m (get_or q i 0)
  pub sound : (i : ℕ) → i < count → Reach g s (get_or q i 0)
  pub closed : (i w : ℕ) → i < head → Edge g (get_or q i 0) w → Marked m w
  pub le : head ≤ count

-- m marks exactly what is reached from s
pub record Reached (g : Graph) (s : ℕ) (m : List ℕ) : Type 0 where
  pub sound : (v : ℕ) → Marked m v → Reach g s v
  pub complete : (v : ℕ) → Reach g s v → Marked m v

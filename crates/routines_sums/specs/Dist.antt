-- Sums d, one a node: the greatest sum to the end of its routine, or 0 where it has none yet or that is over 65,535. Depths dep, where d is not 0: how many calls are open at most from there to the end.
use Rattle.std.specs.Prelude.{◌≡◌, ◌⊎◌, Bool, true, false, List, ℕ, suc, ◌+◌, ◌≤◌, ◌<◌, max, length, get_or}
use Rattle.graph.specs.Graph.{Graph}
use Rattle.graph_search.specs.Marks.{zeros}

-- of a call both sums with its cost, of a fork the greater
pub record Spent (kind cost a b r : ℕ) : Type 0 where
  pub calls : kind ≡ 3 → r ≡ cost + (a + b)
  pub forks : (kind ≡ 3 → ⊥) → r ≡ cost + max a b

-- of a call its own level and those of its routine, or those after it; of a fork the greater
pub record Levels (kind a b r : ℕ) : Type 0 where
  pub calls : kind ≡ 3 → r ≡ max (suc a) b
  pub forks : (kind ≡ 3 → ⊥) → r ≡ max a b

pub record Stays (kind : ℕ) (r : Bool) : Type 0 where
  pub neither : r ≡ true → (kind ≡ 1 → ⊥) × (kind ≡ 3 → ⊥)
  pub one : r ≡ false → (kind ≡ 1) ⊎ (kind ≡ 3)

-- x is the sum at v and y the depth, that d and dep give for what comes after v
pub data Value (g : Graph) (c : ℕ → ℕ) (d dep : List ℕ) (v x y : ℕ) : Type 0 where
  ends : g.kind v ≡ 2 → x ≡ c v → y ≡ 0 → Value g c d dep v x y
  forks : g.kind v ≡ 1 → 0 < get_or d (g.next v) 0 → 0 < get_or d (g.other v) 0 → x ≡ c v + max (get_or d (g.next v) 0) (get_or d (g.other v) 0)
      → y ≡ max (get_or dep (g.next v) 0) (get_or dep (g.other v) 0) → Value g c d dep v x y
  calls : g.kind v ≡ 3 → 0 < get_or d (g.next v) 0 → 0 < get_or d (g.other v) 0 → x ≡ c v + (get_or d (g.next v) 0 + get_or d (g.other v) 0)
      → y ≡ max (suc (get_or dep (g.next v) 0)) (get_or dep (g.other v) 0) → Value g c d dep v x y

-- each sum and depth is right for those after it; a depth fits, since each node that has one adds at most 1
pub record Dist (g : Graph) (c : ℕ → ℕ) (d dep : List ℕ) : Type 0 where
  pub fits : (v : ℕ) → get_or d v 0 < 65536
  pub deep : (v : ℕ) → get_or dep v 0 + zeros d ≤ length d
  pub value : (v : ℕ) → 0 < get_or d v 0 → Value g c d dep v (get_or d v 0) (get_or dep v 0)

-- v has its sum, or can have none yet, or none that fits
pub data Idle (g : Graph) (c : ℕ → ℕ) (d : List ℕ) (v : ℕ) : Type 0 where
  has : 0 < get_or d v 0 → Idle g c d v
  out : (g.kind v ≡ 1 → ⊥) → (g.kind v ≡ 2 → ⊥) → (g.kind v ≡ 3 → ⊥) → Idle g c d v
  next_waits : (g.kind v ≡ 2 → ⊥) → get_or d (g.next v) 0 ≡ 0 → Idle g c d v
  other_waits : (g.kind v ≡ 2 → ⊥) → get_or d (g.other v) 0 ≡ 0 → Idle g c d v
  fork_over : g.kind v ≡ 1 → 65535 < c v + max (get_or d (g.next v) 0) (get_or d (g.other v) 0) → Idle g c d v
  call_over : g.kind v ≡ 3 → 65535 < c v + (get_or d (g.next v) 0 + get_or d (g.other v) 0) → Idle g c d v

-- v was settled: r tells whether that changed d
pub record Settled (g : Graph) (c : ℕ → ℕ) (d : List ℕ) (v : ℕ) (d' dep' : List ℕ) (r : Bool) : Type 0 where
  pub dist : Dist g c d' dep'
  pub changed : r ≡ true → zeros d' + 1 ≡ zeros d
  pub idle : r ≡ false → (d' ≡ d) × Idle g c d' v

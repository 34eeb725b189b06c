-- A flow whose places are numbered in the order found: g, on the numbers below n, is f, on places, under the names of the numbers. Entries are not numbered anew.
use Rattle.std.specs.Prelude.{◌≡◌, ℕ, ◌<◌}
use Rattle.routines.specs.Calling.{Flow}

-- v is the number of the place w
pub record Names (name : ℕ → ℕ) (n v w : ℕ) : Type 0 where
  pub found : v < n
  pub is : name v ≡ w

-- what follows is asked only of a place that is left, and the entry and its first place only of a call
pub record Numbered (f g : Flow) (name : ℕ → ℕ) (n : ℕ) : Type 0 where
  -- a place has one number
  pub once : (u v : ℕ) → u < n → v < n → name u ≡ name v → u ≡ v
  pub start : Names name n g.start f.start
  pub kind : (v : ℕ) → v < n → g.kind v ≡ f.kind (name v)
  pub known : (v : ℕ) → v < n → g.known v ≡ f.known (name v)
  pub next : (v : ℕ) → v < n → g.kind v ≡ 1 → Names name n (g.next v) (f.next (name v))
  pub other : (v : ℕ) → v < n → g.kind v ≡ 1 → Names name n (g.other v) (f.other (name v))
  pub unknown_after : (v : ℕ) → v < n → g.kind v ≡ 3 → Names name n (g.next v) (f.next (name v))
  pub known_after : (v : ℕ) → v < n → g.kind v ≡ 3 → Names name n (g.other v) (f.other (name v))
  pub entry : (v : ℕ) → v < n → g.kind v ≡ 3 → g.entry v ≡ f.entry (name v)
  pub into : (v : ℕ) → v < n → g.kind v ≡ 3 → Names name n (g.from (g.entry v)) (f.from (f.entry (name v)))

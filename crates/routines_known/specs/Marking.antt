-- Marks m, one a number: what a number's mark goes by, and what marking comes to.
use Rattle.std.specs.Prelude.{◌≡◌, Bool, true, false, List, ℕ, ◌+◌, ◌≤◌, ◌<◌, ltb, length, get_or}
use Rattle.graph_search.specs.Marks.{Marked, zeros}
use Rattle.routines.specs.Calling.{Flow}
use Rattle.routines.specs.Losing.{Loses}
use Rattle.routines_numbered.specs.Packed.{nodes_in}
use Rattle.routines_numbered.specs.Numbering.{LinksLt}

-- the flow of the words by number alone: an entry is the number of its routine's first place
unfoldable pub flow_on : List ℕ → Flow
flow_on x = record {
  kind = λ v. (nodes_in x v).kind;
  next = λ v. (nodes_in x v).next;
  other = λ v. (nodes_in x v).other;
  entry = λ v. (nodes_in x v).into;
  known = λ v. (nodes_in x v).known;
  start = 0;
  from = λ e. e;
}

pub record Sized (x : List ℕ) (n : ℕ) : Type 0 where
  pub words : length x ≡ 16384
  pub few : n ≤ 16384
  pub links : (v : ℕ) → v < n → LinksLt x n v

-- every marked number loses SF
pub record AllLose (f : Flow) (m : List ℕ) : Type 0 where
  pub at : (v : ℕ) → Marked m v → Loses f v

-- v loses it by the marks of what comes after
pub data Lost (f : Flow) (m : List ℕ) (v : ℕ) : Type 0 where
  returns : f.kind v ≡ 4 → f.known v ≡ false → Lost f m v
  by_next : f.kind v ≡ 1 → Marked m (f.next v) → Lost f m v
  by_other : f.kind v ≡ 1 → Marked m (f.other v) → Lost f m v
  past_known : f.kind v ≡ 3 → Marked m (f.other v) → Lost f m v
  past_unknown : f.kind v ≡ 3 → Marked m (f.from (f.entry v)) → Marked m (f.next v) → Lost f m v

-- v is marked, or does not lose it by the marks; so are the first t numbers
abbrev pub Idle : Flow → List ℕ → ℕ → Type 0
Idle f m v = Lost f m v → Marked m v

pub record IdleTo (f : Flow) (m : List ℕ) (t : ℕ) : Type 0 where
  pub at : (v : ℕ) → v < t → Idle f m v

-- v was settled: r tells whether that marked it
pub record Settled (f : Flow) (m : List ℕ) (v : ℕ) (m' : List ℕ) (r : Bool) : Type 0 where
  pub lose : AllLose f m'
  pub marked : r ≡ true → zeros m' + 1 ≡ zeros m
  pub idle : r ≡ false → (m' ≡ m) × Idle f m v

-- the first t numbers were settled, and r tells whether some were marked
pub record Swept (f : Flow) (m : List ℕ) (t : ℕ) (m' : List ℕ) (r : Bool) : Type 0 where
  pub lose : AllLose f m'
  pub marked : r ≡ true → zeros m' < zeros m
  pub idle : r ≡ false → (m' ≡ m) × IdleTo f m t

-- the marks as they are asked: SF is known after a call of a routine whose first place has none
unfoldable pub marked_in : List ℕ → ℕ → Bool
marked_in m v = ltb 0 (get_or m v 0)

-- What the theorems ask of a flow, and the flow rules give: it is finite, and to know SF only takes ways away. No answer's meaning rests on it.
use Rattle.std.specs.Prelude.{◌≡◌, ◌⊎◌, ℕ, ◌<◌}
use Rattle.routines.specs.Calling.{Flow}

-- the places are below n, and the entries below E
pub record Small (f : Flow) (n E : ℕ) : Type 0 where
  pub start : f.start < n
  pub from : (e : ℕ) → e < E → f.from e < n
  pub next : (v : ℕ) → v < n → f.next v < n
  pub other : (v : ℕ) → v < n → f.other v < n
  pub entry : (v : ℕ) → v < n → f.entry v < E

-- u is left in no way that w is not; and if they are calls, in the same way
pub record Narrower (f : Flow) (u w : ℕ) : Type 0 where
  pub kind : f.kind u ≡ f.kind w
  pub next : f.kind u ≡ 1 → (f.next u ≡ f.next w) ⊎ (f.next u ≡ f.other w)
  pub other : f.kind u ≡ 1 → (f.other u ≡ f.next w) ⊎ (f.other u ≡ f.other w)
  pub entry : f.kind u ≡ 3 → f.entry u ≡ f.entry w
  pub unknown_after : f.kind u ≡ 3 → f.next u ≡ f.next w
  pub known_after : f.kind u ≡ 3 → f.other u ≡ f.other w

-- to know SF only takes ways away: "one at a known place has only its target, at an unknown place also the next instruction". The flow rules have this; 24's wide judgement rests on it
pub record Widens (f : Flow) : Type 0 where
  pub at_call : (v : ℕ) → f.kind v ≡ 3 → Narrower f (f.other v) (f.next v)

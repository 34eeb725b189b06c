-- What code that explores a flow keeps: each place gets a number when it is found, and its node is laid by that number when it is read.
use Rattle.std.specs.Prelude.{◌≡◌, Bool, ℕ, suc, ◌-◌, ◌≤◌, ◌<◌}
use Rattle.routines.specs.Calling.{Flow}
use Rattle.routines.specs.Numbered.{Names}

-- what is laid of a place: numbers follow it, and into is that of the first place of the routine that it calls
pub record Node : Type 0 where
  pub kind : ℕ
  pub next : ℕ
  pub other : ℕ
  pub into : ℕ
  pub known : Bool
  pub cost : ℕ
  pub address : ℕ

-- nodes by number as a flow: an entry is the address of its routine's first place
unfoldable pub flow_of : (ℕ → Node) → (ℕ → ℕ) → ℕ → Flow
flow_of node from s = record {
  kind = λ v. (node v).kind;
  next = λ v. (node v).next;
  other = λ v. (node v).other;
  entry = λ v. (node (node v).into).address;
  known = λ v. (node v).known;
  start = s;
  from = from;
}

-- a map tells of a place 0 where it is not found, else one more than its number
pub record Told (name map : ℕ → ℕ) (n : ℕ) : Type 0 where
  pub told : (v : ℕ) → v < n → map (name v) ≡ suc v
  pub names : (w : ℕ) → 0 < map w → Names name n (map w - 1) w

-- where the routine at an entry starts, by the number of its first place
abbrev pub from_by : Flow → (ℕ → ℕ) → ℕ → ℕ
from_by f map e = map (f.from e) - 1

-- x is the node of the place w, and all that follows w has a number
pub record NodeOf (f : Flow) (cycles at : ℕ → ℕ) (name : ℕ → ℕ) (n w : ℕ) (x : Node) : Type 0 where
  pub kind : x.kind ≡ f.kind w
  pub known : x.known ≡ f.known w
  pub cost : x.cost ≡ cycles w
  pub address : x.address ≡ at w
  pub next : x.kind ≡ 1 → Names name n x.next (f.next w)
  pub other : x.kind ≡ 1 → Names name n x.other (f.other w)
  pub unknown_after : x.kind ≡ 3 → Names name n x.next (f.next w)
  pub known_after : x.kind ≡ 3 → Names name n x.other (f.other w)
  pub into : x.kind ≡ 3 → Names name n x.into (f.from (f.entry w))

-- n places are found, the map tells their numbers, and the first done of them are read
pub record Explored (f : Flow) (cycles at : ℕ → ℕ) (name map : ℕ → ℕ) (n done s : ℕ) (node : ℕ → Node) : Type 0 where
  pub told : Told name map n
  pub start : Names name n s f.start
  pub holds : (v : ℕ) → v < done → NodeOf f cycles at name n (name v) (node v)

-- more places are found: those that had a number keep it
pub record Grows (name : ℕ → ℕ) (n : ℕ) (name' : ℕ → ℕ) (n' : ℕ) : Type 0 where
  pub more : n ≤ n'
  pub kept : (v : ℕ) → v < n → name' v ≡ name v

-- w is found: it gets the number n
pub record Finds (name map : ℕ → ℕ) (n w : ℕ) (name' map' : ℕ → ℕ) : Type 0 where
  pub unfound : map w ≡ 0
  pub kept : (v : ℕ) → v < n → name' v ≡ name v
  pub named : name' n ≡ w
  pub mapped : map' w ≡ suc n
  pub others : (u : ℕ) → (u ≡ w → ⊥) → map' u ≡ map u

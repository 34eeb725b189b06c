-- The way through the calls that the sums d show, with where the open calls go on; and its bytes.
use Rattle.std.specs.Prelude.{◌≡◌, List, [], ◌∷◌, ◌++◌, ◌⊎◌, ℕ, ◌+◌, ◌*◌, ◌≤◌, ◌<◌, length, get_or, drop}
use Rattle.graph.specs.Graph.{Graph}
use Rattle.routines.specs.Answer.{bytes_of}

-- what is left to spend where the open calls go on; each has something
unfoldable pub pending : List ℕ → List ℕ → ℕ
pending d [] = 0
pending d (w ∷ ks) = get_or d w 0 + pending d ks

unfoldable pub Positive : List ℕ → List ℕ → Type 0
Positive d [] = Unit
Positive d (w ∷ ks) = (0 < get_or d w 0) × Positive d ks

-- sums that fall along each edge, and at a call make up its own
pub data Falls (g : Graph) (d : List ℕ) (v : ℕ) : Type 0 where
  ends : g.kind v ≡ 2 → Falls g d v
  forks : g.kind v ≡ 1 → 0 < get_or d (g.next v) 0 → get_or d (g.next v) 0 < get_or d v 0 → 0 < get_or d (g.other v) 0 → get_or d (g.other v) 0 < get_or d v 0 → Falls g d v
  calls : g.kind v ≡ 3 → 0 < get_or d (g.next v) 0 → 0 < get_or d (g.other v) 0 → get_or d (g.next v) 0 + get_or d (g.other v) 0 < get_or d v 0 → Falls g d v

pub record Fall (g : Graph) (d : List ℕ) : Type 0 where
  pub at : (v : ℕ) → 0 < get_or d v 0 → Falls g d v

-- r is the one of two successors with the greater sum, the first where the sums are equal
abbrev pub Greater : List ℕ → ℕ → ℕ → ℕ → Type 0
Greater d a b r = ((r ≡ a) × (get_or d b 0 ≤ get_or d a 0)) ⊎ ((r ≡ b) × (get_or d a 0 < get_or d b 0))

-- one move: to the successor with the greater sum, next before other; into a routine; back to where the latest call goes on
pub data Move (g : Graph) (d : List ℕ) : List ℕ → ℕ → List ℕ → ℕ → Type 0 where
  to_next : {ks : List ℕ} {v w : ℕ} → g.kind v ≡ 1 → w ≡ g.next v → get_or d (g.other v) 0 ≤ get_or d (g.next v) 0 → Move g d ks v ks w
  to_other : {ks : List ℕ} {v w : ℕ} → g.kind v ≡ 1 → w ≡ g.other v → get_or d (g.next v) 0 < get_or d (g.other v) 0 → Move g d ks v ks w
  into : {ks : List ℕ} {v w x : ℕ} → g.kind v ≡ 3 → w ≡ g.next v → x ≡ g.other v → Move g d ks v (x ∷ ks) w
  back : {ks : List ℕ} {v w : ℕ} → g.kind v ≡ 2 → Move g d (w ∷ ks) v ks w

-- by such moves to the end with no call open
pub data Route (g : Graph) (d : List ℕ) : List ℕ → ℕ → List ℕ → Type 0 where
  last : {v : ℕ} → g.kind v ≡ 2 → Route g d [] v (v ∷ [])
  move : {ks ks' : List ℕ} {v w : ℕ} {l : List ℕ} → Move g d ks v ks' w → Route g d ks' w l → Route g d ks v (v ∷ l)

-- the way from s, of no more places than the buffer has room for and than the stack allows
pub record Roomy (g : Graph) (d : List ℕ) (s : ℕ) (p : List ℕ) (stack : ℕ) : Type 0 where
  pub route : List ℕ
  pub is : Route g d [] s route
  pub fits : 2 * length route ≤ length p
  pub few : length route ≤ 2 * stack

-- p became p': the way, then what p had there
pub record Written (g : Graph) (address : ℕ → ℕ) (d : List ℕ) (s : ℕ) (p p' : List ℕ) : Type 0 where
  pub route : List ℕ
  pub is : Route g d [] s route
  pub room : 2 * length route ≤ length p
  pub bytes : p' ≡ bytes_of address route ++ drop (2 * length route) p

-- p became p', which holds the way's places before v, in its first at bytes; ks are the open calls there
pub record Writing (g : Graph) (address : ℕ → ℕ) (d : List ℕ) (s : ℕ) (p : List ℕ) (stack : ℕ) (p' ks : List ℕ) (v at : ℕ) : Type 0 where
  pub route : List ℕ
  pub is : Route g d [] s route
  pub fits : 2 * length route ≤ length p
  pub few : length route ≤ 2 * stack
  pub pre : List ℕ
  pub rest : List ℕ
  pub split : route ≡ pre ++ rest
  pub rest_is : Route g d ks v rest
  pub at_is : at ≡ 2 * length pre
  pub bytes : p' ≡ bytes_of address pre ++ drop at p
  pub has : 0 < get_or d v 0
  pub positive : Positive d ks
  pub opens : length ks ≤ length pre

-- the way from s has r places
pub record LengthIs (g : Graph) (d : List ℕ) (s r : ℕ) : Type 0 where
  pub route : List ℕ
  pub is : Route g d [] s route
  pub len : r ≡ length route
  pub most : r ≤ get_or d s 0

-- n places up to v are passed
pub record Along (g : Graph) (d : List ℕ) (s : ℕ) (ks : List ℕ) (v n : ℕ) : Type 0 where
  pub route : List ℕ
  pub is : Route g d [] s route
  pub most : length route ≤ get_or d s 0
  pub rest : List ℕ
  pub rest_is : Route g d ks v rest
  pub count : n + length rest ≡ length route + 1
  pub has : 0 < get_or d v 0
  pub positive : Positive d ks
  pub opens : length ks < n

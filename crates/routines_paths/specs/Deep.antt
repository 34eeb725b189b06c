-- The depth's way through the calls: dep is a number's greatest depth of calls to the end of its routine.
use Rattle.std.specs.Prelude.{◌≡◌, ◌⊎◌, List, [], ◌∷◌, ◌++◌, ℕ, suc, ◌+◌, ◌*◌, ◌≤◌, ◌<◌, max, length, get_or, drop}
use Rattle.graph.specs.Graph.{Graph}
use Rattle.graph_search.specs.Marks.{Within}
use Rattle.routines.specs.Answer.{bytes_of}
use Rattle.routines_paths.specs.Open.{open_of}

-- how many calls can be open where the open calls go on
unfoldable pub later : List ℕ → List ℕ → ℕ
later dep [] = 0
later dep (w ∷ ks) = max (length ks + get_or dep w 0) (later dep ks)

-- how many can be in all: so many were, or can be later, or can be from v to the end of the routine
abbrev pub total : List ℕ → ℕ → List ℕ → ℕ → ℕ
total dep reached ks v = max (max reached (later dep ks)) (length ks + get_or dep v 0)

-- one move towards the goal: next where it was reached or can be that way or later, else other; into a routine; back to where the latest call goes on
pub data Move (g : Graph) (dep : List ℕ) (goal : ℕ) : ℕ → List ℕ → ℕ → ℕ → List ℕ → ℕ → Type 0 where
  to_next : {reached v w : ℕ} {ks : List ℕ} → g.kind v ≡ 1 → w ≡ g.next v → goal ≤ total dep reached ks (g.next v) → Move g dep goal reached ks v reached ks w
  to_other : {reached v w : ℕ} {ks : List ℕ} → g.kind v ≡ 1 → w ≡ g.other v → total dep reached ks (g.next v) < goal → Move g dep goal reached ks v reached ks w
  into : {reached y v w x : ℕ} {ks : List ℕ} → g.kind v ≡ 3 → w ≡ g.next v → x ≡ g.other v → y ≡ max reached (suc (length ks)) → Move g dep goal reached ks v y (x ∷ ks) w
  back : {reached v w : ℕ} {ks : List ℕ} → g.kind v ≡ 2 → Move g dep goal reached (w ∷ ks) v reached ks w

-- by such moves to the end with no call open
pub data Route (g : Graph) (dep : List ℕ) (goal : ℕ) : ℕ → List ℕ → ℕ → List ℕ → Type 0 where
  last : {reached v : ℕ} → g.kind v ≡ 2 → Route g dep goal reached [] v (v ∷ [])
  move : {reached y v w : ℕ} {ks ks' l : List ℕ} → Move g dep goal reached ks v y ks' w → Route g dep goal y ks' w l → Route g dep goal reached ks v (v ∷ l)

-- the array pend has later for each part of the stack up to top
pub record Pended (dep stack pend : List ℕ) (top : ℕ) : Type 0 where
  pub at : (t : ℕ) → t ≤ top → get_or pend t 0 ≡ later dep (open_of stack t)

-- stack and pend, to work in with so many calls open: what is stacked are numbers, and pend has room for one call more
pub record Working (dep stack pend : List ℕ) (top : ℕ) : Type 0 where
  pub beside : length stack < length pend
  pub small : length stack ≤ 65536
  pub few : length dep ≤ 16384
  pub stacked : Within stack (length dep)
  pub pended : Pended dep stack pend top

-- r is the first of two successors where that way m can be reached, no less than the goal, else the second
abbrev pub Turned : ℕ → ℕ → ℕ → ℕ → ℕ → Type 0
Turned goal m a b r = ((r ≡ a) × (goal ≤ m)) ⊎ ((r ≡ b) × (m < goal))

pub record Roomy (g : Graph) (dep : List ℕ) (goal s : ℕ) (p : List ℕ) (stack : ℕ) : Type 0 where
  pub route : List ℕ
  pub is : Route g dep goal 0 [] s route
  pub fits : 2 * length route ≤ length p
  pub few : length route ≤ 2 * stack

-- p became p': the way, then what p had there
pub record Written (g : Graph) (address : ℕ → ℕ) (dep : List ℕ) (goal s : ℕ) (p p' : List ℕ) : Type 0 where
  pub route : List ℕ
  pub is : Route g dep goal 0 [] s route
  pub room : 2 * length route ≤ length p
  pub bytes : p' ≡ bytes_of address route ++ drop (2 * length route) p

-- the way from s, of no more places than the stack allows
pub record Short (g : Graph) (dep : List ℕ) (goal s stack : ℕ) : Type 0 where
  pub route : List ℕ
  pub is : Route g dep goal 0 [] s route
  pub few : length route ≤ 2 * stack

-- the way from s has r places, no more than the stack allows
pub record LengthIs (g : Graph) (dep : List ℕ) (goal s stack r : ℕ) : Type 0 where
  pub route : List ℕ
  pub is : Route g dep goal 0 [] s route
  pub few : length route ≤ 2 * stack
  pub len : r ≡ length route

-- n places of the way are passed before v; ks are the open calls there
pub record Along (g : Graph) (dep : List ℕ) (goal s stack reached : ℕ) (ks : List ℕ) (v n : ℕ) : Type 0 where
  pub route : List ℕ
  pub is : Route g dep goal 0 [] s route
  pub few : length route ≤ 2 * stack
  pub pre : List ℕ
  pub rest : List ℕ
  pub split : route ≡ pre ++ rest
  pub rest_is : Route g dep goal reached ks v rest
  pub passed : n ≡ length pre
  pub opens : length ks ≤ n

-- p became p', which holds those places in its first at bytes
pub record Writing (g : Graph) (address : ℕ → ℕ) (dep : List ℕ) (goal s : ℕ) (p : List ℕ) (stack : ℕ) (p' : List ℕ) (reached : ℕ) (ks : List ℕ) (v at : ℕ) : Type 0 where
  pub n : ℕ
  pub along : Along g dep goal s stack reached ks v n
  pub fits : 2 * length along.route ≤ length p
  pub at_is : at ≡ 2 * n
  pub bytes : p' ≡ bytes_of address along.pre ++ drop at p

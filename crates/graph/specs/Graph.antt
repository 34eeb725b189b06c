-- A flow graph and what is asked of it. Nothing here knows a chip, nor how the answers are found.
use Rattle.std.specs.Prelude.{◌≡◌, ◌⊎◌, List, [], ◌∷◌, ℕ, ◌+◌, ◌≤◌, ◌<◌}

-- the kinds of places: one that goes on, to next or to other (the same twice where only one follows); one that ends a path; any other is excluded
pub data Kind : Type 0 where
  excluded goes_on ends_path : Kind

-- the kinds as the numbers of an array
abbrev pub kind_number : Kind → ℕ
kind_number excluded = 0
kind_number goes_on = 1
kind_number ends_path = 2

-- by place: the number of its kind, and what may follow
pub record Graph : Type 0 where
  pub kind : ℕ → ℕ
  pub next : ℕ → ℕ
  pub other : ℕ → ℕ

abbrev pub GoesOn : Graph → ℕ → Type 0
GoesOn g v = g.kind v ≡ kind_number goes_on

abbrev pub Ends : Graph → ℕ → Type 0
Ends g v = g.kind v ≡ kind_number ends_path

pub record Excluded (g : Graph) (v : ℕ) : Type 0 where
  pub not_on : GoesOn g v → ⊥
  pub not_end : Ends g v → ⊥

abbrev pub Edge : Graph → ℕ → ℕ → Type 0
Edge g v w = GoesOn g v × ((w ≡ g.next v) ⊎ (w ≡ g.other v))

-- w is reached from u in zero or more steps; in one or more
pub data Reach (g : Graph) : ℕ → ℕ → Type 0 where
  here : {v : ℕ} → Reach g v v
  step : {u v w : ℕ} → Edge g u v → Reach g v w → Reach g u w

abbrev pub ReachPlus : Graph → ℕ → ℕ → Type 0
ReachPlus g u w = (v : ℕ) × Edge g u v × Reach g v w

-- a path from a place to an end, as its places in order
pub data Path (g : Graph) : ℕ → List ℕ → Type 0 where
  ends : {v : ℕ} → Ends g v → Path g v (v ∷ [])
  goes : {v w : ℕ} {l : List ℕ} → Edge g v w → Path g w l → Path g v (v ∷ l)

-- what its places cost together
unfoldable pub sum : (ℕ → ℕ) → List ℕ → ℕ
sum c [] = 0
sum c (v ∷ l) = c v + sum c l

-- no path from v has more than t; each has less
abbrev pub AtMost : Graph → (ℕ → ℕ) → ℕ → ℕ → Type 0
AtMost g c v t = (l : List ℕ) → Path g v l → sum c l ≤ t

abbrev pub Below : Graph → (ℕ → ℕ) → ℕ → ℕ → Type 0
Below g c v t = (l : List ℕ) → Path g v l → sum c l < t

-- the longest path: at a fork by next, unless every path by next is shorter
pub data Longest (g : Graph) (c : ℕ → ℕ) : ℕ → List ℕ → Type 0 where
  stop : {v : ℕ} → Ends g v → Longest g c v (v ∷ [])
  by_next : {v : ℕ} {l : List ℕ} → GoesOn g v → Longest g c (g.next v) l → AtMost g c (g.other v) (sum c l) → Longest g c v (v ∷ l)
  by_other : {v : ℕ} {l : List ℕ} → GoesOn g v → Longest g c (g.other v) l → Below g c (g.next v) (sum c l) → Longest g c v (v ∷ l)

-- the same places, with next for other: its one path takes next at every fork
unfoldable pub next_only : Graph → Graph
next_only g = record { kind = g.kind; next = g.next; other = g.next }

-- a is the least number with P
pub record Least (P : ℕ → Type 0) (a : ℕ) : Type 0 where
  pub holds : P a
  pub least : (b : ℕ) → P b → a ≤ b

-- an excluded place that is reached from s; a place that is, and is reached from itself in one or more steps
abbrev pub Bad : Graph → ℕ → ℕ → Type 0
Bad g s v = Reach g s v × Excluded g v

abbrev pub Loops : Graph → ℕ → ℕ → Type 0
Loops g s v = Reach g s v × ReachPlus g v v

-- from s neither is reached
pub record Sound (g : Graph) (s : ℕ) : Type 0 where
  pub no_bad : (v : ℕ) → Bad g s v → ⊥
  pub no_loop : (v : ℕ) → Loops g s v → ⊥

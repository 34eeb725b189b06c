-- Request Q-9, "Handlers that call": a flow graph whose places may be calls, and what is asked of it. Nothing here knows a chip, nor how the answers are found.
use Rattle.std.specs.Prelude.{◌≡◌, ◌⊎◌, Bool, true, false, List, [], ◌∷◌, ℕ, suc, ◌-◌, ◌≤◌, max, eqb}
use Rattle.laws.specs.Choice.{pick, either}
use Rattle.graph.specs.Graph.{Graph, Reach, Excluded, ReachPlus}

-- by place: of kind 1 it goes on, to next or to other (the same twice where only one follows); of kind 2 it is RTI; of kind 3 it calls the routine at entry, and
-- after the call comes next where SF is then unknown, other where it is known; of kind 4 it is RET; of any other kind it is excluded
pub record Flow : Type 0 where
  pub kind : ℕ → ℕ
  pub next : ℕ → ℕ
  pub other : ℕ → ℕ
  pub entry : ℕ → ℕ
  -- SF is known set at the place
  pub known : ℕ → Bool
  -- where the handler starts, and where the routine at an entry does: "A called routine starts with SF unknown"
  pub start : ℕ
  pub from : ℕ → ℕ

-- "Places are per routine": the outer routine, or a called one, named by its entry
pub data Routine : Type 0 where
  outer : Routine
  called : ℕ → Routine

abbrev pub start_in : Flow → Routine → ℕ
start_in f outer = f.start
start_in f (called e) = f.from e

-- "RTI inside a called routine is excluded .., as is RET in the outer one"
abbrev pub end_of : Routine → ℕ
end_of outer = 2
end_of (called e) = 4

-- K says of an entry whether SF is known after a call of it. "judged with SF unknown after every call":
abbrev pub unknown : ℕ → Bool
unknown e = false

-- the place after the call at v
unfoldable pub after : Flow → (ℕ → Bool) → ℕ → ℕ
after f K v = pick (K (f.entry v)) (f.other v) (f.next v)

-- one routine as a graph in which a call is a step to the place after it: "in judging refusals it continues even where its routine reaches no RET"
unfoldable pub within : Flow → (ℕ → Bool) → Routine → Graph
within f K r = record {
  kind = λ v. pick (either (eqb (f.kind v) 1) (eqb (f.kind v) 3)) 1 (pick (eqb (f.kind v) (end_of r)) 2 0);
  next = λ v. pick (eqb (f.kind v) 3) (after f K v) (f.next v);
  other = λ v. pick (eqb (f.kind v) 3) (after f K v) (f.other v);
}

-- the place is reachable in the routine
abbrev pub In : Flow → (ℕ → Bool) → Routine → ℕ → Type 0
In f K r v = Reach (within f K r) (start_in f r) v

-- the routine is reachable: the outer one, and one that is called at a reachable place of a reachable one
pub data Live (f : Flow) (K : ℕ → Bool) : Routine → Type 0 where
  handler : Live f K outer
  call : {r : Routine} {v : ℕ} → Live f K r → In f K r v → f.kind v ≡ 3 → Live f K (called (f.entry v))

-- "after the call SF is known exactly if every RET reachable in the routine stands at a known place"
abbrev pub ReturnsKnown : Flow → (ℕ → Bool) → ℕ → Type 0
ReturnsKnown f K e = (v : ℕ) → In f K (called e) v → f.kind v ≡ 4 → f.known v ≡ true

pub record Knows (f : Flow) (K : ℕ → Bool) : Type 0 where
  pub yes_if : (e : ℕ) → Live f K (called e) → ReturnsKnown f K e → K e ≡ true
  pub only_if : (e : ℕ) → Live f K (called e) → K e ≡ true → ReturnsKnown f K e

-- in one step or more
pub data Plus (R : ℕ → ℕ → Type 0) : ℕ → ℕ → Type 0 where
  once : {a b : ℕ} → R a b → Plus R a b
  more : {a b c : ℕ} → R a b → Plus R b c → Plus R a c

-- in the routine at d a call of that at e is reachable
abbrev pub Calls : Flow → (ℕ → Bool) → ℕ → ℕ → Type 0
Calls f K d e = (v : ℕ) × In f K (called d) v × (f.kind v ≡ 3) × (f.entry v ≡ e)

-- "a routine that can reach a call of itself is refused .. judged with SF unknown after every call"
abbrev pub Recurs : Flow → ℕ → Type 0
Recurs f e = Live f unknown (called e) × Plus (Calls f unknown) e e

-- an excluded place that is reachable in a reachable routine; a place there that is reached from itself: "Repetition is judged per routine"
abbrev pub IsBad : Flow → (ℕ → Bool) → ℕ → Type 0
IsBad f K v = (r : Routine) × Live f K r × In f K r v × Excluded (within f K r) v

abbrev pub IsLoop : Flow → (ℕ → Bool) → ℕ → Type 0
IsLoop f K v = (r : Routine) × Live f K r × In f K r v × ReachPlus (within f K r) v v

-- a path from a place to RTI, as its places in order, while calls are open that go on at the places ks:
-- "a call is followed to its RET and continues after it .. a called routine's addresses standing in their turn"
pub data Path (f : Flow) (K : ℕ → Bool) : List ℕ → ℕ → List ℕ → Type 0 where
  rti : {v : ℕ} → f.kind v ≡ 2 → Path f K [] v (v ∷ [])
  goes : {v w : ℕ} {ks l : List ℕ} → f.kind v ≡ 1 → (w ≡ f.next v) ⊎ (w ≡ f.other v) → Path f K ks w l → Path f K ks v (v ∷ l)
  calls : {v : ℕ} {ks l : List ℕ} → f.kind v ≡ 3 → Path f K (after f K v ∷ ks) (f.from (f.entry v)) l → Path f K ks v (v ∷ l)
  ret : {v w : ℕ} {ks l : List ℕ} → f.kind v ≡ 4 → Path f K ks w l → Path f K (w ∷ ks) v (v ∷ l)

abbrev pub HandlerPath : Flow → (ℕ → Bool) → List ℕ → Type 0
HandlerPath f K l = Path f K [] f.start l

-- "the greatest depth of calls": how many are open at most along places of these kinds, n being open before them
unfoldable pub opened : ℕ → ℕ → ℕ
opened kind n = pick (eqb kind 3) (suc n) (pick (eqb kind 4) (n - 1) n)

unfoldable pub deepest : (ℕ → ℕ) → ℕ → List ℕ → ℕ
deepest kind n [] = n
deepest kind n (v ∷ l) = max n (deepest kind (opened (kind v) n) l)

abbrev pub depth : Flow → List ℕ → ℕ
depth f l = deepest f.kind 0 l

-- where the two paths first differ, the one goes on to the next instruction and the other to the target
pub data Before (f : Flow) : List ℕ → List ℕ → Type 0 where
  turns : {v w x : ℕ} {l m : List ℕ} → f.kind v ≡ 1 → w ≡ f.next v → x ≡ f.other v → (w ≡ x → ⊥) → Before f (v ∷ w ∷ l) (v ∷ x ∷ m)
  later : {v : ℕ} {l m : List ℕ} → Before f l m → Before f (v ∷ l) (v ∷ m)

-- "the largest .. among equal sums take the next instruction before the target": of the lists in S, none has a larger measure than l, and of those with an equal one l comes first
pub record FirstOf (f : Flow) (S : List ℕ → Type 0) (measure : List ℕ → ℕ) (l : List ℕ) : Type 0 where
  pub in_it : S l
  pub most : (m : List ℕ) → S m → measure m ≤ measure l
  pub first : (m : List ℕ) → S m → measure m ≡ measure l → (m ≡ l) ⊎ Before f l m

-- Loops with counts (COUNTS.md, "The definition"): a handler with loops is bounded as far as the counts hold that are given for its rows. Nothing here knows a chip, nor how the answers are found.
use Rattle.std.specs.Prelude.{◌≡◌, ◌⊎◌, Bool, false, List, [], ◌∷◌, ℕ, suc, ◌<◌, eqb}
use Rattle.laws.specs.Choice.{pick, either}
use Rattle.graph.specs.Graph.{Graph, ReachPlus}
use Rattle.routines.specs.Calling.{Flow, Routine, after, within, In, Live}

-- "a list of counts (a, k): the row at address a .. is executed at most k times in one activation of the routine it stands in"
pub record Count : Type 0 where
  pub at : ℕ
  pub most : ℕ

-- x is one of the list
pub data Member {A : Type 0} (x : A) : List A → Type 0 where
  first : {l : List A} → Member x (x ∷ l)
  later : {y : A} {l : List A} → Member x l → Member x (y ∷ l)

-- whether an address is counted
unfoldable pub is_counted : List Count → ℕ → Bool
is_counted [] a = false
is_counted (c ∷ C) a = either (eqb c.at a) (is_counted C a)

-- "how often its address was executed in this activation so far, this row included", by address
abbrev pub Numbers : Type 0
Numbers = ℕ → ℕ

abbrev pub none : Numbers
none a = 0

-- "adds 1 at the address it goes to"
unfoldable pub used : (ℕ → ℕ) → Numbers → ℕ → Numbers
used address u w a = pick (eqb a (address w)) (suc (u a)) (u a)

-- "A step after which a number would exceed its k does not exist."
abbrev pub Fits : (ℕ → ℕ) → List Count → Numbers → ℕ → Type 0
Fits address C u w = (c : Count) → Member c C → c.at ≡ address w → u c.at < c.most

-- where an open call goes on: "The open callers keep their numbers."
pub record Open : Type 0 where
  pub place : ℕ
  pub numbers : Numbers

-- "Today's path through calls, where each row of it also has the numbers": u are those at v. "each call starts a new one [activation] .. It ends with its RTI or RET"; "the first row of a called routine
-- [has 1] at its own (all other numbers 0). A step within the activation, also the one past a call, adds 1 at the address it goes to."
pub data Counted (f : Flow) (K : ℕ → Bool) (address : ℕ → ℕ) (C : List Count) : List Open → Numbers → ℕ → List ℕ → Type 0 where
  rti : {u : Numbers} {v : ℕ} → f.kind v ≡ 2 → Counted f K address C [] u v (v ∷ [])
  goes : {u : Numbers} {v w : ℕ} {ks : List Open} {l : List ℕ} → f.kind v ≡ 1 → (w ≡ f.next v) ⊎ (w ≡ f.other v) → Fits address C u w
      → Counted f K address C ks (used address u w) w l → Counted f K address C ks u v (v ∷ l)
  calls : {u : Numbers} {v : ℕ} {ks : List Open} {l : List ℕ} → f.kind v ≡ 3
      → Counted f K address C (record { place = after f K v; numbers = u } ∷ ks) (used address none (f.from (f.entry v))) (f.from (f.entry v)) l
      → Counted f K address C ks u v (v ∷ l)
  ret : {u t : Numbers} {v w : ℕ} {ks : List Open} {l : List ℕ} → f.kind v ≡ 4 → Fits address C t w
      → Counted f K address C ks (used address t w) w l → Counted f K address C (record { place = w; numbers = t } ∷ ks) u v (v ∷ l)

-- "The start has 1 at its own address"
abbrev pub CountedPath : Flow → (ℕ → Bool) → (ℕ → ℕ) → List Count → List ℕ → Type 0
CountedPath f K address C l = Counted f K address C [] (used address none f.start) f.start l

-- a routine without its counted places: "no place on the way, itself included, at a counted address"
unfoldable pub uncounted : Flow → (ℕ → Bool) → (ℕ → ℕ) → List Count → Routine → Graph
uncounted f K address C r = record {
  kind = λ v. pick (is_counted C (address v)) 0 ((within f K r).kind v);
  next = (within f K r).next;
  other = (within f K r).other;
}

-- 22: "a place reached in a live routine comes back to itself in one or more steps of its routine (calls stepped over), no place on the way .. at a counted address"
abbrev pub IsUncountedLoop : Flow → (ℕ → Bool) → (ℕ → ℕ) → List Count → ℕ → Type 0
IsUncountedLoop f K address C v = (r : Routine) × Live f K r × In f K r v × ReachPlus (uncounted f K address C r) v v

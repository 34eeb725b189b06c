-- 28 (COUNTS.md): "the sum over all places reached of the product of (k + 1) over the counts that weigh there (1 where none does) is over 32,768".
use Rattle.std.specs.Prelude.{◌≡◌, Bool, List, [], ◌∷◌, ℕ, suc, ◌+◌, ◌*◌}
use Rattle.graph.specs.Graph.{Graph, Reach, ReachPlus}
use Rattle.routines.specs.Calling.{Flow, Routine, outer, within, In, Live}
use Rattle.counts.specs.Counts.{Count, Member}

-- "an address with SF known or not, reached in some live routine as 21 and 22 see it"
abbrev pub Reached : Flow → (ℕ → Bool) → ℕ → Type 0
Reached f K v = (r : Routine) × Live f K r × In f K r v

-- "A place's steps are the same in all of them [the routines] .., so there is one graph: calls stepped over, without counts."
abbrev pub steps : Flow → (ℕ → Bool) → Graph
steps f K = within f K outer

-- "p stands at a or is reached from a place at a", a place reached
abbrev pub Behind : Flow → (ℕ → Bool) → (ℕ → ℕ) → ℕ → ℕ → Type 0
Behind f K address a p = (q : ℕ) × Reached f K q × (address q ≡ a) × Reach (steps f K) q p

-- "and a place at a is reached from p in one or more steps"
abbrev pub Ahead : Flow → (ℕ → Bool) → (ℕ → ℕ) → ℕ → ℕ → Type 0
Ahead f K address a p = (q : ℕ) × (address q ≡ a) × ReachPlus (steps f K) p q

-- "A count (a, k) weighs at a place p when" both hold
pub record Weighs (f : Flow) (K : ℕ → Bool) (address : ℕ → ℕ) (p : ℕ) (c : Count) : Type 0 where
  pub behind : Behind f K address c.at p
  pub ahead : Ahead f K address c.at p

-- n is the product of k + 1 over the counts with W
pub data Product (W : Count → Type 0) : List Count → ℕ → Type 0 where
  none : Product W [] 1
  weighs : {c : Count} {C : List Count} {n : ℕ} → W c → Product W C n → Product W (c ∷ C) (suc c.most * n)
  weighs_not : {c : Count} {C : List Count} {n : ℕ} → (W c → ⊥) → Product W C n → Product W (c ∷ C) n

-- n is the sum of what the places of the list have
pub data Total (Has : ℕ → ℕ → Type 0) : List ℕ → ℕ → Type 0 where
  none : Total Has [] 0
  adds : {v x n : ℕ} {l : List ℕ} → Has v x → Total Has l n → Total Has (v ∷ l) (x + n)

-- each number with P stands once in the list, and no other
pub data Once : List ℕ → Type 0 where
  none : Once []
  adds : {v : ℕ} {l : List ℕ} → (Member v l → ⊥) → Once l → Once (v ∷ l)

pub record Lists (P : ℕ → Type 0) (l : List ℕ) : Type 0 where
  pub only : (v : ℕ) → Member v l → P v
  pub all : (v : ℕ) → P v → Member v l
  pub once : Once l

-- the sum over all places reached, "counted once whatever the number of routines that share it"
pub record Weight (f : Flow) (K : ℕ → Bool) (address : ℕ → ℕ) (C : List Count) (n : ℕ) : Type 0 where
  pub places : List ℕ
  pub lists : Lists (Reached f K) places
  pub total : Total (λ v. Product (Weighs f K address v) C) places n

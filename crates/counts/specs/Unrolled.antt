-- A flow g whose nodes are places of f with their numbers, without those from which the end of their routine is not reached: what code that unrolls f comes to. No answer's meaning rests on it.
use Rattle.std.specs.Prelude.{◌≡◌, ◌⊎◌, Bool, false, List, ℕ}
use Rattle.routines.specs.Calling.{Flow, after}
use Rattle.routines.specs.Losing.{Loses}
use Rattle.counts.specs.Counts.{Count, Member, Numbers, none, used, Fits}
use Rattle.counts.specs.Weights.{Weighs}

-- numbers that a counted path can have at a place: they are such at the start, and after each step from such
pub record Closed (f : Flow) (K : ℕ → Bool) (address : ℕ → ℕ) (C : List Count) (Good : ℕ → Numbers → Type 0) : Type 0 where
  pub start : Good f.start (used address none f.start)
  pub step : {v w : ℕ} {u : Numbers} → Good v u → f.kind v ≡ 1 → (w ≡ f.next v) ⊎ (w ≡ f.other v) → Fits address C u w → Good w (used address u w)
  pub past : {v : ℕ} {u : Numbers} → Good v u → f.kind v ≡ 3 → Fits address C u (after f K v) → Good (after f K v) (used address u (after f K v))
  pub into : {v : ℕ} {u : Numbers} → Good v u → f.kind v ≡ 3 → Good (f.from (f.entry v)) (used address none (f.from (f.entry v)))

-- y is the node of w, to which a step leads; and no step leads to w
pub record Leads (address : ℕ → ℕ) (C : List Count) (node : ℕ → Numbers → ℕ) (M : ℕ → Type 0) (u : Numbers) (w y : ℕ) : Type 0 where
  pub fits : Fits address C u w
  pub is : y ≡ node w (used address u w)
  pub ends : M (node w (used address u w))

abbrev pub Dead : (ℕ → ℕ) → List Count → (ℕ → Numbers → ℕ) → (ℕ → Type 0) → Numbers → ℕ → Type 0
Dead address C node M u w = Fits address C u w → M (node w (used address u w)) → ⊥

-- where a node goes on, y and z: both ways of its place, or twice the one that leads to an end
pub data Turns (f : Flow) (address : ℕ → ℕ) (C : List Count) (node : ℕ → Numbers → ℕ) (M : ℕ → Type 0) (v : ℕ) (u : Numbers) (y z : ℕ) : Type 0 where
  both : Leads address C node M u (f.next v) y → Leads address C node M u (f.other v) z → Turns f address C node M v u y z
  only_next : Leads address C node M u (f.next v) y → Dead address C node M u (f.other v) → z ≡ y → Turns f address C node M v u y z
  only_other : Leads address C node M u (f.other v) y → Dead address C node M u (f.next v) → z ≡ y → Turns f address C node M v u y z

-- what follows a call of the routine at the entry e: its first node x, and the node y where the call goes on
pub record Enters (f : Flow) (K : ℕ → Bool) (address : ℕ → ℕ) (C : List Count) (node : ℕ → Numbers → ℕ) (M : ℕ → Type 0) (v : ℕ) (u : Numbers) (e x y : ℕ) : Type 0 where
  pub entry : e ≡ f.entry v
  pub first : x ≡ node (f.from (f.entry v)) (used address none (f.from (f.entry v)))
  pub first_ends : M (node (f.from (f.entry v)) (used address none (f.from (f.entry v))))
  pub past : Leads address C node M u (after f K v) y

pub record Unrolls (f : Flow) (K : ℕ → Bool) (address : ℕ → ℕ) (C : List Count) (Good : ℕ → Numbers → Type 0) (node : ℕ → Numbers → ℕ) (M : ℕ → Type 0) (g : Flow) (L : ℕ → Bool) : Type 0 where
  -- a node is of one place
  pub one : {v w : ℕ} {u t : Numbers} → Good v u → Good w t → node v u ≡ node w t → v ≡ w
  pub numbers : {v : ℕ} {u t : Numbers} → Good v u → Good v t → node v u ≡ node v t → (c : Count) → Member c C → Weighs f K address v c → u c.at ≡ t c.at
  pub start : g.start ≡ node f.start (used address none f.start)
  pub kind : {v : ℕ} {u : Numbers} → Good v u → M (node v u) → g.kind (node v u) ≡ f.kind v
  -- M has each node from which its routine's end is reached
  pub ends : {v : ℕ} {u : Numbers} → Good v u → (f.kind v ≡ 2) ⊎ (f.kind v ≡ 4) → M (node v u)
  pub by_step : {v w : ℕ} {u : Numbers} → Good v u → f.kind v ≡ 1 → (w ≡ f.next v) ⊎ (w ≡ f.other v) → Fits address C u w → M (node w (used address u w)) → M (node v u)
  pub by_call : {v : ℕ} {u : Numbers} → Good v u → f.kind v ≡ 3 → M (node (f.from (f.entry v)) (used address none (f.from (f.entry v)))) → Fits address C u (after f K v)
      → M (node (after f K v) (used address u (after f K v))) → M (node v u)
  -- and each of them goes on to such nodes
  pub turns : {v : ℕ} {u : Numbers} → Good v u → M (node v u) → f.kind v ≡ 1 → Turns f address C node M v u (g.next (node v u)) (g.other (node v u))
  pub enters : {v : ℕ} {u : Numbers} → Good v u → M (node v u) → f.kind v ≡ 3 → Enters f K address C node M v u (g.entry (node v u)) (g.from (g.entry (node v u))) (after g L (node v u))

-- y is the node of w, to which a step from the node x leads; or there is no such step, and y is x itself
pub data Led (address : ℕ → ℕ) (C : List Count) (node : ℕ → Numbers → ℕ) (u : Numbers) (w x y : ℕ) : Type 0 where
  goes : Fits address C u w → y ≡ node w (used address u w) → Led address C node u w x y
  stays : (Fits address C u w → ⊥) → y ≡ x → Led address C node u w x y

-- every node of f's places, linked as the steps lead. An end is a RET at an unknown place, and a call leads back to itself where SF is known after it: so Loses says that the end of the routine is reached
pub record Linked (f : Flow) (K : ℕ → Bool) (address : ℕ → ℕ) (C : List Count) (Good : ℕ → Numbers → Type 0) (node : ℕ → Numbers → ℕ) (h : Flow) : Type 0 where
  pub end : {v : ℕ} {u : Numbers} → Good v u → (f.kind v ≡ 2) ⊎ (f.kind v ≡ 4) → (h.kind (node v u) ≡ 4) × (h.known (node v u) ≡ false)
  pub on : {v : ℕ} {u : Numbers} → Good v u → f.kind v ≡ 1 → h.kind (node v u) ≡ 1
  pub next : {v : ℕ} {u : Numbers} → Good v u → f.kind v ≡ 1 → Led address C node u (f.next v) (node v u) (h.next (node v u))
  pub other : {v : ℕ} {u : Numbers} → Good v u → f.kind v ≡ 1 → Led address C node u (f.other v) (node v u) (h.other (node v u))
  pub call : {v : ℕ} {u : Numbers} → Good v u → f.kind v ≡ 3 → h.kind (node v u) ≡ 3
  pub first : {v : ℕ} {u : Numbers} → Good v u → f.kind v ≡ 3 → h.from (h.entry (node v u)) ≡ node (f.from (f.entry v)) (used address none (f.from (f.entry v)))
  pub past : {v : ℕ} {u : Numbers} → Good v u → f.kind v ≡ 3 → Led address C node u (after f K v) (node v u) (h.next (node v u))
  pub itself : {v : ℕ} {u : Numbers} → Good v u → f.kind v ≡ 3 → h.other (node v u) ≡ node v u

-- where a node goes on without the ways that lead to no end: as Turns, or nowhere
pub data Ways (f : Flow) (address : ℕ → ℕ) (C : List Count) (node : ℕ → Numbers → ℕ) (M : ℕ → Type 0) (v : ℕ) (u : Numbers) (y z : ℕ) : Type 0 where
  some : Turns f address C node M v u y z → Ways f address C node M v u y z
  neither : Dead address C node M u (f.next v) → Dead address C node M u (f.other v) → Ways f address C node M v u y z

pub record Pruned (f : Flow) (K : ℕ → Bool) (address : ℕ → ℕ) (C : List Count) (Good : ℕ → Numbers → Type 0) (node : ℕ → Numbers → ℕ) (h g : Flow) (L : ℕ → Bool) : Type 0 where
  pub start : g.start ≡ node f.start (used address none f.start)
  pub kind : {v : ℕ} {u : Numbers} → Good v u → g.kind (node v u) ≡ f.kind v
  pub ways : {v : ℕ} {u : Numbers} → Good v u → f.kind v ≡ 1 → Ways f address C node (Loses h) v u (g.next (node v u)) (g.other (node v u))
  pub entry : {v : ℕ} {u : Numbers} → Good v u → f.kind v ≡ 3 → g.entry (node v u) ≡ f.entry v
  pub first : {v : ℕ} {u : Numbers} → Good v u → f.kind v ≡ 3 → g.from (g.entry (node v u)) ≡ node (f.from (f.entry v)) (used address none (f.from (f.entry v)))
  pub past : {v : ℕ} {u : Numbers} → Good v u → f.kind v ≡ 3 → Led address C node u (after f K v) (node v u) (after g L (node v u))

-- the nodes of a place stand together, by the numbers that weigh there; a node is of one place, and tells these numbers
pub record Nodes (f : Flow) (K : ℕ → Bool) (address : ℕ → ℕ) (C : List Count) (Good : ℕ → Numbers → Type 0) (node : ℕ → Numbers → ℕ) : Type 0 where
  pub one : {v w : ℕ} {u t : Numbers} → Good v u → Good w t → node v u ≡ node w t → v ≡ w
  pub numbers : {v : ℕ} {u t : Numbers} → Good v u → Good v t → node v u ≡ node v t → (c : Count) → Member c C → Weighs f K address v c → u c.at ≡ t c.at

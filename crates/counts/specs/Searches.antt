-- Flows by which code finds which counts weigh, on the places with R. No answer's meaning rests on it.
use Rattle.std.specs.Prelude.{◌≡◌, Bool, false, ℕ}
use Rattle.graph.specs.Graph.{Edge}
use Rattle.routines.specs.Calling.{Flow, after}
use Rattle.counts.specs.Weights.{steps}

-- h is f with its calls stepped over
pub record Stepped (f : Flow) (K : ℕ → Bool) (R : ℕ → Type 0) (h : Flow) : Type 0 where
  pub inside : (v w : ℕ) → R v → Edge (steps f K) v w → R w
  pub on : (v : ℕ) → R v → f.kind v ≡ 1 → (h.kind v ≡ 1) × (h.next v ≡ f.next v) × (h.other v ≡ f.other v)
  pub call : (v : ℕ) → R v → f.kind v ≡ 3 → (h.kind v ≡ 1) × (h.next v ≡ after f K v) × (h.other v ≡ after f K v)
  pub end : (v : ℕ) → R v → (f.kind v ≡ 1 → ⊥) → (f.kind v ≡ 3 → ⊥) → (h.kind v ≡ 1 → ⊥) × (h.kind v ≡ 3 → ⊥)

-- s is so, with the places at an address as RETs at unknown places, and no others
pub record Seeded (f : Flow) (K : ℕ → Bool) (address : ℕ → ℕ) (R : ℕ → Type 0) (at : ℕ) (s : Flow) : Type 0 where
  pub inside : (v w : ℕ) → R v → Edge (steps f K) v w → R w
  pub there : (v : ℕ) → R v → address v ≡ at → (s.kind v ≡ 4) × (s.known v ≡ false)
  pub on : (v : ℕ) → R v → (address v ≡ at → ⊥) → f.kind v ≡ 1 → (s.kind v ≡ 1) × (s.next v ≡ f.next v) × (s.other v ≡ f.other v)
  pub call : (v : ℕ) → R v → (address v ≡ at → ⊥) → f.kind v ≡ 3 → (s.kind v ≡ 1) × (s.next v ≡ after f K v) × (s.other v ≡ after f K v)
  pub end : (v : ℕ) → R v → (address v ≡ at → ⊥) → (f.kind v ≡ 1 → ⊥) → (f.kind v ≡ 3 → ⊥) → s.kind v ≡ 0

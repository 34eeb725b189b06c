-- Which counts weigh, by searches: forwards in a flow whose calls are stepped over, and backwards from the places at an address, which are made ends.
use mathlib.Core.Path.{◌≡◌, refl, sym, ◌∙◌}
use mathlib.Core.Logic.{◌⊎◌, inl, inr, ⊎_elim}
use mathlib.Core.Bool.{Bool}
use Prim.Native.Nat.{ℕ}
use native.Mathlib.Omega.{arith}
use native.Mathlib.Decide.{ℕ_discrete}
use Rattle.graph.specs.Graph.{Edge, Reach, here, step}
use Rattle.routines.specs.Calling.{Flow, outer, after, unknown}
use Rattle.routines.specs.Losing.{Loses, returns, by_next, by_other, past_known, past_unknown}
use Rattle.routines.proofs.Within.{edge_on, edge-call, edge-cases}
use Rattle.counts.specs.Weights.{steps}
use Rattle.counts.specs.Searches.{Stepped, Seeded}

module _ {f : Flow} {K : ℕ → Bool} {R : ℕ → Type 0} {h : Flow} (a : Stepped f K R h) where
  step-to : (v w : ℕ) → R v → Edge (steps f K) v w → Edge (steps h unknown) v w
  step-to v w x e = go (edge-cases f K outer e)
    where
      go : ((f.kind v ≡ 1) × ((w ≡ f.next v) ⊎ (w ≡ f.other v))) ⊎ ((f.kind v ≡ 3) × (w ≡ after f K v)) → Edge (steps h unknown) v w
      go (inl (k, n)) = let y = a.on v x k in edge_on h unknown outer y.0 (⊎_elim (λ z. inl (z ∙ sym y.1)) (λ z. inr (z ∙ sym y.2)) n)
      go (inr (k, n)) = let y = a.call v x k in edge_on h unknown outer y.0 (inl (n ∙ sym y.1))

  step_back : (v w : ℕ) → R v → Edge (steps h unknown) v w → Edge (steps f K) v w
  step_back v w x e = go (edge-cases h unknown outer e) (ℕ_discrete (f.kind v) 1) (ℕ_discrete (f.kind v) 3)
    where
      go : ((h.kind v ≡ 1) × ((w ≡ h.next v) ⊎ (w ≡ h.other v))) ⊎ ((h.kind v ≡ 3) × (w ≡ after h unknown v)) → Dec (f.kind v ≡ 1) → Dec (f.kind v ≡ 3) → Edge (steps f K) v w
      go (inl (k, n)) (yes d) t = let y = a.on v x d in edge_on f K outer d (⊎_elim (λ z. inl (z ∙ y.1)) (λ z. inr (z ∙ y.2)) n)
      go (inl (k, n)) (no d) (yes t) = let y = a.call v x t in rw (⊎_elim (λ z. z ∙ y.1) (λ z. z ∙ y.2) n) (edge-call f K outer t)
      go (inl (k, n)) (no d) (no t) = absurd ((a.end v x d t).0 k)
      go (inr (k, n)) (yes d) t = let y = a.on v x d in absurd (omega (arith, k, y.0))
      go (inr (k, n)) (no d) (yes t) = let y = a.call v x t in absurd (omega (arith, k, y.0))
      go (inr (k, n)) (no d) (no t) = absurd ((a.end v x d t).1 k)

  -- the same is reached
  pub reach-to : {v w : ℕ} → R v → Reach (steps f K) v w → Reach (steps h unknown) v w
  reach-to x here = here
  reach-to x (step {u} {v} e q) = step (step-to u v x e) (reach-to (a.inside u v x e) q)

  pub reach-back : {v w : ℕ} → R v → Reach (steps h unknown) v w → Reach (steps f K) v w
  reach-back x here = here
  reach-back x (step {u} {v} e q) = let d = step_back u v x e in step d (reach-back (a.inside u v x d) q)

module _ {f : Flow} {K : ℕ → Bool} {address : ℕ → ℕ} {R : ℕ → Type 0} {at : ℕ} {s : Flow} (a : Seeded f K address R at s) where
  -- a place at the address is reached
  abbrev Comes : ℕ → Type 0
  Comes v = (q : ℕ) × (address q ≡ at) × Reach (steps f K) v q

  by : (v w : ℕ) → Edge (steps f K) v w → Comes w → Comes v
  by v w e (q, z, p) = (q, z, step e p)

  -- how a place that is not at the address is left
  data Left (v : ℕ) : Type 0 where
    on : (s.kind v ≡ 1) → ((w : ℕ) → (w ≡ s.next v) ⊎ (w ≡ s.other v) → Edge (steps f K) v w) → Left v
    out : s.kind v ≡ 0 → Left v

  left : (v : ℕ) → R v → (address v ≡ at → ⊥) → Left v
  left v x n = go (ℕ_discrete (f.kind v) 1) (ℕ_discrete (f.kind v) 3)
    where
      go : Dec (f.kind v ≡ 1) → Dec (f.kind v ≡ 3) → Left v
      go (yes d) t = let y = a.on v x n d in Left.on y.0 (λ w e. edge_on f K outer d (⊎_elim (λ z. inl (z ∙ y.1)) (λ z. inr (z ∙ y.2)) e))
      go (no d) (yes t) = let y = a.call v x n t in Left.on y.0 (λ w e. rw (⊎_elim (λ z. z ∙ y.1) (λ z. z ∙ y.2) e) (edge-call f K outer t))
      go (no d) (no t) = Left.out (a.end v x n d t)

  -- it has no call
  no_call : {v : ℕ} → R v → s.kind v ≡ 3 → Comes v
  no_call {v} x k = go (ℕ_discrete (address v) at)
    where
      not_left : Left v → Comes v
      not_left (Left.on z q) = absurd (omega (arith, z, k))
      not_left (Left.out z) = absurd (omega (arith, z, k))

      go : Dec (address v ≡ at) → Comes v
      go (yes d) = (v, d, here)
      go (no d) = not_left (left v x d)

  pub seeded-so : {v : ℕ} → R v → Loses s v → Comes v
  seeded-so {v} x (returns k e) = go (ℕ_discrete (address v) at)
    where
      not_left : Left v → Comes v
      not_left (Left.on z q) = absurd (omega (arith, z, k))
      not_left (Left.out z) = absurd (omega (arith, z, k))

      go : Dec (address v ≡ at) → Comes v
      go (yes d) = (v, d, here)
      go (no d) = not_left (left v x d)
  seeded-so {v} x (by_next k d) = go (ℕ_discrete (address v) at) (λ y. seeded-so y d)
    where
      on-left : Left v → (R (s.next v) → Comes (s.next v)) → Comes v
      on-left (Left.on z q) ih = let e = q (s.next v) (inl refl) in by v (s.next v) e (ih (a.inside v (s.next v) x e))
      on-left (Left.out z) ih = absurd (omega (arith, z, k))

      go : Dec (address v ≡ at) → (R (s.next v) → Comes (s.next v)) → Comes v
      go (yes e) ih = (v, e, here)
      go (no e) ih = on-left (left v x e) ih
  seeded-so {v} x (by_other k d) = go (ℕ_discrete (address v) at) (λ y. seeded-so y d)
    where
      on-left : Left v → (R (s.other v) → Comes (s.other v)) → Comes v
      on-left (Left.on z q) ih = let e = q (s.other v) (inr refl) in by v (s.other v) e (ih (a.inside v (s.other v) x e))
      on-left (Left.out z) ih = absurd (omega (arith, z, k))

      go : Dec (address v ≡ at) → (R (s.other v) → Comes (s.other v)) → Comes v
      go (yes e) ih = (v, e, here)
      go (no e) ih = on-left (left v x e) ih
  seeded-so {v} x (past_known k d) = no_call x k
  seeded-so {v} x (past_unknown k d d') = no_call x k

  pub seeded-back : {v q : ℕ} → R v → address q ≡ at → Reach (steps f K) v q → Loses s v
  seeded-back {v} x e here = let y = a.there v x e in returns y.0 y.1
  seeded-back {q = q} x e (step {u} {v} d p) = go (ℕ_discrete (address u) at) (seeded-back (a.inside u v x d) e p)
    where
      on : ((f.kind u ≡ 1) × ((v ≡ f.next u) ⊎ (v ≡ f.other u))) ⊎ ((f.kind u ≡ 3) × (v ≡ after f K u)) → (address u ≡ at → ⊥) → Loses s v → Loses s u
      on (inl (k, inl n)) z ih = let y = a.on u x z k in by_next y.0 (rw (y.1 ∙ sym n) ih)
      on (inl (k, inr n)) z ih = let y = a.on u x z k in by_other y.0 (rw (y.2 ∙ sym n) ih)
      on (inr (k, n)) z ih = let y = a.call u x z k in by_next y.0 (rw (y.1 ∙ sym n) ih)

      go : Dec (address u ≡ at) → Loses s v → Loses s u
      go (yes z) ih = let y = a.there u x z in returns y.0 y.1
      go (no z) ih = on (edge-cases f K outer d) z ih

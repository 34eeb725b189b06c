-- What is reachable with some SF known after calls is reachable with none known, up to what is known at it: so are the calls and the routines.
use mathlib.Core.Path.{◌≡◌, refl, sym, ◌∙◌}
use mathlib.Core.Logic.{◌⊎◌, inl, inr, ⊎_elim}
use mathlib.Core.Bool.{Bool, true, false}
use Prim.Native.Nat.{ℕ}
use Rattle.laws.specs.Choice.{pick}
use Rattle.graph.specs.Graph.{Edge, Reach, here, step}
use Rattle.routines.specs.Calling.{Flow, Routine, called, start_in, unknown, after, within, Live, handler, call, Plus, once, more, Calls, Recurs}
use Rattle.routines.specs.Shape.{Narrower, Widens}
use Rattle.routines.proofs.Within.{edge-cases, edge_on, edge-call}

same_ways : (f : Flow) (v : ℕ) → Narrower f v v
same_ways f v = record { kind = refl; next = λ k. inl refl; other = λ k. inr refl; entry = λ k. refl; unknown_after = λ k. refl; known_after = λ k. refl }

module _ (f : Flow) (widens : Widens f) (K : ℕ → Bool) where
  -- past a call
  after-narrower : (u w : ℕ) → f.kind u ≡ 3 → Narrower f u w → Narrower f (after f K u) (after f unknown w)
  unfolding after
  after-narrower u w k a = go (K (f.entry u))
    where
      go : (b : Bool) → Narrower f (pick b (f.other u) (f.next u)) (f.next w)
      go true = rw (← a.unknown_after k) (widens.at_call u k)
      go false = rw (a.unknown_after k) (same_ways f (f.next w))

  Wider : Routine → ℕ → ℕ → Type 0
  Wider r v t = (w : ℕ) × Reach (within f unknown r) t w × Narrower f v w

  -- one step: what is narrower than t goes on to what is narrower than a place after t
  wide_step : (r : Routine) {s x t : ℕ} → Edge (within f K r) s x → Narrower f s t → (t' : ℕ) × Edge (within f unknown r) t t' × Narrower f x t'
  wide_step r {s} {x} {t} e a = go (edge-cases f K r e)
    where
      go : ((f.kind s ≡ 1) × ((x ≡ f.next s) ⊎ (x ≡ f.other s))) ⊎ ((f.kind s ≡ 3) × (x ≡ after f K s)) → (t' : ℕ) × Edge (within f unknown r) t t' × Narrower f x t'
      go (inl (k, n)) = (x, edge_on f unknown r (sym a.kind ∙ k) (⊎_elim (λ h. ⊎_elim (λ m. inl (h ∙ m)) (λ m. inr (h ∙ m)) (a.next k)) (λ h. ⊎_elim (λ m. inl (h ∙ m)) (λ m. inr (h ∙ m)) (a.other k)) n), same_ways f x)
      go (inr (k, c)) = (after f unknown t, edge-call f unknown r (sym a.kind ∙ k), rw c (after-narrower s t k a))

  wide-reach : (r : Routine) {s v : ℕ} → Reach (within f K r) s v → (t : ℕ) → Narrower f s t → Wider r v t
  unfolding Wider
  wide-reach r here t a = (t, here, a)
  wide-reach r (step e q) t a =
      let n = wide_step r e a in
      let w = wide-reach r q n.0 n.2 in
      (w.0, step n.1 w.1, w.2)

  pub wide-calls : (d e : ℕ) → Calls f K d e → Calls f unknown d e
  unfolding Wider
  wide-calls d e (v, i, k, n) =
      let w = wide-reach (called d) i (f.from d) (same_ways f (f.from d)) in
      (w.0, w.1, sym w.2.kind ∙ k, sym (w.2.entry k) ∙ n)

  pub wide-live : {r : Routine} → Live f K r → Live f unknown r
  unfolding Wider
  wide-live handler = handler
  wide-live (call {r} {v} l i k) =
      let w = wide-reach r i (start_in f r) (same_ways f (start_in f r)) in
      rw (w.2.entry k) (call (wide-live l) w.1 (sym w.2.kind ∙ k))

  wide-plus : {d e : ℕ} → Plus (Calls f K) d e → Plus (Calls f unknown) d e
  wide-plus (once {a} {b} c) = once (wide-calls a b c)
  wide-plus (more {a} {b} c p) = more (wide-calls a b c) (wide-plus p)

  -- a routine that recurs, recurs in the wide judgement
  pub wide-recurs : (e : ℕ) → Live f K (called e) → Plus (Calls f K) e e → Recurs f e
  wide-recurs e l p = (wide-live l, wide-plus p)

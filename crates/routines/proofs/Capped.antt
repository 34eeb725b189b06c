-- Capped sums are exact where the handler's is below the cap; and where it is not, a path costs as much as the cap.
use mathlib.Core.Path.{◌≡◌, refl, sym, ◌∙◌}
use mathlib.Core.Logic.{◌⊎◌, inl, inr}
use mathlib.Core.Bool.{Bool}
use mathlib.Core.List.{List, [], ◌∷◌}
use Prim.Native.Nat.{ℕ, ◌+◌, ◌≤◌, ◌<◌, max}
use native.Mathlib.Omega.{arith}
use native.Mathlib.Decide.{dec_le}
use Rattle.graph.specs.Graph.{Reach, here, step, sum}
use Rattle.graph.proofs.Reach.{reach_snoc}
use Rattle.routines.specs.Calling as calling
use Rattle.routines.specs.Calling.{Flow, Routine, outer, called, end_of, start_in, after, within, In, Live, handler, call, Path, HandlerPath}
use Rattle.routines.proofs.Within.{edge-cases, edge_on, edge-call}
use Rattle.routines.proofs.Done.{Done}
use Rattle.routines.specs.Sums.{sum_in, Value, Sums}
use Rattle.routines.specs.Capped.{CappedValue, Capped}

module _ (f : Flow) (K : ℕ → Bool) (cycles : ℕ → ℕ) (cap : ℕ) (inn out : ℕ → ℕ) (capped : Capped f K cycles cap inn out) where
  -- below the cap the sum is exact
  exact-at : (r : Routine) (v : ℕ) → CappedValue f K cycles cap inn out r v → sum_in inn out r v < cap → Value f K cycles inn out r v
  exact-at r v (CappedValue.ends k e) h = Value.ends k (omega arith)
  exact-at r v (CappedValue.forks k e) h = Value.forks k (omega arith)
  exact-at r v (CappedValue.calls k e) h = Value.calls k (omega arith)

  end-kinds : (r : Routine) → (end_of r ≡ 1 → ⊥) × (end_of r ≡ 3 → ⊥)
  end-kinds outer = (λ e. omega arith, λ e. omega arith)
  end-kinds (called d) = (λ e. omega arith, λ e. omega arith)

  -- and so are the sums after it
  below_on : (r : Routine) (v w : ℕ) → Value f K cycles inn out r v → sum_in inn out r v < cap
      → ((f.kind v ≡ 1) × ((w ≡ f.next v) ⊎ (w ≡ f.other v))) ⊎ ((f.kind v ≡ 3) × (w ≡ after f K v)) → sum_in inn out r w < cap
  below_on r v w (Value.ends k e) h (inl (c, n)) = absurd ((end-kinds r).0 (sym k ∙ c))
  below_on r v w (Value.ends k e) h (inr (c, n)) = absurd ((end-kinds r).1 (sym k ∙ c))
  below_on r v w (Value.forks k e) h (inl (c, inl n)) = rw n (omega arith)
  below_on r v w (Value.forks k e) h (inl (c, inr n)) = rw n (omega arith)
  below_on r v w (Value.forks k e) h (inr (c, n)) = absurd (omega arith)
  below_on r v w (Value.calls k e) h (inl (c, n)) = absurd (omega arith)
  below_on r v w (Value.calls k e) h (inr (c, n)) = rw n (omega arith)

  below-reach : {r : Routine} {u v : ℕ} → Live f K r → Reach (within f K r) (start_in f r) u → sum_in inn out r u < cap → Reach (within f K r) u v → sum_in inn out r v < cap
  below-reach l i h here = h
  below-reach {r} {u} l i h (step {v = w} e q) = below-reach l (reach_snoc i e) (below_on r u w (exact-at r u (capped.value r u l i) h) h (edge-cases f K r e)) q

  module _ (start : out f.start < cap) where
    below-start : {r : Routine} → Live f K r → sum_in inn out r (start_in f r) < cap
    below-start handler = start
    below-start (call {r} {v} l i k) = let h = below-reach l here (below-start l) i in go (exact-at r v (capped.value r v l i) h) h
      where
        go : Value f K cycles inn out r v → sum_in inn out r v < cap → inn (f.from (f.entry v)) < cap
        go (Value.ends z e) h = absurd ((end-kinds r).1 (sym z ∙ k))
        go (Value.forks z e) h = absurd (omega arith)
        go (Value.calls z e) h = omega arith

    -- the handler's sum is below the cap: all sums are exact
    pub exact : Sums f K cycles inn out
    exact = record { value = λ r v l i. exact-at r v (capped.value r v l i) (below-reach l here (below-start l) i) }

  -- what comes after the routine costs at least B
  data Rest : Routine → List ℕ → ℕ → Type 0 where
    nothing : Rest outer [] 0
    goes_on : {e w B : ℕ} {ks l : List ℕ} → Path f K ks w l → B ≤ sum cycles l → Rest (called e) (w ∷ ks) B

  most-end : (r : Routine) (v : ℕ) → CappedValue f K cycles cap inn out r v → f.kind v ≡ end_of r → sum_in inn out r v ≤ cycles v
  most-end r v (CappedValue.ends z e) k = omega arith
  most-end r v (CappedValue.forks z e) k = absurd ((end-kinds r).0 (sym k ∙ z))
  most-end r v (CappedValue.calls z e) k = absurd ((end-kinds r).1 (sym k ∙ z))

  most-fork : (r : Routine) (v : ℕ) → CappedValue f K cycles cap inn out r v → f.kind v ≡ 1 → sum_in inn out r v ≤ cycles v + max (sum_in inn out r (f.next v)) (sum_in inn out r (f.other v))
  most-fork r v (CappedValue.ends z e) k = absurd ((end-kinds r).0 (sym z ∙ k))
  most-fork r v (CappedValue.forks z e) k = omega arith
  most-fork r v (CappedValue.calls z e) k = absurd (omega arith)

  most-call : (r : Routine) (v : ℕ) → CappedValue f K cycles cap inn out r v → f.kind v ≡ 3 → sum_in inn out r v ≤ cycles v + (inn (f.from (f.entry v)) + sum_in inn out r (after f K v))
  most-call r v (CappedValue.ends z e) k = absurd ((end-kinds r).1 (sym z ∙ k))
  most-call r v (CappedValue.forks z e) k = absurd (omega arith)
  most-call r v (CappedValue.calls z e) k = omega arith

  -- a path costs at least what the sums say
  enough : {r : Routine} {v B : ℕ} {ks : List ℕ} → Done f K r v → Live f K r → Reach (within f K r) (start_in f r) v → Rest r ks B → (l : List ℕ) × Path f K ks v l × (sum_in inn out r v + B ≤ sum cycles l)
  unfolding sum
  enough {r} {v} (Done.ends k) l i nothing = (v ∷ [], calling.Path.rti k, omega (arith, most-end r v (capped.value r v l i) k))
  enough {r} {v} (Done.ends k) l i (goes_on {l = t} p h) = (v ∷ t, calling.Path.ret k p, omega (arith, most-end r v (capped.value r v l i) k))
  enough {r} {v} {B} {ks} (Done.goes k a b) l i rest =
      go (enough a l (reach_snoc i (edge_on f K r k (inl refl))) rest) (enough b l (reach_snoc i (edge_on f K r k (inr refl))) rest)
      (dec_le (sum_in inn out r (f.next v)) (sum_in inn out r (f.other v))) (most-fork r v (capped.value r v l i) k)
    where
      go : ((l : List ℕ) × Path f K ks (f.next v) l × (sum_in inn out r (f.next v) + B ≤ sum cycles l)) → ((l : List ℕ) × Path f K ks (f.other v) l × (sum_in inn out r (f.other v) + B ≤ sum cycles l))
          → Dec (sum_in inn out r (f.next v) ≤ sum_in inn out r (f.other v)) → sum_in inn out r v ≤ cycles v + max (sum_in inn out r (f.next v)) (sum_in inn out r (f.other v))
          → (l : List ℕ) × Path f K ks v l × (sum_in inn out r v + B ≤ sum cycles l)
      go x y (yes h) m = (v ∷ y.0, calling.Path.goes k (inr refl) y.1, omega (arith, y.2))
      go x y (no h) m = (v ∷ x.0, calling.Path.goes k (inl refl) x.1, omega (arith, x.2))
  enough {r} {v} {B} {ks} (Done.calls k a b) l i rest =
      let x = enough b l (reach_snoc i (edge-call f K r k)) rest in
      let y = enough a (call l i k) here (goes_on x.1 x.2) in
      (v ∷ y.0, calling.Path.calls k y.1, omega (arith, y.2, most-call r v (capped.value r v l i) k))

  -- 25: where the handler's sum is at the cap, a path costs as much
  pub costs-cap : Done f K outer f.start → (l : List ℕ) × HandlerPath f K l × (out f.start ≤ sum cycles l)
  costs-cap d = let x = enough d handler here nothing in (x.0, x.1, omega (arith, x.2))

-- A graph that goes the ways of a flow: a call leads to where its routine starts and to where it goes on. Words by number are such a graph, where nothing excluded is reached.
use mathlib.Core.Path.{◌≡◌, sym, ◌∙◌}
use mathlib.Core.Bool.{Bool}
use mathlib.Core.List.{List}
use Prim.Native.Nat.{ℕ, ◌<◌}
use native.Mathlib.Omega.{arith}
use Rattle.graph.specs.Graph.{Graph}
use Rattle.routines.specs.Calling.{Flow, Routine, outer, called, end_of, unknown, after, In, Live, IsBad}
use Rattle.routines.proofs.Within.{Kind, kind_of, out-excluded}
use Rattle.routines.proofs.Done.{in-lt}
use Rattle.routines_numbered.specs.Packed.{nodes_in}
use Rattle.routines_joined.specs.Words.{flow_at, Laid, NodeIs}
use Rattle.routines_joined.proofs.Nodes.{small}
use Rattle.routines_sums.specs.Ways.{ways_in}
use Rattle.routines_sums.proofs.Settling.{way_on, way-call, way-ret}

pub data WayIs (f : Flow) (K : ℕ → Bool) (g : Graph) (r : Routine) (v : ℕ) : Type 0 where
  on : f.kind v ≡ 1 → NodeIs g v 1 (f.next v) (f.other v) → WayIs f K g r v
  call : f.kind v ≡ 3 → NodeIs g v 3 (f.from (f.entry v)) (after f K v) → WayIs f K g r v
  end : f.kind v ≡ end_of r → g.kind v ≡ 2 → WayIs f K g r v

abbrev pub Ways : Flow → (ℕ → Bool) → Graph → Type 0
Ways f K g = (r : Routine) (v : ℕ) → Live f K r → In f K r v → WayIs f K g r v

module _ (x m : List ℕ) {n : ℕ} (laid : Laid x m n) (first : (v : ℕ) → v < n → (nodes_in x v).kind ≡ 3 → (flow_at x m).from ((flow_at x m).entry v) ≡ (nodes_in x v).into) where
  on-way : (v : ℕ) → (flow_at x m).kind v ≡ 1 → NodeIs (ways_in x) v 1 ((flow_at x m).next v) ((flow_at x m).other v)
  unfolding flow_at
  on-way v k = let w = way_on x v (λ e. omega (arith, k, e)) (λ e. omega (arith, k, e)) in record { kind = sym k ∙ w.kind; next = w.next; other = w.other }

  call-way : (v : ℕ) → v < n → (flow_at x m).kind v ≡ 3 → NodeIs (ways_in x) v 3 ((flow_at x m).from ((flow_at x m).entry v)) (after (flow_at x m) unknown v)
  unfolding flow_at after
  call-way v h k = let w = way-call x v k in record { kind = w.kind; next = first v h k ∙ w.next; other = w.other }

  end-way : (r : Routine) (v : ℕ) → (flow_at x m).kind v ≡ end_of r → (ways_in x).kind v ≡ 2
  unfolding flow_at
  end-way outer v k = sym (way_on x v (λ e. omega (arith, k, e)) (λ e. omega (arith, k, e))).kind ∙ k
  end-way (called e) v k = sym (way-ret x v k).kind

  pub ways-of : ((v : ℕ) → IsBad (flow_at x m) unknown v → ⊥) → Ways (flow_at x m) unknown (ways_in x)
  ways-of no_bad r v l i = go (kind_of (flow_at x m) v (end_of r))
    where
      go : Kind (flow_at x m) v (end_of r) → WayIs (flow_at x m) unknown (ways_in x) r v
      go (Kind.on k) = on k (on-way v k)
      go (Kind.call k) = call k (call-way v (in-lt (flow_at x m) unknown (small x m laid) l i) k)
      go (Kind.end k) = end k (end-way r v k)
      go (Kind.out a b c) = absurd (no_bad v (r, l, i, out-excluded (flow_at x m) unknown r v a b c))

-- what the graph's kind says of a reached place
module _ {f : Flow} {K : ℕ → Bool} {g : Graph} {r : Routine} {v : ℕ} where
  pub is-on : WayIs f K g r v → g.kind v ≡ 1 → (f.kind v ≡ 1) × NodeIs g v 1 (f.next v) (f.other v)
  is-on (on k w) e = (k, w)
  is-on (call k w) e = absurd (omega (arith, w.kind, e))
  is-on (end k w) e = absurd (omega (arith, w, e))

  pub is_call : WayIs f K g r v → g.kind v ≡ 3 → (f.kind v ≡ 3) × NodeIs g v 3 (f.from (f.entry v)) (after f K v)
  is_call (on k w) e = absurd (omega (arith, w.kind, e))
  is_call (call k w) e = (k, w)
  is_call (end k w) e = absurd (omega (arith, w, e))

  pub is-end : WayIs f K g r v → g.kind v ≡ 2 → f.kind v ≡ end_of r
  is-end (on k w) e = absurd (omega (arith, w.kind, e))
  is-end (call k w) e = absurd (omega (arith, w.kind, e))
  is-end (end k w) e = k

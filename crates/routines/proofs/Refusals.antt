-- In the joined graph is reached what is reachable in the reachable routines: so 24, 21 and 22 are its lowest repetition and its lowest excluded place.
use mathlib.Core.Path.{◌≡◌, refl, sym, ap, ◌∙◌}
use mathlib.Core.Logic.{◌⊎◌, inl, inr, ⊎_elim}
use mathlib.Core.Bool.{Bool}
use Prim.Native.Nat.{ℕ, ◌-◌, ◌/◌, ◌≤◌, ◌<◌}
use native.Mathlib.Omega.{arith}
use Rattle.graph.specs.Graph.{Edge, Reach, here, step, ReachPlus, Bad, Loops, Least}
use Rattle.graph.proofs.Reach.{reach_snoc, reach_trans, reach_in}
use Rattle.routines.specs.Calling.{Flow, Routine, outer, called, start_in, unknown, within, In, Live, handler, call, Plus, once, more, Calls, Recurs, IsBad}
use Rattle.routines.specs.Shape.{Small}
use Rattle.routines.specs.Answer.{LowestAddress}
use Rattle.routines.proofs.Done.{in-lt}
use Rattle.routines.specs.Joined.{code, place_of, joined}
use Rattle.routines.proofs.Edges.{code_above, place_code, entry-goes, edge-over, edge_in, edge-from, edge-parts, edge-of-entry, excluded-code, excluded-place}

-- an entry of a reachable routine, or a place that is reachable in one
pub data Stands (f : Flow) (K : ℕ → Bool) (E x : ℕ) : Type 0 where
  entry : Live f K (called x) → Stands f K E x
  place : (r : Routine) (v : ℕ) → x ≡ code E r v → Live f K r → In f K r v → Stands f K E x

pub lower : (E x : ℕ) (r : Routine) (v c : ℕ) → E ≤ x → x ≤ code E r v → v / 2 ≡ c → (x - E) / 2 / 2 ≤ c
lower E x outer v c a b e = omega arith
lower E x (called d) v c a b e = omega arith

module _ (f : Flow) (K : ℕ → Bool) (E : ℕ) where
  pub reach-over : (r : Routine) {u v : ℕ} → Reach (within f K r) u v → Reach (joined f K E) (code E r u) (code E r v)
  reach-over r here = here
  reach-over r (step {u} {v} e q) = step (edge-over f K E r u v e) (reach-over r q)

  module _ {n : ℕ} (small : Small f n E) where
    pub entry_lt : {e : ℕ} → Live f K (called e) → e < E
    entry_lt (call {v = v} l i k) = small.entry v (in-lt f K small l i)

    -- the start of a reachable routine is reached, and so is its entry
    start-reached : {r : Routine} → Live f K r → Reach (joined f K E) (code E outer f.start) (code E r (start_in f r))
    start-reached handler = here
    start-reached (call {r} {v} l i k) =
        reach_snoc (reach_snoc (reach_trans (start-reached l) (reach-over r i)) (edge_in f K E r v k)) (edge-from f K E (f.entry v) (f.entry v) (small.entry v (in-lt f K small l i)))

    entry-reached : {e : ℕ} → Live f K (called e) → Reach (joined f K E) (code E outer f.start) e
    entry-reached (call {r} {v} l i k) = reach_snoc (reach_trans (start-reached l) (reach-over r i)) (edge_in f K E r v k)

    pub place-reached : {r : Routine} {v : ℕ} → Live f K r → Reach (within f K r) (start_in f r) v → Reach (joined f K E) (code E outer f.start) (code E r v)
    place-reached {r} l i = reach_trans (start-reached l) (reach-over r i)

    -- what is reached is an entry or a place of a reachable routine
    stands_on : (x y : ℕ) → Stands f K E x → Edge (joined f K E) x y → Stands f K E y
    stands_on x y (entry l) e = place (called x) (f.from x) (edge-of-entry f K E x x y (entry_lt l) e) l here
    stands_on x y (place r v q l i) e = go (edge-parts f K E r v y (rw q at e))
      where
        go : ((w : ℕ) × Edge (within f K r) v w × (y ≡ code E r w)) ⊎ ((f.kind v ≡ 3) × (y ≡ f.entry v)) → Stands f K E y
        go (inl (w, d, z)) = place r w z l (reach_snoc i d)
        go (inr (k, z)) = entry (rw z (call l i k))

    pub reached : {x : ℕ} → Reach (joined f K E) (code E outer f.start) x → Stands f K E x
    reached q = reach_in (Stands f K E) stands_on q (place outer f.start refl handler here)

    -- 21
    pub bad-code : (v : ℕ) (b : IsBad f K v) → Bad (joined f K E) (code E outer f.start) (code E b.0 v)
    bad-code v (r, l, i, x) = (place-reached l i, excluded-code f K E r v x)

    pub bad-place : (x : ℕ) → Bad (joined f K E) (code E outer f.start) x → (r : Routine) × (v : ℕ) × (x ≡ code E r v) × IsBad f K v
    bad-place x (q, ex) = go (reached q)
      where
        go : Stands f K E x → (r : Routine) × (v : ℕ) × (x ≡ code E r v) × IsBad f K v
        go (entry l) = absurd (ex.not_on (entry-goes f K E x (entry_lt l)))
        go (place r v z l i) = (r, v, z, (r, l, i, excluded-place f K E r v (rw z at ex)))

    pub no_bad : ((x : ℕ) → Bad (joined f K E) (code E outer f.start) x → ⊥) → (v : ℕ) → IsBad f K v → ⊥
    no_bad h v b = h (code E b.0 v) (bad-code v b)

    pub lowest-bad : (x : ℕ) → Least (Bad (joined f K E) (code E outer f.start)) x → LowestAddress (λ v. v / 2) (IsBad f K) (place_of E x / 2)
    lowest-bad x a =
        let b = bad-place x a.holds in
        record {
          holds = (b.1, b.3, ap (λ (y : ℕ). y / 2) (sym (place_code E b.0 b.1) ∙ ap (λ (y : ℕ). place_of E y) (sym b.2)));
          least = λ c (v, d, e). lower E x d.0 v c (rw b.2 (code_above E b.0 b.1)) (a.least (code E d.0 v) (bad-code v d)) e;
        }

    -- 24: an entry is reached from itself where its routine reaches a call of itself
    calls-reach : {d e : ℕ} → Live f K (called d) → Calls f K d e → ReachPlus (joined f K E) d e
    calls-reach {d} {e} l (v, i, k, z) =
        (code E (called d) (f.from d), edge-from f K E d d (entry_lt l), reach_snoc (reach-over (called d) i) (rw (← z) (edge_in f K E (called d) v k)))

    plus_reach : {d e : ℕ} → Live f K (called d) → Plus (Calls f K) d e → ReachPlus (joined f K E) d e
    plus_reach l (once c) = calls-reach l c
    plus_reach l (more c p) =
        let a = calls-reach l c in
        let b = plus_reach (rw c.3 at (call l c.1 c.2)) p in
        (a.0, a.1, reach_trans a.2 (step b.1 b.2))

    -- from an entry, and from a place of its routine, to another entry
    Leads : ℕ → ℕ → Type 0
    Leads x e = (Live f K (called x) → (x ≡ e) ⊎ Plus (Calls f K) x e) × ((d v : ℕ) → x ≡ code E (called d) v → Live f K (called d) → In f K (called d) v → Plus (Calls f K) d e)

    leads : {x e : ℕ} → e < E → Reach (joined f K E) x e → Leads x e
    unfolding Leads
    leads {x} lt here = (λ l. inl refl, λ d v z l i. absurd (omega (arith, code_above E (called d) v)))
    leads {x} {e} lt (step {v = y} a q) = go (leads lt q)
      where
        go : Leads y e → Leads x e
        go (by-entry, by_place) = (from-entry, from_place)
          where
            from-entry : Live f K (called x) → (x ≡ e) ⊎ Plus (Calls f K) x e
            from-entry l = inr (by_place x (f.from x) (edge-of-entry f K E x x y (entry_lt l) a) l here)

            from_place : (d v : ℕ) → x ≡ code E (called d) v → Live f K (called d) → In f K (called d) v → Plus (Calls f K) d e
            from_place d v z l i = parts (edge-parts f K E (called d) v y (rw z at a))
              where
                parts : ((w : ℕ) × Edge (within f K (called d)) v w × (y ≡ code E (called d) w)) ⊎ ((f.kind v ≡ 3) × (y ≡ f.entry v)) → Plus (Calls f K) d e
                parts (inl (w, b, q)) = by_place d w q l (reach_snoc i b)
                parts (inr (k, q)) = ⊎_elim (λ h. once (v, i, k, sym q ∙ h)) (λ h. more (v, i, k, sym q) h) (by-entry (rw q (call l i k)))

    pub entry-loops : {e : ℕ} → Live f K (called e) → Plus (Calls f K) e e → Loops (joined f K E) (code E outer f.start) e
    entry-loops l p = (entry-reached l, plus_reach l p)

    pub loops-entry : {e : ℕ} → e < E → Loops (joined f K E) (code E outer f.start) e → Live f K (called e) × Plus (Calls f K) e e
    unfolding Leads
    loops-entry {e} lt (q, (y, a, b)) = go (reached q)
      where
        go : Stands f K E e → Live f K (called e) × Plus (Calls f K) e e
        go (entry l) = (l, (leads lt b).1 e (f.from e) (edge-of-entry f K E e e y lt a) l here)
        go (place r v z l i) = absurd (omega (arith, code_above E r v))

-- 24 is the lowest repetition of the wide graph, where that is an entry
module _ (f : Flow) (E : ℕ) {n : ℕ} (small : Small f n E) where
  pub lowest-recursion : (x : ℕ) → x < E → Least (Loops (joined f unknown E) (code E outer f.start)) x → Least (Recurs f) x
  lowest-recursion x lt a = record {
    holds = loops-entry f unknown E small lt a.holds;
    least = λ e r. a.least e (entry-loops f unknown E small r.0 r.1);
  }

  pub no_recursion : ((x : ℕ) → x < E → Loops (joined f unknown E) (code E outer f.start) x → ⊥) → (e : ℕ) → Recurs f e → ⊥
  no_recursion h e r = h e (entry_lt f unknown E small r.0) (entry-loops f unknown E small r.0 r.1)

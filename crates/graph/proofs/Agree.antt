-- Two graphs that agree at what is reached from s have the same places, paths, longest paths and faults from s.
use mathlib.Core.Path.{◌≡◌, refl, sym, ap₂, ◌∙◌}
use mathlib.Core.Logic.{inl, inr, ⊎_elim}
use mathlib.Core.List.{List}
use Prim.Native.Nat.{ℕ, ◌+◌}
use native.Mathlib.Omega.{arith}
use Rattle.graph.specs.Graph.{Graph, GoesOn, Excluded, Edge, Reach, here, step, Path, ends, goes, sum, Longest, stop, by_next, by_other, next_only, Least, Bad, Loops, Sound}
use Rattle.graph.proofs.Reach.{reach_snoc}
use Rattle.graph.proofs.Unique.{longest_path}

-- what follows matters only where a place goes on, and the cost where it is on a path
pub record Agree (g g' : Graph) (c c' : ℕ → ℕ) (s : ℕ) : Type 0 where
  pub kind : (v : ℕ) → Reach g s v → g.kind v ≡ g'.kind v
  pub next : (v : ℕ) → Reach g s v → GoesOn g v → g.next v ≡ g'.next v
  pub other : (v : ℕ) → Reach g s v → GoesOn g v → g.other v ≡ g'.other v
  pub cost : (v : ℕ) → Reach g s v → (Excluded g v → ⊥) → c v ≡ c' v

module _ {g g' : Graph} {c c' : ℕ → ℕ} {s : ℕ} (a : Agree g g' c c' s) where
  edge_to : {v w : ℕ} → Reach g s v → Edge g v w → Edge g' v w
  edge_to {v} r e = (sym (a.kind v r) ∙ e.0, ⊎_elim (λ x. inl (x ∙ a.next v r e.0)) (λ x. inr (x ∙ a.other v r e.0)) e.1)

  edge-back : {v w : ℕ} → Reach g s v → Edge g' v w → Edge g v w
  edge-back {v} r e =
      let on : GoesOn g v = a.kind v r ∙ e.0 in
      (on, ⊎_elim (λ x. inl (x ∙ sym (a.next v r on))) (λ x. inr (x ∙ sym (a.other v r on))) e.1)

  reach-on : {u w : ℕ} → Reach g s u → Reach g u w → Reach g' u w
  reach-on r here = here
  reach-on r (step e q) = step (edge_to r e) (reach-on (reach_snoc r e) q)

  pub reach-to : {w : ℕ} → Reach g s w → Reach g' s w
  reach-to = reach-on here

  reach-back : {u w : ℕ} → Reach g s u → Reach g' u w → Reach g s w
  reach-back r here = r
  reach-back r (step e q) = reach-back (reach_snoc r (edge-back r e)) q

  pub agree-sym : Agree g' g c' c s
  agree-sym =
      record {
        kind = λ v r. sym (a.kind v (reach-back here r));
        next = λ v r on. let q = reach-back here r in sym (a.next v q (a.kind v q ∙ on));
        other = λ v r on. let q = reach-back here r in sym (a.other v q (a.kind v q ∙ on));
        cost = λ v r in_it.
            let q = reach-back here r in
            let k : g.kind v ≡ g'.kind v = a.kind v q in
            sym (a.cost v q (λ out. in_it (record { not_on = λ e. out.not_on (k ∙ e); not_end = λ e. out.not_end (k ∙ e) })));
      }

  pub path-to : {v : ℕ} {l : List ℕ} → Reach g s v → Path g v l → Path g' v l
  path-to r (ends {v} k) = ends (sym (a.kind v r) ∙ k)
  path-to r (goes e p) = goes (edge_to r e) (path-to (reach_snoc r e) p)

  pub sum_same : {v : ℕ} {l : List ℕ} → Reach g s v → Path g v l → sum c l ≡ sum c' l
  unfolding sum
  sum_same r (ends {v} k) = ap₂ (λ (x y : ℕ). x + y) (a.cost v r (λ out. out.not_end k)) refl
  sum_same r (goes {v} e p) = ap₂ (λ (x y : ℕ). x + y) (a.cost v r (λ out. out.not_on e.0)) (sum_same (reach_snoc r e) p)

  pub bad-to : {v : ℕ} → Bad g s v → Bad g' s v
  bad-to {v} b =
      let k : g.kind v ≡ g'.kind v = a.kind v b.0 in
      (reach-to b.0, record { not_on = λ e. b.1.not_on (k ∙ e); not_end = λ e. b.1.not_end (k ∙ e) })

  pub loops-to : {v : ℕ} → Loops g s v → Loops g' s v
  loops-to b = (reach-to b.0, (b.1.0, edge_to b.0 b.1.1, reach-on (reach_snoc b.0 b.1.1) b.1.2))

module _ {g g' : Graph} {c c' : ℕ → ℕ} {s : ℕ} (a : Agree g g' c c' s) where
  -- a path of the other graph, from a place that both have there
  path-of : {u w : ℕ} {l : List ℕ} → Reach g s u → u ≡ w → Path g' w l → Path g u l × (sum c l ≡ sum c' l)
  path-of {u} {w} {l} r e p =
      let p' : Path g' u l = rw e p in
      let q = path-to (agree-sym a) (reach-to a r) p' in
      (q, sum_same a r q)

  pub longest-to : {v : ℕ} {l : List ℕ} → Reach g s v → Longest g c v l → Longest g' c' v l
  longest-to r (stop {v} k) = stop (sym (a.kind v r) ∙ k)
  longest-to r (by_next {v} k b m) =
      let rn = reach_snoc r (k, inl refl) in
      by_next (sym (a.kind v r) ∙ k) (rw (a.next v r k) at (longest-to rn b)) (λ l' p.
      let q = path-of (reach_snoc r (k, inr refl)) (a.other v r k) p in
      omega (arith, m l' q.0, q.1, sum_same a rn (longest_path b)))
  longest-to r (by_other {v} k b m) =
      let ro = reach_snoc r (k, inr refl) in
      by_other (sym (a.kind v r) ∙ k) (rw (a.other v r k) at (longest-to ro b)) (λ l' p.
      let q = path-of (reach_snoc r (k, inl refl)) (a.next v r k) p in
      omega (arith, m l' q.0, q.1, sum_same a ro (longest_path b)))

  -- the path by next
  next-on : {v : ℕ} {l : List ℕ} → Reach g s v → Path (next_only g) v l → Path (next_only g') v l
  unfolding next_only
  next-on r (ends {v} k) = ends (sym (a.kind v r) ∙ k)
  next-on r (goes {v} {w} e p) =
      let n : w ≡ g.next v = ⊎_elim (λ x. x) (λ x. x) e.1 in
      goes (sym (a.kind v r) ∙ e.0, inl (n ∙ a.next v r e.0)) (next-on (reach_snoc r (e.0, inl n)) p)

  pub next-to : {l : List ℕ} → Path (next_only g) s l → Path (next_only g') s l
  next-to = next-on here

  pub least-bad-to : {v : ℕ} → Least (Bad g s) v → Least (Bad g' s) v
  least-bad-to p = record { holds = bad-to a p.holds; least = λ b q. p.least b (bad-to (agree-sym a) q) }

  pub least-loop-to : {v : ℕ} → Least (Loops g s) v → Least (Loops g' s) v
  least-loop-to p = record { holds = loops-to a p.holds; least = λ b q. p.least b (loops-to (agree-sym a) q) }

  pub sound-to : Sound g s → Sound g' s
  sound-to so = record { no_bad = λ v b. so.no_bad v (bad-to (agree-sym a) b); no_loop = λ v b. so.no_loop v (loops-to (agree-sym a) b) }

-- The way that right sums show is the first of the paths with the largest sum, and that is the sum at the start.
use mathlib.Core.Path.{◌≡◌, refl, sym, ap, ◌∙◌}
use mathlib.Core.Logic.{◌⊎◌, inl, inr, ⊎_elim}
use mathlib.Core.Bool.{Bool}
use mathlib.Core.List.{List, [], ◌∷◌}
use Prim.Native.Nat.{ℕ, ◌+◌, ◌≤◌, max}
use native.Mathlib.Omega.{arith}
use native.Mathlib.Decide.{ℕ_discrete}
use Rattle.graph.specs.Graph.{Reach, here, sum}
use Rattle.graph.proofs.Reach.{reach_snoc}
use Rattle.routines.specs.Calling as calling
use Rattle.routines.specs.Calling.{Flow, Routine, outer, called, end_of, start_in, after, within, Live, handler, call, Path, HandlerPath, Before, turns, later, FirstOf}
use Rattle.routines.proofs.Within.{edge_on, edge-call}
use Rattle.routines.proofs.Done.{Nested, none, inner}
use Rattle.routines.proofs.Exists.{path-head, path-rti, path-ret, path-call, path-on}
use Rattle.routines.specs.Sums.{sum_at, Value, Sums, rest, Turn, Route}

module _ (f : Flow) (K : ℕ → Bool) (cycles inn out : ℕ → ℕ) (sums : Sums f K cycles inn out) where
  -- the value at a place, by the calls that are open
  at_end_lem : {r : Routine} {ks : List ℕ} (v : ℕ) → Nested f K r ks → Value f K cycles inn out r v → f.kind v ≡ end_of r → sum_at inn out ks v ≡ cycles v
  at_end_lem v none (Value.ends k e) h = e
  at_end_lem v none (Value.forks k e) h = absurd (omega arith)
  at_end_lem v none (Value.calls k e) h = absurd (omega arith)
  at_end_lem v (inner n l i c) (Value.ends k e) h = e
  at_end_lem v (inner n l i c) (Value.forks k e) h = absurd (omega arith)
  at_end_lem v (inner n l i c) (Value.calls k e) h = absurd (omega arith)

  at_fork : {r : Routine} {ks : List ℕ} (v : ℕ) → Nested f K r ks → Value f K cycles inn out r v → f.kind v ≡ 1
      → sum_at inn out ks v ≡ cycles v + max (sum_at inn out ks (f.next v)) (sum_at inn out ks (f.other v))
  at_fork v none (Value.ends k e) h = absurd (omega arith)
  at_fork v none (Value.forks k e) h = e
  at_fork v none (Value.calls k e) h = absurd (omega arith)
  at_fork v (inner n l i c) (Value.ends k e) h = absurd (omega arith)
  at_fork v (inner n l i c) (Value.forks k e) h = e
  at_fork v (inner n l i c) (Value.calls k e) h = absurd (omega arith)

  at_call : {r : Routine} {ks : List ℕ} (v : ℕ) → Nested f K r ks → Value f K cycles inn out r v → f.kind v ≡ 3
      → sum_at inn out ks v ≡ cycles v + (inn (f.from (f.entry v)) + sum_at inn out ks (after f K v))
  at_call v none (Value.ends k e) h = absurd (omega arith)
  at_call v none (Value.forks k e) h = absurd (omega arith)
  at_call v none (Value.calls k e) h = e
  at_call v (inner n l i c) (Value.ends k e) h = absurd (omega arith)
  at_call v (inner n l i c) (Value.forks k e) h = absurd (omega arith)
  at_call v (inner n l i c) (Value.calls k e) h = e

  no_more : {r : Routine} {ks : List ℕ} {v : ℕ} {l : List ℕ} → Nested f K r ks → Live f K r → Reach (within f K r) (start_in f r) v → Path f K ks v l → sum cycles l ≤ sum_at inn out ks v + rest inn out ks
  unfolding sum rest
  no_more none live i (calling.Path.rti {v} k) = omega (arith, at_end_lem v none (sums.value outer v live i) k)
  no_more {r} n live i (calling.Path.goes {v} {w} {ks} {l} k (inl e) p) =
      let h : sum cycles l ≤ sum_at inn out ks (f.next v) + rest inn out ks = rw (← e) (no_more n live (reach_snoc i (edge_on f K r k (inl e))) p) in
      omega (arith, at_fork v n (sums.value r v live i) k)
  no_more {r} n live i (calling.Path.goes {v} {w} {ks} {l} k (inr e) p) =
      let h : sum cycles l ≤ sum_at inn out ks (f.other v) + rest inn out ks = rw (← e) (no_more n live (reach_snoc i (edge_on f K r k (inr e))) p) in
      omega (arith, at_fork v n (sums.value r v live i) k)
  no_more {r} n live i (calling.Path.calls {v} {ks} {l} k p) =
      let h : sum cycles l ≤ inn (f.from (f.entry v)) + (sum_at inn out ks (after f K v) + rest inn out ks) = no_more {r = called (f.entry v)} (inner n live i k) (call live i k) here p in
      omega (arith, at_call v n (sums.value r v live i) k)
  no_more (inner {r = r} {ks = ks} {u = u} n live' j c) live i (calling.Path.ret {v} {w} {l = l} k p) =
      let h = no_more {r = r} n live' (reach_snoc j (edge-call f K r c)) p in
      omega (arith, h, at_end_lem v (inner n live' j c) (sums.value (called (f.entry u)) v live i) k)

  -- the way is a path, and has the sum
  way-path : {ks : List ℕ} {v : ℕ} {l : List ℕ} → Route f K inn out ks v l → Path f K ks v l
  way-path (Route.rti k) = calling.Path.rti k
  way-path (Route.turn k (Turn.to_next e h) p) = calling.Path.goes k (inl e) (way-path p)
  way-path (Route.turn k (Turn.to_other e h) p) = calling.Path.goes k (inr e) (way-path p)
  way-path (Route.calls k p) = calling.Path.calls k (way-path p)
  way-path (Route.ret k p) = calling.Path.ret k (way-path p)

  way-sum : {r : Routine} {ks : List ℕ} {v : ℕ} {l : List ℕ} → Nested f K r ks → Live f K r → Reach (within f K r) (start_in f r) v → Route f K inn out ks v l → sum cycles l ≡ sum_at inn out ks v + rest inn out ks
  unfolding sum rest
  way-sum none live i (Route.rti {v} k) = omega (arith, at_end_lem v none (sums.value outer v live i) k)
  way-sum {r} n live i (Route.turn {v} {w} {ks} {l} k (Turn.to_next e g) p) =
      let h : sum cycles l ≡ sum_at inn out ks (f.next v) + rest inn out ks = rw (← e) (way-sum n live (reach_snoc i (edge_on f K r k (inl e))) p) in
      omega (arith, at_fork v n (sums.value r v live i) k)
  way-sum {r} n live i (Route.turn {v} {w} {ks} {l} k (Turn.to_other e g) p) =
      let h : sum cycles l ≡ sum_at inn out ks (f.other v) + rest inn out ks = rw (← e) (way-sum n live (reach_snoc i (edge_on f K r k (inr e))) p) in
      omega (arith, at_fork v n (sums.value r v live i) k)
  way-sum {r} n live i (Route.calls {v} {ks} {l} k p) =
      let h : sum cycles l ≡ inn (f.from (f.entry v)) + (sum_at inn out ks (after f K v) + rest inn out ks) = way-sum {r = called (f.entry v)} (inner n live i k) (call live i k) here p in
      omega (arith, at_call v n (sums.value r v live i) k)
  way-sum (inner {r = r} {u = u} n live' j c) live i (Route.ret {v} {w} {l = l} k p) =
      let h = way-sum {r = r} n live' (reach_snoc j (edge-call f K r c)) p in
      omega (arith, h, at_end_lem v (inner n live' j c) (sums.value (called (f.entry u)) v live i) k)

  -- behind the same place
  behind : {v : ℕ} {l t m : List ℕ} → m ≡ v ∷ t → (t ≡ l) ⊎ Before f l t → (m ≡ v ∷ l) ⊎ Before f (v ∷ l) m
  behind {v} {l} e x = rw e (⊎_elim (λ h. inl (ap (λ (z : List ℕ). v ∷ z) h)) (λ h. inr (later h)) x)

  sum-behind : (l : List ℕ) {v : ℕ} {t m : List ℕ} → m ≡ v ∷ t → sum cycles m ≡ sum cycles (v ∷ l) → sum cycles t ≡ sum cycles l
  unfolding sum
  sum-behind l {v} {t} {m} e h = let z : sum cycles (v ∷ t) ≡ sum cycles (v ∷ l) = ap (λ (x : List ℕ). sum cycles x) (sym e) ∙ h in omega arith

  way-first : {r : Routine} {ks : List ℕ} {v : ℕ} {l : List ℕ} → Nested f K r ks → Live f K r → Reach (within f K r) (start_in f r) v → Route f K inn out ks v l
      → (m : List ℕ) → Path f K ks v m → sum cycles m ≡ sum cycles l → (m ≡ l) ⊎ Before f l m
  way-first n live i (Route.rti k) m p e = inl (path-rti k p)
  way-first n live i (Route.calls {v = v} {l = l} k q) m p e =
      let u = path-call k p in
      behind u.1 (way-first {r = called (f.entry v)} (inner n live i k) (call live i k) here q u.0 u.2 (sum-behind l u.1 e))
  way-first (inner {r = r} n live' j c) live i (Route.ret {l = l} k q) m p e =
      let u = path-ret k p in
      behind u.1 (way-first {r = r} n live' (reach_snoc j (edge-call f K r c)) q u.0 u.2 (sum-behind l u.1 e))
  way-first {r} n live i (Route.turn {v} {w} {ks} {l} k (Turn.to_next a h) q) m p e =
      let u = path-on k p in
      let s = sum-behind l u.1 e in
      go u.0 u.1 u.2 (ℕ_discrete (f.next v) (f.other v)) (λ x. way-first n live (reach_snoc i (edge_on f K r k (inl a))) q u.0 x s)
    where
      go : (t : List ℕ) → m ≡ v ∷ t → Path f K ks (f.next v) t ⊎ Path f K ks (f.other v) t → Dec (f.next v ≡ f.other v) → (Path f K ks w t → (t ≡ l) ⊎ Before f l t) → (m ≡ v ∷ l) ⊎ Before f (v ∷ l) m
      go t z (inl x) d ih = behind z (ih (rw a x))
      go t z (inr x) (yes o) ih = behind z (ih (rw (a ∙ o) x))
      go t z (inr x) (no o) ih =
          let hl = path-head (way-path q) in
          let ht = path-head x in
          inr (rw (z, hl.1, ht.1) (turns k a refl (λ y. o (sym a ∙ y))))
  way-first {r} n live i (Route.turn {v} {w} {ks} {l} k (Turn.to_other a h) q) m p e =
      let u = path-on k p in
      let s = sum-behind l u.1 e in
      let i' = reach_snoc i (edge_on f K r k (inr a)) in
      go u.0 u.1 u.2 s (rw a at (way-sum n live i' q)) (λ x. no_more n live (reach_snoc i (edge_on f K r k (inl refl))) x) (λ x. way-first n live i' q u.0 x s)
    where
      go : (t : List ℕ) → m ≡ v ∷ t → Path f K ks (f.next v) t ⊎ Path f K ks (f.other v) t → sum cycles t ≡ sum cycles l → sum cycles l ≡ sum_at inn out ks (f.other v) + rest inn out ks
          → (Path f K ks (f.next v) t → sum cycles t ≤ sum_at inn out ks (f.next v) + rest inn out ks) → (Path f K ks w t → (t ≡ l) ⊎ Before f l t) → (m ≡ v ∷ l) ⊎ Before f (v ∷ l) m
      go t z (inl x) s is most ih = absurd (omega (arith, most x))
      go t z (inr x) s is most ih = behind z (ih (rw a x))

  -- the way from the start is N's path, and the sum there is N
  pub way-is-longest : {l : List ℕ} → Route f K inn out [] f.start l → FirstOf f (HandlerPath f K) (sum cycles) l × (sum cycles l ≡ out f.start)
  unfolding rest
  way-is-longest q =
      let s = way-sum none handler here q in
      (record { in_it = way-path q; most = λ m p. omega (arith, no_more none handler here p, s); first = λ m p e. way-first none handler here q m p e }, omega (arith, s))

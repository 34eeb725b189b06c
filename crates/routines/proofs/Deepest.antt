-- The way that right depths show is the first of the paths with the greatest depth, and that is the depth at the start.
use mathlib.Core.Path.{◌≡◌, refl, sym, ap, ◌∙◌}
use mathlib.Core.Logic.{◌⊎◌, inl, inr, ⊎_elim}
use mathlib.Core.Bool.{Bool}
use mathlib.Core.List.{List, [], ◌∷◌}
use Prim.Native.Nat.{ℕ, suc, ◌+◌, ◌-◌, ◌≤◌, ◌<◌, max}
use native.Mathlib.Omega.{arith}
use native.Mathlib.Decide.{ℕ_discrete}
use lib.ListN.{length}
use Rattle.graph.specs.Graph.{Reach, here}
use Rattle.graph.proofs.Reach.{reach_snoc}
use Rattle.routines.specs.Calling as calling
use Rattle.routines.specs.Calling.{Flow, Routine, outer, called, end_of, start_in, after, within, Live, handler, call, Path, HandlerPath, opened, deepest, depth, Before, turns, later, FirstOf}
use Rattle.routines.proofs.Within.{edge_on, edge-call}
use Rattle.routines.proofs.Done.{Nested, none, inner}
use Rattle.routines.proofs.Exists.{path-head, path-rti, path-ret, path-call, path-on}
use Rattle.routines.specs.Depths.{depth_at, Value, Depths, pending, total, Turn, Route}

-- how many calls are open along a path, by the kind of its first place
pub deep_on : (f : Flow) (n v : ℕ) (l : List ℕ) → f.kind v ≡ 1 → deepest f.kind n (v ∷ l) ≡ max n (deepest f.kind n l)
unfolding deepest opened
deep_on f n v l k = rw k refl

pub deep_call : (f : Flow) (n v : ℕ) (l : List ℕ) → f.kind v ≡ 3 → deepest f.kind n (v ∷ l) ≡ max n (deepest f.kind (suc n) l)
unfolding deepest opened
deep_call f n v l k = rw k refl

pub deep_ret : (f : Flow) (n v : ℕ) (l : List ℕ) → f.kind v ≡ 4 → deepest f.kind (suc n) (v ∷ l) ≡ max (suc n) (deepest f.kind n l)
unfolding deepest opened
deep_ret f n v l k = rw (k, back n) refl
  where
    back : (n : ℕ) → suc n - 1 ≡ n
    back n = omega arith

pub deep_rti : (f : Flow) (n v : ℕ) → f.kind v ≡ 2 → deepest f.kind n (v ∷ []) ≡ n
unfolding deepest opened
deep_rti f n v k = rw k (omega arith)

deep_least : (kind : ℕ → ℕ) (n : ℕ) (l : List ℕ) → n ≤ deepest kind n l
unfolding deepest
deep_least kind n [] = omega arith
deep_least kind n (v ∷ l) = omega arith

-- sums and maxima, apart from what they stand for
on_past : (R n x y goal : ℕ) → n ≤ R → y ≡ max n x → max R x ≡ goal → max R y ≡ goal
on_past R n x y goal h e q = omega arith

on_behind : (R n x y goal : ℕ) → n ≤ R → y ≡ max n x → max R y ≡ goal → max R x ≡ goal
on_behind R n x y goal h e q = omega arith

in_past : (R n x y goal : ℕ) → n ≤ R → suc n ≤ x → y ≡ max n x → max (max R (suc n)) x ≡ goal → max R y ≡ goal
in_past R n x y goal h l e q = omega arith

in_behind : (R n x y goal : ℕ) → n ≤ R → suc n ≤ x → y ≡ max n x → max R y ≡ goal → max (max R (suc n)) x ≡ goal
in_behind R n x y goal h l e q = omega arith

next_goal : (X n a b d goal : ℕ) → d ≡ max a b → goal ≡ max X (n + d) → goal ≤ max X (n + a) → goal ≡ max X (n + a)
next_goal X n a b d goal e g h = omega arith

other_goal : (X n a b d goal : ℕ) → d ≡ max a b → goal ≡ max X (n + d) → max X (n + a) < goal → goal ≡ max X (n + b)
other_goal X n a b d goal e g h = omega arith

shuffle : (R s t P : ℕ) → max (max R P) (max s t) ≡ max (max R s) (max t P)
shuffle R s t P = omega arith

in_goal : (X n i a d goal : ℕ) → d ≡ max (suc i) a → goal ≡ max X (n + d) → goal ≡ max (max X (max (suc n) (n + a))) (suc n + i)
in_goal X n i a d goal e g = omega arith

back_goal : (R P n d t goal : ℕ) → d ≡ 0 → suc n ≤ R → goal ≡ max (max R (max t P)) (suc n + d) → goal ≡ max (max R P) t
back_goal R P n d t goal e h g = omega arith

module _ (f : Flow) (K : ℕ → Bool) (inn out : ℕ → ℕ) (depths : Depths f K inn out) where
  -- the value at a place, by the calls that are open
  at_end_lem : {r : Routine} {ks : List ℕ} (v : ℕ) → Nested f K r ks → Value f K inn out r v → f.kind v ≡ end_of r → depth_at inn out ks v ≡ 0
  at_end_lem v none (Value.ends k e) h = e
  at_end_lem v none (Value.forks k e) h = absurd (omega arith)
  at_end_lem v none (Value.calls k e) h = absurd (omega arith)
  at_end_lem v (inner n l i c) (Value.ends k e) h = e
  at_end_lem v (inner n l i c) (Value.forks k e) h = absurd (omega arith)
  at_end_lem v (inner n l i c) (Value.calls k e) h = absurd (omega arith)

  at_fork : {r : Routine} {ks : List ℕ} (v : ℕ) → Nested f K r ks → Value f K inn out r v → f.kind v ≡ 1
      → depth_at inn out ks v ≡ max (depth_at inn out ks (f.next v)) (depth_at inn out ks (f.other v))
  at_fork v none (Value.ends k e) h = absurd (omega arith)
  at_fork v none (Value.forks k e) h = e
  at_fork v none (Value.calls k e) h = absurd (omega arith)
  at_fork v (inner n l i c) (Value.ends k e) h = absurd (omega arith)
  at_fork v (inner n l i c) (Value.forks k e) h = e
  at_fork v (inner n l i c) (Value.calls k e) h = absurd (omega arith)

  at_call : {r : Routine} {ks : List ℕ} (v : ℕ) → Nested f K r ks → Value f K inn out r v → f.kind v ≡ 3
      → depth_at inn out ks v ≡ max (suc (inn (f.from (f.entry v)))) (depth_at inn out ks (after f K v))
  at_call v none (Value.ends k e) h = absurd (omega arith)
  at_call v none (Value.forks k e) h = absurd (omega arith)
  at_call v none (Value.calls k e) h = e
  at_call v (inner n l i c) (Value.ends k e) h = absurd (omega arith)
  at_call v (inner n l i c) (Value.forks k e) h = absurd (omega arith)
  at_call v (inner n l i c) (Value.calls k e) h = e

  -- no path is deeper
  no_deeper : {r : Routine} {ks : List ℕ} {v : ℕ} {l : List ℕ} → Nested f K r ks → Live f K r → Reach (within f K r) (start_in f r) v → Path f K ks v l
      → deepest f.kind (length ks) l ≤ max (length ks + depth_at inn out ks v) (pending inn out ks)
  unfolding pending
  no_deeper none live i (calling.Path.rti {v} k) = omega (arith, deep_rti f 0 v k)
  no_deeper {r} n live i (calling.Path.goes {v} {w} {ks} {l} k (inl e) p) =
      let h : deepest f.kind (length ks) l ≤ max (length ks + depth_at inn out ks (f.next v)) (pending inn out ks) = rw (← e) (no_deeper n live (reach_snoc i (edge_on f K r k (inl e))) p) in
      omega (arith, at_fork v n (depths.value r v live i) k, deep_on f (length ks) v l k)
  no_deeper {r} n live i (calling.Path.goes {v} {w} {ks} {l} k (inr e) p) =
      let h : deepest f.kind (length ks) l ≤ max (length ks + depth_at inn out ks (f.other v)) (pending inn out ks) = rw (← e) (no_deeper n live (reach_snoc i (edge_on f K r k (inr e))) p) in
      omega (arith, at_fork v n (depths.value r v live i) k, deep_on f (length ks) v l k)
  no_deeper {r} n live i (calling.Path.calls {v} {ks} {l} k p) =
      let h : deepest f.kind (suc (length ks)) l ≤ max (suc (length ks) + inn (f.from (f.entry v))) (max (length ks + depth_at inn out ks (after f K v)) (pending inn out ks))
      = no_deeper {r = called (f.entry v)} (inner n live i k) (call live i k) here p in
      omega (arith, at_call v n (depths.value r v live i) k, deep_call f (length ks) v l k)
  no_deeper (inner {r = r} {ks = ks} {u = u} n live' j c) live i (calling.Path.ret {v} {w} {l = l} k p) =
      let h = no_deeper {r = r} n live' (reach_snoc j (edge-call f K r c)) p in
      omega (arith, h, at_end_lem v (inner n live' j c) (depths.value (called (f.entry u)) v live i) k, deep_ret f (length ks) v l k)

  way-path : {goal reached : ℕ} {ks : List ℕ} {v : ℕ} {l : List ℕ} → Route f K inn out goal reached ks v l → Path f K ks v l
  way-path (Route.rti k) = calling.Path.rti k
  way-path (Route.turn k (Turn.to_next e h) p) = calling.Path.goes k (inl e) (way-path p)
  way-path (Route.turn k (Turn.to_other e h) p) = calling.Path.goes k (inr e) (way-path p)
  way-path (Route.calls k p) = calling.Path.calls k (way-path p)
  way-path (Route.ret k p) = calling.Path.ret k (way-path p)

  -- the goal is what can be reached: so it stays along the way
  goal-next : {r : Routine} {ks : List ℕ} (goal reached v : ℕ) → Nested f K r ks → Live f K r → Reach (within f K r) (start_in f r) v → f.kind v ≡ 1 → goal ≡ total inn out reached ks v
      → goal ≤ total inn out reached ks (f.next v) → goal ≡ total inn out reached ks (f.next v)
  goal-next {r} {ks} goal reached v n live i k g h =
      next_goal (max reached (pending inn out ks)) (length ks) (depth_at inn out ks (f.next v)) (depth_at inn out ks (f.other v)) (depth_at inn out ks v) goal (at_fork v n (depths.value r v live i) k) g h

  goal-other : {r : Routine} {ks : List ℕ} (goal reached v : ℕ) → Nested f K r ks → Live f K r → Reach (within f K r) (start_in f r) v → f.kind v ≡ 1 → goal ≡ total inn out reached ks v
      → total inn out reached ks (f.next v) < goal → goal ≡ total inn out reached ks (f.other v)
  goal-other {r} {ks} goal reached v n live i k g h =
      other_goal (max reached (pending inn out ks)) (length ks) (depth_at inn out ks (f.next v)) (depth_at inn out ks (f.other v)) (depth_at inn out ks v) goal (at_fork v n (depths.value r v live i) k) g h

  goal-in : {r : Routine} {ks : List ℕ} (goal reached v : ℕ) → Nested f K r ks → Live f K r → Reach (within f K r) (start_in f r) v → f.kind v ≡ 3 → goal ≡ total inn out reached ks v
      → goal ≡ total inn out (max reached (suc (length ks))) (after f K v ∷ ks) (f.from (f.entry v))
  unfolding pending
  goal-in {r} {ks} goal reached v n live i k g =
      let inside = inn (f.from (f.entry v)) in
      let behind-it = depth_at inn out ks (after f K v) in
      in_goal (max reached (pending inn out ks)) (length ks) inside behind-it (depth_at inn out ks v) goal (at_call v n (depths.value r v live i) k) g
      ∙ ap (λ (x : ℕ). max x (suc (length ks) + inside)) (shuffle reached (suc (length ks)) (length ks + behind-it) (pending inn out ks))

  goal-back : {r : Routine} {ks : List ℕ} {w : ℕ} (goal reached v : ℕ) → Nested f K r (w ∷ ks) → Live f K r → Reach (within f K r) (start_in f r) v → f.kind v ≡ 4 → suc (length ks) ≤ reached
      → goal ≡ total inn out reached (w ∷ ks) v → goal ≡ total inn out reached ks w
  unfolding pending
  goal-back goal reached v (inner {ks = ks} {u = u} n live' j c) live i k h g =
      back_goal reached (pending inn out ks) (length ks) (inn v) (length ks + depth_at inn out ks (after f K u)) goal (at_end_lem v (inner n live' j c) (depths.value (called (f.entry u)) v live i) k) h g

  way_deep : {goal : ℕ} {r : Routine} {ks : List ℕ} {reached v : ℕ} {l : List ℕ} → Nested f K r ks → Live f K r → Reach (within f K r) (start_in f r) v → length ks ≤ reached
      → goal ≡ total inn out reached ks v → Route f K inn out goal reached ks v l → max reached (deepest f.kind (length ks) l) ≡ goal
  unfolding pending
  way_deep none live i h g (Route.rti {v = v} k) = omega (arith, deep_rti f 0 v k, at_end_lem v none (depths.value outer v live i) k)
  way_deep {goal} {r} n live i h g (Route.turn {reached} {v} {w} {ks} {l} k (Turn.to_next e t) p) =
      let q = way_deep n live (reach_snoc i (edge_on f K r k (inl e))) h (rw e (goal-next goal reached v n live i k g t)) p in
      on_past reached (length ks) (deepest f.kind (length ks) l) (deepest f.kind (length ks) (v ∷ l)) goal h (deep_on f (length ks) v l k) q
  way_deep {goal} {r} n live i h g (Route.turn {reached} {v} {w} {ks} {l} k (Turn.to_other e t) p) =
      let q = way_deep n live (reach_snoc i (edge_on f K r k (inr e))) h (rw e (goal-other goal reached v n live i k g t)) p in
      on_past reached (length ks) (deepest f.kind (length ks) l) (deepest f.kind (length ks) (v ∷ l)) goal h (deep_on f (length ks) v l k) q
  way_deep {goal} {r} n live i h g (Route.calls {reached} {v} {ks} {l} k p) =
      let q : max (max reached (suc (length ks))) (deepest f.kind (suc (length ks)) l) ≡ goal = way_deep {r = called (f.entry v)} (inner n live i k) (call live i k) here (omega arith) (goal-in goal reached v n live i k g) p in
      in_past reached (length ks) (deepest f.kind (suc (length ks)) l) (deepest f.kind (length ks) (v ∷ l)) goal h (deep_least f.kind (suc (length ks)) l) (deep_call f (length ks) v l k) q
  way_deep {goal = goal} (inner {r = r} {ks = ks} n live' j c) live i h g (Route.ret {reached} {v} {l = l} k p) =
      let q = way_deep {r = r} n live' (reach_snoc j (edge-call f K r c)) (omega arith) (goal-back goal reached v (inner n live' j c) live i k h g) p in
      on_past reached (suc (length ks)) (deepest f.kind (length ks) l) (deepest f.kind (suc (length ks)) (v ∷ l)) goal h (deep_ret f (length ks) v l k) q

  -- behind the same place
  behind : {v : ℕ} {l t m : List ℕ} → m ≡ v ∷ t → (t ≡ l) ⊎ Before f l t → (m ≡ v ∷ l) ⊎ Before f (v ∷ l) m
  behind {v} {l} e x = rw e (⊎_elim (λ h. inl (ap (λ (z : List ℕ). v ∷ z) h)) (λ h. inr (later h)) x)

  measured : (reached n : ℕ) {goal v : ℕ} {t m : List ℕ} → m ≡ v ∷ t → max reached (deepest f.kind n m) ≡ goal → max reached (deepest f.kind n (v ∷ t)) ≡ goal
  measured reached n e h = rw (← e) h

  way-first : {goal : ℕ} {r : Routine} {ks : List ℕ} {reached v : ℕ} {l : List ℕ} → Nested f K r ks → Live f K r → Reach (within f K r) (start_in f r) v → length ks ≤ reached
      → goal ≡ total inn out reached ks v → Route f K inn out goal reached ks v l → (m : List ℕ) → Path f K ks v m → max reached (deepest f.kind (length ks) m) ≡ goal → (m ≡ l) ⊎ Before f l m
  way-first n live i h g (Route.rti k) m p e = inl (path-rti k p)
  way-first {goal} {r} n live i h g (Route.calls {reached} {v} {ks} {l} k q) m p e =
      let u = path-call k p in
      let s : max (max reached (suc (length ks))) (deepest f.kind (suc (length ks)) u.0) ≡ goal
      = in_behind reached (length ks) (deepest f.kind (suc (length ks)) u.0) (deepest f.kind (length ks) (v ∷ u.0)) goal h (deep_least f.kind (suc (length ks)) u.0) (deep_call f (length ks) v u.0 k) (measured reached (length ks) u.1 e) in
      behind u.1 (way-first {r = called (f.entry v)} (inner n live i k) (call live i k) here (omega arith) (goal-in goal reached v n live i k g) q u.0 u.2 s)
  way-first {goal = goal} (inner {r = r} {ks = ks} n live' j c) live i h g (Route.ret {reached} {v} {l = l} k q) m p e =
      let u = path-ret k p in
      let s : max reached (deepest f.kind (length ks) u.0) ≡ goal
      = on_behind reached (suc (length ks)) (deepest f.kind (length ks) u.0) (deepest f.kind (suc (length ks)) (v ∷ u.0)) goal h (deep_ret f (length ks) v u.0 k) (measured reached (suc (length ks)) u.1 e) in
      behind u.1 (way-first {r = r} n live' (reach_snoc j (edge-call f K r c)) (omega arith) (goal-back goal reached v (inner n live' j c) live i k h g) q u.0 u.2 s)
  way-first {goal} {r} n live i h g (Route.turn {reached} {v} {w} {ks} {l} k (Turn.to_next a t) q) m p e =
      let u = path-on k p in
      let s : max reached (deepest f.kind (length ks) u.0) ≡ goal
      = on_behind reached (length ks) (deepest f.kind (length ks) u.0) (deepest f.kind (length ks) (v ∷ u.0)) goal h (deep_on f (length ks) v u.0 k) (measured reached (length ks) u.1 e) in
      go u.0 u.1 u.2 (ℕ_discrete (f.next v) (f.other v))
      (λ x. way-first n live (reach_snoc i (edge_on f K r k (inl a))) h (rw a (goal-next goal reached v n live i k g t)) q u.0 x s)
    where
      go : (t : List ℕ) → m ≡ v ∷ t → Path f K ks (f.next v) t ⊎ Path f K ks (f.other v) t → Dec (f.next v ≡ f.other v) → (Path f K ks w t → (t ≡ l) ⊎ Before f l t) → (m ≡ v ∷ l) ⊎ Before f (v ∷ l) m
      go t z (inl x) d ih = behind z (ih (rw a x))
      go t z (inr x) (yes o) ih = behind z (ih (rw (a ∙ o) x))
      go t z (inr x) (no o) ih =
          let hl = path-head (way-path q) in
          let ht = path-head x in
          inr (rw (z, hl.1, ht.1) (turns k a refl (λ y. o (sym a ∙ y))))
  way-first {goal} {r} n live i h g (Route.turn {reached} {v} {w} {ks} {l} k (Turn.to_other a t) q) m p e =
      let u = path-on k p in
      let s : max reached (deepest f.kind (length ks) u.0) ≡ goal
      = on_behind reached (length ks) (deepest f.kind (length ks) u.0) (deepest f.kind (length ks) (v ∷ u.0)) goal h (deep_on f (length ks) v u.0 k) (measured reached (length ks) u.1 e) in
      go u.0 u.1 u.2 s (λ x. no_deeper n live (reach_snoc i (edge_on f K r k (inl refl))) x)
      (λ x. way-first n live (reach_snoc i (edge_on f K r k (inr a))) h (rw a (goal-other goal reached v n live i k g t)) q u.0 x s)
    where
      go : (t : List ℕ) → m ≡ v ∷ t → Path f K ks (f.next v) t ⊎ Path f K ks (f.other v) t → max reached (deepest f.kind (length ks) t) ≡ goal
          → (Path f K ks (f.next v) t → deepest f.kind (length ks) t ≤ max (length ks + depth_at inn out ks (f.next v)) (pending inn out ks)) → (Path f K ks w t → (t ≡ l) ⊎ Before f l t)
          → (m ≡ v ∷ l) ⊎ Before f (v ∷ l) m
      go y z (inl x) s most ih = absurd (omega (arith, most x))
      go y z (inr x) s most ih = behind z (ih (rw a x))

  -- the way from the start to the depth there is depth's path
  pub way-is-deepest : {l : List ℕ} → Route f K inn out (out f.start) 0 [] f.start l → FirstOf f (HandlerPath f K) (depth f) l × (depth f l ≡ out f.start)
  unfolding pending
  way-is-deepest {l} q =
      let g : out f.start ≡ max (max 0 0) (0 + out f.start) = omega arith in
      let d = way_deep none handler here (omega arith) g q in (
        record {
          in_it = way-path q;
          most = λ m p. omega (arith, no_deeper none handler here p, d);
          first = λ m p e. way-first none handler here (omega arith) g q m p (omega (arith, d));
        },
        omega (arith, d),
      )

-- 22: where nothing recurs, what repeats in the joined graph repeats within one routine.
use mathlib.Core.Path.{◌≡◌, refl, sym, ap, ◌∙◌}
use mathlib.Core.Logic.{◌⊎◌, inl, inr, ⊎_elim}
use mathlib.Core.Bool.{Bool}
use Prim.Native.Nat.{ℕ, ◌+◌, ◌*◌, ◌/◌}
use native.Mathlib.Omega.{arith}
use Rattle.graph.specs.Graph.{Edge, Reach, here, step, ReachPlus, Loops, Least}
use Rattle.graph.proofs.Reach.{reach_snoc, reach_trans, reach_in}
use Rattle.routines.specs.Calling.{Flow, Routine, outer, called, within, In, Live, handler, call, Plus, once, more, Calls, Recurs, IsLoop}
use Rattle.routines.specs.Shape.{Small, Widens}
use Rattle.routines.specs.Answer.{LowestAddress}
use Rattle.routines.proofs.Accessible.{plus_snoc}
use Rattle.routines.proofs.Wide.{wide-recurs}
use Rattle.routines.specs.Joined.{code, place_of, joined}
use Rattle.routines.proofs.Edges.{code_above, place_code, edge-over, edge-parts, edge-of-entry}
use Rattle.routines.proofs.Refusals.{Stands, entry, place, lower, reach-over, entry_lt, place-reached, reached, loops-entry}

-- all called routines have the same places and ways
same_ways : (f : Flow) (K : ℕ → Bool) (d e v w : ℕ) → Edge (within f K (called d)) v w → Edge (within f K (called e)) v w
unfolding within
same_ways f K d e v w x = x

-- from v a call is reached, over calls, whose routine is that at e or leads to it
Led : Flow → (ℕ → Bool) → ℕ → ℕ → ℕ → Type 0
Led f K d v e = (u : ℕ) × Reach (within f K (called d)) v u × (f.kind u ≡ 3) × ((f.entry u ≡ e) ⊎ Plus (Calls f K) (f.entry u) e)

-- where the ways from v lead: on in the routine; or to an entry or into a routine by way of a call
data Way (f : Flow) (K : ℕ → Bool) (E d v y : ℕ) : Type 0 where
  over : (w : ℕ) → y ≡ code E (called d) w → ReachPlus (within f K (called d)) v w → Way f K E d v y
  at_entry : Live f K (called y) → Led f K d v y → Way f K E d v y
  into : (e w : ℕ) → y ≡ code E (called d) w → Live f K (called e) → Led f K d v e → In f K (called e) w → Way f K E d v y

-- where the ways from a place of the outer routine lead
data OuterWay (f : Flow) (K : ℕ → Bool) (E v y : ℕ) : Type 0 where
  on : (w : ℕ) → y ≡ code E outer w → ReachPlus (within f K outer) v w → OuterWay f K E v y
  entered : Live f K (called y) → OuterWay f K E v y
  inside : (d w : ℕ) → y ≡ code E (called d) w → Live f K (called d) → In f K (called d) w → OuterWay f K E v y

code_same : (E d v w : ℕ) → code E (called d) v ≡ code E (called d) w → v ≡ w
code_same E d v w h = omega arith

reach_same : (f : Flow) (K : ℕ → Bool) (d e : ℕ) {v w : ℕ} → Reach (within f K (called d)) v w → Reach (within f K (called e)) v w
unfolding within
reach_same f K d e x = x

module _ (f : Flow) (K : ℕ → Bool) (E : ℕ) {n : ℕ} (small : Small f n E) where
  module _ (d v : ℕ) (live : Live f K (called d)) (i : In f K (called d) v) where
    -- past a call at w, by which the routine at e is led on
    led_on : (e w : ℕ) → Led f K d v e → In f K (called e) w → f.kind w ≡ 3 → Led f K d v (f.entry w)
    unfolding Led
    led_on e w (u, q, k, z) j c =
        (u, q, k, inr (⊎_elim (λ h. rw h (once (w, j, c, refl))) (λ h. plus_snoc h (w, j, c, refl)) z))

    way_on : (x y : ℕ) → Way f K E d v x → Edge (joined f K E) x y → Way f K E d v y
    unfolding Led
    way_on x y (over w z q) a = go (edge-parts f K E (called d) w y (rw z at a))
      where
        go : ((t : ℕ) × Edge (within f K (called d)) w t × (y ≡ code E (called d) t)) ⊎ ((f.kind w ≡ 3) × (y ≡ f.entry w)) → Way f K E d v y
        go (inl (t, b, e)) = over t e (q.0, q.1, reach_snoc q.2 b)
        go (inr (k, e)) =
            let q' : Reach (within f K (called d)) v w = step q.1 q.2 in
            at_entry (rw e (call live (reach_trans i q') k)) (w, q', k, inl (sym e))
    way_on x y (at_entry l led) a = into x (f.from x) (edge-of-entry f K E x d y (entry_lt f K E small l) a) l led here
    way_on x y (into e w z l led j) a = go (edge-parts f K E (called d) w y (rw z at a))
      where
        go : ((t : ℕ) × Edge (within f K (called d)) w t × (y ≡ code E (called d) t)) ⊎ ((f.kind w ≡ 3) × (y ≡ f.entry w)) → Way f K E d v y
        go (inl (t, b, q)) = into e t q l led (reach_snoc j (same_ways f K d e w t b))
        go (inr (k, q)) = at_entry (rw q (call l j k)) (rw q (led_on e w led j k))

    way-first : (y : ℕ) → Edge (joined f K E) (code E (called d) v) y → Way f K E d v y
    unfolding Led
    way-first y a = go (edge-parts f K E (called d) v y a)
      where
        go : ((t : ℕ) × Edge (within f K (called d)) v t × (y ≡ code E (called d) t)) ⊎ ((f.kind v ≡ 3) × (y ≡ f.entry v)) → Way f K E d v y
        go (inl (t, b, e)) = over t e (t, b, here)
        go (inr (k, e)) = at_entry (rw e (call live i k)) (v, here, k, inl (sym e))

    -- back at v: over calls, or the routine recurs
    inner-loop : Widens f → ((e : ℕ) → Recurs f e → ⊥) → ReachPlus (joined f K E) (code E (called d) v) (code E (called d) v) → ReachPlus (within f K (called d)) v v
    unfolding Led
    inner-loop widens no_recursion (y, a, q) = go (reach_in (Way f K E d v) way_on q (way-first y a))
      where
        go : Way f K E d v (code E (called d) v) → ReachPlus (within f K (called d)) v v
        go (over w z p) = rw (← code_same E d v w z) at p
        go (at_entry l led) = absurd (omega (arith, entry_lt f K E small l, code_above E (called d) v))
        go (into e w z l (u, p, k, t) j) = absurd (no_recursion e (wide-recurs f widens K e l again))
          where
            v-in : In f K (called e) v
            v-in = rw (← code_same E d v w z) at j

            first : Calls f K e (f.entry u)
            first = (u, reach_trans v-in (reach_same f K d e p), k, refl)

            again : Plus (Calls f K) e e
            again = ⊎_elim (λ h. once (rw h at first)) (λ h. more first h) t

  module _ (v : ℕ) (i : In f K outer v) where
    outer-on : (x y : ℕ) → OuterWay f K E v x → Edge (joined f K E) x y → OuterWay f K E v y
    outer-on x y (on w z q) a = go (edge-parts f K E outer w y (rw z at a))
      where
        go : ((t : ℕ) × Edge (within f K outer) w t × (y ≡ code E outer t)) ⊎ ((f.kind w ≡ 3) × (y ≡ f.entry w)) → OuterWay f K E v y
        go (inl (t, b, e)) = on t e (q.0, q.1, reach_snoc q.2 b)
        go (inr (k, e)) = entered (rw e (call handler (reach_trans i (step q.1 q.2)) k))
    outer-on x y (entered l) a = inside x (f.from x) (edge-of-entry f K E x x y (entry_lt f K E small l) a) l here
    outer-on x y (inside d w z l j) a = go (edge-parts f K E (called d) w y (rw z at a))
      where
        go : ((t : ℕ) × Edge (within f K (called d)) w t × (y ≡ code E (called d) t)) ⊎ ((f.kind w ≡ 3) × (y ≡ f.entry w)) → OuterWay f K E v y
        go (inl (t, b, e)) = inside d t e l (reach_snoc j b)
        go (inr (k, e)) = entered (rw e (call l j k))

    outer-first : (y : ℕ) → Edge (joined f K E) (code E outer v) y → OuterWay f K E v y
    outer-first y a = go (edge-parts f K E outer v y a)
      where
        go : ((t : ℕ) × Edge (within f K outer) v t × (y ≡ code E outer t)) ⊎ ((f.kind v ≡ 3) × (y ≡ f.entry v)) → OuterWay f K E v y
        go (inl (t, b, e)) = on t e (t, b, here)
        go (inr (k, e)) = entered (rw e (call handler i k))

    outer-loop : ReachPlus (joined f K E) (code E outer v) (code E outer v) → ReachPlus (within f K outer) v v
    outer-loop (y, a, q) = go (reach_in (OuterWay f K E v) outer-on q (outer-first y a))
      where
        go : OuterWay f K E v (code E outer v) → ReachPlus (within f K outer) v v
        go (on w z p) = rw (← outer_same w z) at p
          where
            outer_same : (w : ℕ) → E + (2 * v + 1) ≡ E + (2 * w + 1) → v ≡ w
            outer_same w h = omega arith
        go (entered l) = absurd (omega (arith, entry_lt f K E small l))
        go (inside d w z l j) = absurd (omega (arith, z))

  plus-over : (r : Routine) {v : ℕ} → ReachPlus (within f K r) v v → ReachPlus (joined f K E) (code E r v) (code E r v)
  plus-over r {v} (w, a, q) = (code E r w, edge-over f K E r v w a, reach-over f K E r q)

  pub loop-code : (v : ℕ) (b : IsLoop f K v) → Loops (joined f K E) (code E outer f.start) (code E b.0 v)
  loop-code v (r, l, i, p) = (place-reached f K E small l i, plus-over r p)

  module _ (widens : Widens f) (no_recursion : (e : ℕ) → Recurs f e → ⊥) where
    pub loop-place : (x : ℕ) → Loops (joined f K E) (code E outer f.start) x → (r : Routine) × (v : ℕ) × (x ≡ code E r v) × IsLoop f K v
    loop-place x (q, p) = go (reached f K E small q)
      where
        go : Stands f K E x → (r : Routine) × (v : ℕ) × (x ≡ code E r v) × IsLoop f K v
        go (entry l) =
            let c = loops-entry f K E small (entry_lt f K E small l) (q, p) in
            absurd (no_recursion x (wide-recurs f widens K x l c.1))
        go (place outer v z l i) = (outer, v, z, (outer, l, i, outer-loop v i (rw z at p)))
        go (place (called d) v z l i) = (called d, v, z, (called d, l, i, inner-loop d v l i widens no_recursion (rw z at p)))

    pub lowest-loop : (x : ℕ) → Least (Loops (joined f K E) (code E outer f.start)) x → LowestAddress (λ v. v / 2) (IsLoop f K) (place_of E x / 2)
    lowest-loop x a =
        let b = loop-place x a.holds in
        record {
          holds = (b.1, b.3, ap (λ (y : ℕ). y / 2) (sym (place_code E b.0 b.1) ∙ ap (λ (y : ℕ). place_of E y) (sym b.2)));
          least = λ c (v, d, e). lower E x d.0 v c (rw b.2 (code_above E b.0 b.1)) (a.least (code E d.0 v) (loop-code v d)) e;
        }

  pub no_loop : ((x : ℕ) → Loops (joined f K E) (code E outer f.start) x → ⊥) → (v : ℕ) → IsLoop f K v → ⊥
  no_loop h v b = h (code E b.0 v) (loop-code v b)

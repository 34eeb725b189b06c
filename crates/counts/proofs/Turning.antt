-- A flow that is unrolled has no excluded place and no repetition, and nothing recurs in it, where that is so of the flow with its counted places cut out: a walk that comes back to its node has turned among
-- uncounted places, or has a number more than it had.
use mathlib.Core.Path.{◌≡◌, refl, sym, ap, subst, ◌∙◌}
use mathlib.Core.Logic.{◌⊎◌, inl, inr, ⊎_elim}
use mathlib.Core.Bool.{Bool, true, false}
use mathlib.Core.List.{List, [], ◌∷◌}
use Prim.Native.Nat.{ℕ, suc, ◌≤◌, ◌<◌}
use native.Mathlib.Omega.{arith}
use native.Mathlib.Decide.{ℕ_discrete}
use lib.Dec.{eqb}
use borrow.Author.Tests.{eq-eqb, ne_eqb}
use Rattle.laws.specs.Choice.{pick}
use Rattle.laws.proofs.Computed.{true→T}
use Rattle.graph.specs.Graph.{Edge, Reach, here, step, ReachPlus}
use Rattle.graph.proofs.Reach.{reach_trans}
use Rattle.routines.specs.Calling.{Flow, Routine, outer, called, start_in, after, within, In, Live, handler, call, Plus, once, more, Calls, IsBad, IsLoop}
use Rattle.routines.proofs.Within.{edge_on, edge-call, edge-cases}
use Rattle.counts.specs.Counts.{Count, Member, first, later, Numbers, none, is_counted, used, uncounted, IsUncountedLoop}
use Rattle.counts.specs.Weights.{Weighs}
use Rattle.counts.specs.Unrolled.{Closed, Unrolls}
use Rattle.counts.proofs.Unrolled.{kind_at, stepped}

-- a counted address is that of a count
pub counted_member : (C : List Count) (x : ℕ) → is_counted C x ≡ true → (c : Count) × Member c C × (c.at ≡ x)
unfolding is_counted
counted_member [] x h = absurd (true→T h)
counted_member (c ∷ C) x h = go (ℕ_discrete c.at x) (λ i. counted_member C x i)
  where
    go : Dec (c.at ≡ x) → (is_counted C x ≡ true → (d : Count) × Member d C × (d.at ≡ x)) → (d : Count) × Member d (c ∷ C) × (d.at ≡ x)
    go (yes e) rest = (c, first, e)
    go (no n) rest = let y = rest (rw (ne_eqb c.at x n) at h) in (y.0, later y.1, y.2)

-- the number at the address that a step goes to is one more; none is less
pub used_more : (address : ℕ → ℕ) (u : Numbers) (w x : ℕ) → u x ≤ used address u w x
unfolding used
used_more address u w x = go (eqb x (address w))
  where
    go : (b : Bool) → u x ≤ pick b (suc (u x)) (u x)
    go true = omega arith
    go false = omega arith

pub used_one : (address : ℕ → ℕ) (u : Numbers) (w x : ℕ) → x ≡ address w → used address u w x ≡ suc (u x)
unfolding used
used_one address u w x e = rw (eq-eqb x (address w) e) refl

pub edge_any : (f : Flow) (K : ℕ → Bool) (r s : Routine) (v w : ℕ) → Edge (within f K r) v w → Edge (within f K s) v w
edge_any f K r s v w e = go (edge-cases f K r e)
  where
    go : ((f.kind v ≡ 1) × ((w ≡ f.next v) ⊎ (w ≡ f.other v))) ⊎ ((f.kind v ≡ 3) × (w ≡ after f K v)) → Edge (within f K s) v w
    go (inl (k, n)) = edge_on f K s k n
    go (inr (k, n)) = rw n (edge-call f K s k)

pub reach_any : (f : Flow) (K : ℕ → Bool) (r s : Routine) {v w : ℕ} → Reach (within f K r) v w → Reach (within f K s) v w
reach_any f K r s here = here
reach_any f K r s (step {u} {v} e q) = step (edge_any f K r s u v e) (reach_any f K r s q)

pub uncounted_edge : (f : Flow) (K : ℕ → Bool) (address : ℕ → ℕ) (C : List Count) (r : Routine) (v w : ℕ) → is_counted C (address v) ≡ false → Edge (within f K r) v w → Edge (uncounted f K address C r) v w
unfolding uncounted
uncounted_edge f K address C r v w h (k, n) = (rw h k, n)

module _ {f : Flow} {K : ℕ → Bool} {address : ℕ → ℕ} {C : List Count} {Good : ℕ → Numbers → Type 0} {node : ℕ → Numbers → ℕ} {M : ℕ → Type 0} {g : Flow} {L : ℕ → Bool}
    (closed : Closed f K address C Good) (a : Unrolls f K address C Good node M g L) where
  -- y is a node of the place to, with these numbers
  pub record IsNode (y to : ℕ) (t : Numbers) : Type 0 where
    pub is : y ≡ node to t
    pub good : Good to t
    pub ends : M (node to t)

  -- a step of the flow that is unrolled is one of the flow, with the numbers after it
  pub record Moves (r : Routine) (v : ℕ) (u : Numbers) (y : ℕ) : Type 0 where
    pub to : ℕ
    pub edge : Edge (within f K r) v to
    pub there : IsNode y to (used address u to)

  moves : (r : Routine) {x v y : ℕ} {u : Numbers} → IsNode x v u → Edge (within g L r) x y → Moves r v u y
  moves r {x} {v} {y} {u} n e = go (edge-cases g L r e)
    where
      go : ((g.kind x ≡ 1) × ((y ≡ g.next x) ⊎ (y ≡ g.other x))) ⊎ ((g.kind x ≡ 3) × (y ≡ after g L x)) → Moves r v u y
      go (inl (k, way)) =
          let k' = kind_at closed a n.good n.ends n.is k in
          let s = stepped closed a (a.turns n.good n.ends k') y (rw n.is at way) in
          let fits = s.leads.fits in
          record { to = s.to; edge = edge_on f K r k' s.way; there = record { is = s.leads.is; good = closed.step n.good k' s.way fits; ends = s.leads.ends } }
      go (inr (k, way)) =
          let k' = kind_at closed a n.good n.ends n.is k in
          let p = (a.enters n.good n.ends k').past in
          record { to = after f K v; edge = edge-call f K r k'; there = record { is = way ∙ ap (after g L) n.is ∙ p.is; good = closed.past n.good k' p.fits; ends = p.ends } }

  -- on the way from v to w the number of a counted place p went up; or all that was gone to is uncounted
  pub record Rises (r : Routine) (v : ℕ) (u : Numbers) (w : ℕ) (t : Numbers) : Type 0 where
    pub count : Count
    pub one : Member count C
    pub place : ℕ
    pub stands : address place ≡ count.at
    pub to : ReachPlus (within f K r) v place
    pub on : Reach (within f K r) place w
    pub more : u count.at < t count.at

  abbrev Flat : Routine → ℕ → ℕ → Type 0
  Flat r v w = is_counted C (address v) ≡ false → Reach (uncounted f K address C r) v w × (is_counted C (address w) ≡ false)

  pub record Came (r : Routine) (v : ℕ) (u : Numbers) (y : ℕ) : Type 0 where
    pub to : ℕ
    pub numbers : Numbers
    pub there : IsNode y to numbers
    pub reach : Reach (within f K r) v to
    pub more : (x : ℕ) → u x ≤ numbers x
    pub turned : Rises r v u to numbers ⊎ Flat r v to

  -- after a step and what follows it
  turned_by : (r : Routine) {v y z : ℕ} {u : Numbers} (m : Moves r v u y) (c : Came r m.to (used address u m.to) z)
      → Rises r v u c.to c.numbers ⊎ ((is_counted C (address m.to) ≡ false) × Reach (uncounted f K address C r) m.to c.to × (is_counted C (address c.to) ≡ false))
  turned_by r {v} {u = u} m c = go (is_counted C (address m.to)) refl c.turned
    where
      go : (b : Bool) → is_counted C (address m.to) ≡ b → Rises r m.to (used address u m.to) c.to c.numbers ⊎ Flat r m.to c.to
          → Rises r v u c.to c.numbers ⊎ ((is_counted C (address m.to) ≡ false) × Reach (uncounted f K address C r) m.to c.to × (is_counted C (address c.to) ≡ false))
      go true h t =
          let k = counted_member C (address m.to) h in
          inl (record {
            count = k.0;
            one = k.1;
            place = m.to;
            stands = sym k.2;
            to = (m.to, m.edge, here);
            on = c.reach;
            more = omega (arith, used_one address u m.to k.0.at k.2, c.more k.0.at);
          })
      go false h (inl t) =
          let q = t.to in
          inl (record {
            count = t.count;
            one = t.one;
            place = t.place;
            stands = t.stands;
            to = (m.to, m.edge, step q.1 q.2);
            on = t.on;
            more = omega (arith, used_more address u m.to t.count.at, t.more);
          })
      go false h (inr t) = let q = t h in inr (h, q.0, q.1)

  came : (r : Routine) {x v y : ℕ} {u : Numbers} → IsNode x v u → Reach (within g L r) x y → Came r v u y
  came r {v = v} {u = u} n here = record { to = v; numbers = u; there = n; reach = here; more = λ x. omega arith; turned = inr (λ h. (here, h)) }
  came r {v = v} {u = u} n (step e q) =
      let m = moves r n e in
      let c = came r m.there q in
      record {
        to = c.to;
        numbers = c.numbers;
        there = c.there;
        reach = step m.edge c.reach;
        more = λ x. omega (arith, used_more address u m.to x, c.more x);
        turned = ⊎_elim inl (λ t. inr (λ h. (step (uncounted_edge f K address C r v m.to h m.edge) t.1, t.2))) (turned_by r m c);
      }

  abbrev Starts : Routine → Type 0
  Starts r = (t : Numbers) × IsNode (start_in g r) (start_in f r) t

  -- a routine that is live there is live here, and starts at the same place
  live_to : M g.start → {r : Routine} → Live g L r → Live f K r × Starts r
  live_to m handler = (handler, (_, record { is = a.start; good = closed.start; ends = rw a.start at m }))
  live_to m (call {r = r} {v = x} l i k) =
      let s = live_to m l in
      let c = came r s.1.1 i in
      let n = c.there in
      let k' = kind_at closed a n.good n.ends n.is k in
      let enters = a.enters n.good n.ends k' in
      let e : g.entry x ≡ f.entry c.to = ap g.entry n.is ∙ enters.entry in
      let t = used address none (f.from (f.entry c.to)) in
      let start : IsNode (g.from (g.entry x)) (f.from (f.entry c.to)) t =
      record { is = ap (λ (y : ℕ). g.from (g.entry y)) n.is ∙ enters.first; good = closed.into n.good k'; ends = enters.first_ends } in
      (rw e (call s.0 c.reach k'), (t, subst (λ z. IsNode (g.from (g.entry x)) (f.from z) t) (sym e) start))

  pub record Found (r : Routine) (x : ℕ) : Type 0 where
    pub live : Live f K r
    pub place : ℕ
    pub numbers : Numbers
    pub there : IsNode x place numbers
    pub within : In f K r place

  found : M g.start → {r : Routine} {x : ℕ} → Live g L r → In g L r x → Found r x
  found m {r} l i =
      let s = live_to m l in
      let c = came r s.1.1 i in
      record { live = s.0; place = c.to; numbers = c.numbers; there = c.there; within = c.reach }

  is-kind : {x v : ℕ} {t : Numbers} → IsNode x v t → g.kind x ≡ f.kind v
  is-kind n = ap g.kind n.is ∙ a.kind n.good n.ends

  pub no_bad : M g.start → ((v : ℕ) → IsBad f K v → ⊥) → (x : ℕ) → IsBad g L x → ⊥
  unfolding within
  no_bad m none-bad x (r, l, i, bad) =
      let y = found m l i in
      let e = is-kind y.there in
      none-bad y.place (r, y.live, y.within, record { not_on = λ h. bad.not_on (rw e h); not_end = λ h. bad.not_end (rw e h) })

  -- a number that went up on the way back to its node would be another one
  rises-not : {r : Routine} {v : ℕ} {u t : Numbers} → Live f K r → In f K r v → Good v u → Good v t → node v u ≡ node v t → Rises r v u v t → ⊥
  rises-not {r} {v} {u} {t} l i good good' same z =
      let q = z.to in
      let in_place : In f K r z.place = reach_trans i (step q.1 q.2) in
      let weighs : Weighs f K address v z.count = record {
        behind = (z.place, (r, l, in_place), z.stands, reach_any f K r outer z.on);
        ahead = (z.place, z.stands, (q.0, edge_any f K r outer v q.0 q.1, reach_any f K r outer q.2));
      } in
      omega (arith, a.numbers good good' same z.count z.one weighs, z.more)

  pub no_loop : M g.start → ((v : ℕ) → IsUncountedLoop f K address C v → ⊥) → (x : ℕ) → IsLoop g L x → ⊥
  no_loop m none-loops x (r, l, i, (y, e, q)) =
      let s = found m l i in
      let n = s.there in
      let b = moves r n e in
      let c = came r b.there q in
      let back : c.to ≡ s.place = a.one c.there.good n.good (sym c.there.is ∙ n.is) in
      let good : Good s.place c.numbers = subst (λ w. Good w c.numbers) back c.there.good in
      let same : node s.place s.numbers ≡ node s.place c.numbers = sym n.is ∙ c.there.is ∙ ap (λ (w : ℕ). node w c.numbers) back in
      ⊎_elim (λ z. rises-not s.live s.within n.good good same (subst (λ w. Rises r s.place s.numbers w c.numbers) back z)) (λ z.
      let flat : is_counted C (address s.place) ≡ false = subst (λ w. is_counted C (address w) ≡ false) back z.2 in
      none-loops s.place
      (r, s.live, s.within, (b.to, uncounted_edge f K address C r s.place b.to flat b.edge, subst (λ w. Reach (uncounted f K address C r) b.to w) back z.1)))
      (turned_by r b c)

  calls-to : M g.start → {d e : ℕ} → Live g L (called d) → Calls g L d e → Calls f K d e × Live g L (called e)
  calls-to m {d} {e} l (x, i, k, n) =
      let s = found m l i in
      let t = s.there in
      let k' = kind_at closed a t.good t.ends t.is k in
      let same : f.entry s.place ≡ e = sym (ap g.entry t.is ∙ (a.enters t.good t.ends k').entry) ∙ n in
      ((s.place, s.within, k', same), rw (← n) (call l i k))

  plus-to : M g.start → {d e : ℕ} → Live g L (called d) → Plus (Calls g L) d e → Plus (Calls f K) d e
  plus-to m l (once c) = once (calls-to m l c).0
  plus-to m l (more c p) = let x = calls-to m l c in more x.0 (plus-to m x.1 p)

  -- nothing recurs there that does not here
  pub no_recursion : M g.start → ((e : ℕ) → Live f K (called e) → Plus (Calls f K) e e → ⊥) → (e : ℕ) → Live g L (called e) → Plus (Calls g L) e e → ⊥
  no_recursion m none-recurs e l p = none-recurs e (live_to m l).0 (plus-to m l p)

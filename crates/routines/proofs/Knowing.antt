-- The marks tell after which calls SF is known.
use mathlib.Core.Path.{◌≡◌, refl, sym, ap, subst, ◌∙◌}
use mathlib.Core.Logic.{◌⊎◌, inl, inr, ⊎_elim}
use mathlib.Core.Bool.{Bool, true, false, not}
use Prim.Native.Nat.{ℕ}
use lib.Dec.{T}
use Rattle.graph.specs.Graph.{Edge, Reach, here, step}
use Rattle.routines.specs.Calling.{Flow, Routine, called, start_in, after, within, In, Live, handler, call, ReturnsKnown, Knows}
use Rattle.routines.specs.Shape.{Narrower, Widens}
use Rattle.routines.proofs.Within.{edge_on, edge-call, edge-cases}
use Rattle.routines.specs.Losing.{Loses, returns, by_next, by_other, past_known, past_unknown, Region, Marks, known_by, KnownAfter}

not_both : {A : Type 0} {b : Bool} → b ≡ true → b ≡ false → A
not_both e n = absurd (subst T (sym e ∙ n) tt)

-- which of two
pub settled : (b : Bool) → (b ≡ true) ⊎ (b ≡ false)
settled true = inl refl
settled false = inr refl

not_true : (b : Bool) → not b ≡ true → b ≡ false
not_true true e = absurd (subst T (sym e) tt)
not_true false e = refl

module _ (f : Flow) (R : ℕ → Type 0) (m : ℕ → Bool) (region : Region f R) (marks : Marks f R m) where
  -- every such place of the region is marked
  complete : {v : ℕ} → R v → Loses f v → m v ≡ true
  complete {v} r (returns k n) = marks.returns v r k n
  complete {v} r (by_next k l) = marks.by_next v r k (complete (region.next v r k) l)
  complete {v} r (by_other k l) = marks.by_other v r k (complete (region.other v r k) l)
  complete {v} r (past_known k l) = marks.past_known v r k (complete (region.known_after v r k) l)
  complete {v} r (past_unknown k i l) = marks.past_unknown v r k (complete (region.into v r k) i) (complete (region.unknown_after v r k) l)

  abbrev K : ℕ → Bool
  K = known_by f m

  after_marked : (v : ℕ) → m (f.from (f.entry v)) ≡ true → after f K v ≡ f.next v
  unfolding after
  after_marked v e = rw e

  after-clear : (v : ℕ) → m (f.from (f.entry v)) ≡ false → after f K v ≡ f.other v
  unfolding after
  after-clear v e = rw e

  after_in : (v : ℕ) → R v → f.kind v ≡ 3 → R (after f K v)
  after_in v r k = go (settled (m (f.from (f.entry v))))
    where
      go : (m (f.from (f.entry v)) ≡ true) ⊎ (m (f.from (f.entry v)) ≡ false) → R (after f K v)
      go (inl e) = rw (after_marked v e) (region.unknown_after v r k)
      go (inr e) = rw (after-clear v e) (region.known_after v r k)

  same_after : (u w : ℕ) → Narrower f u w → f.kind u ≡ 3 → after f K u ≡ after f K w
  unfolding after
  same_after u w n c = rw (n.entry c, n.unknown_after c, n.known_after c)

  module _ (routine : Routine) where
    -- a RET at an unknown place is reached
    pub record Found (v : ℕ) : Type 0 where
      pub at : ℕ
      pub reached : Reach (within f K routine) v at
      pub is_ret : f.kind at ≡ 4
      pub is-unknown : f.known at ≡ false

    found-on : {v w : ℕ} → Edge (within f K routine) v w → Found w → Found v
    found-on d x = record { at = x.at; reached = step d x.reached; is_ret = x.is_ret; is-unknown = x.is-unknown }

    -- what is reached from where SF is known after a call is reached from where it is not
    module _ (widens : Widens f) (sure : KnownAfter f) where
      wider-edge : (v w : ℕ) → f.kind v ≡ 3 → Edge (within f K routine) (f.other v) w → Edge (within f K routine) (f.next v) w
      wider-edge v w k d = go (edge-cases f K routine d)
        where
          n : Narrower f (f.other v) (f.next v)
          n = widens.at_call v k

          go : ((f.kind (f.other v) ≡ 1) × ((w ≡ f.next (f.other v)) ⊎ (w ≡ f.other (f.other v)))) ⊎ ((f.kind (f.other v) ≡ 3) × (w ≡ after f K (f.other v))) → Edge (within f K routine) (f.next v) w
          go (inl (c, inl q)) = edge_on f K routine (sym n.kind ∙ c) (⊎_elim (λ h. inl (q ∙ h)) (λ h. inr (q ∙ h)) (n.next c))
          go (inl (c, inr q)) = edge_on f K routine (sym n.kind ∙ c) (⊎_elim (λ h. inl (q ∙ h)) (λ h. inr (q ∙ h)) (n.other c))
          go (inr (c, q)) = rw (q ∙ same_after (f.other v) (f.next v) n c) (edge-call f K routine (sym n.kind ∙ c))

      wider : (v : ℕ) → f.kind v ≡ 3 → {u w : ℕ} → u ≡ f.other v → Reach (within f K routine) u w → f.kind w ≡ 4 → f.known w ≡ false → Found (f.next v)
      wider v k e here c n = not_both (ap f.known e ∙ sure.is v k) n
      wider v k e (step {v = x} d r) c n = record { at = _; reached = step (wider-edge v x k (rw e at d)) r; is_ret = c; is-unknown = n }

      lost-found : {v : ℕ} → R v → Loses f v → Found v
      lost-found {v} r (returns k n) = record { at = v; reached = here; is_ret = k; is-unknown = n }
      lost-found {v} r (by_next k l) = found-on (edge_on f K routine k (inl refl)) (lost-found (region.next v r k) l)
      lost-found {v} r (by_other k l) = found-on (edge_on f K routine k (inr refl)) (lost-found (region.other v r k) l)
      lost-found {v} r (past_known k l) = go (settled (m (f.from (f.entry v)))) (lost-found (region.known_after v r k) l)
        where
          go : (m (f.from (f.entry v)) ≡ true) ⊎ (m (f.from (f.entry v)) ≡ false) → Found (f.other v) → Found v
          go (inl e) x = found-on (rw (← after_marked v e) (edge-call f K routine k)) (wider v k refl x.reached x.is_ret x.is-unknown)
          go (inr e) x = found-on (rw (← after-clear v e) (edge-call f K routine k)) x
      lost-found {v} r (past_unknown k i l) = found-on (rw (← after_marked v (complete (region.into v r k) i)) (edge-call f K routine k)) (lost-found (region.unknown_after v r k) l)

    -- on from v to u, which loses it
    lost-by : (v u : ℕ) → ((f.kind v ≡ 1) × ((u ≡ f.next v) ⊎ (u ≡ f.other v))) ⊎ ((f.kind v ≡ 3) × (u ≡ after f K v)) → Loses f u → Loses f v
    lost-by v u (inl (c, inl e)) l = by_next c (rw e at l)
    lost-by v u (inl (c, inr e)) l = by_other c (rw e at l)
    lost-by v u (inr (c, e)) l = past (settled (m (f.from (f.entry v)))) (rw e at l)
      where
        past : (m (f.from (f.entry v)) ≡ true) ⊎ (m (f.from (f.entry v)) ≡ false) → Loses f (after f K v) → Loses f v
        past (inl t) l = past_unknown c (marks.sound (f.from (f.entry v)) t) (rw (after_marked v t) at l)
        past (inr t) l = past_known c (rw (after-clear v t) at l)

    pub stays-in : (v u : ℕ) → R v → Edge (within f K routine) v u → R u
    stays-in v u r d = go (edge-cases f K routine d)
      where
        go : ((f.kind v ≡ 1) × ((u ≡ f.next v) ⊎ (u ≡ f.other v))) ⊎ ((f.kind v ≡ 3) × (u ≡ after f K v)) → R u
        go (inl (c, inl e)) = rw e (region.next v r c)
        go (inl (c, inr e)) = rw e (region.other v r c)
        go (inr (c, e)) = rw e (after_in v r c)

    found-lost : {v w : ℕ} → R v → Reach (within f K routine) v w → f.kind w ≡ 4 → f.known w ≡ false → Loses f v
    found-lost r here k n = returns k n
    found-lost {v} r (step {v = u} d q) k n = lost-by v u (edge-cases f K routine d) (found-lost (stays-in v u r d) q k n)

    reach_in : {u v : ℕ} → R u → Reach (within f K routine) u v → R v
    reach_in r here = r
    reach_in {u} r (step {v = w} d q) = reach_in (stays-in u w r d) q

  -- a routine that is reached starts in the region
  live_in : {r : Routine} → Live f K r → R (start_in f r)
  live_in handler = region.start
  live_in (call {r = r} {v = v} l i k) = region.into v (reach_in r (live_in l) i) k

  -- the marks say exactly what is known after calls
  pub knows : Widens f → KnownAfter f → Knows f K
  knows widens sure =
      record {
        yes_if = λ e live known. yes e live known (settled (m (f.from e)));
        only_if = λ e live says v i k. only e live (not_true (m (f.from e)) says) v i k (settled (f.known v));
      }
    where
      yes : (e : ℕ) → Live f K (called e) → ReturnsKnown f K e → (m (f.from e) ≡ true) ⊎ (m (f.from e) ≡ false) → K e ≡ true
      yes e live known (inl t) =
          let x = lost-found (called e) widens sure (live_in live) (marks.sound (f.from e) t) in
          not_both (known x.at x.reached x.is_ret) x.is-unknown
      yes e live known (inr t) = rw t

      only : (e : ℕ) → Live f K (called e) → m (f.from e) ≡ false → (v : ℕ) → In f K (called e) v → f.kind v ≡ 4 → (f.known v ≡ true) ⊎ (f.known v ≡ false) → f.known v ≡ true
      only e live clear v i k (inl t) = t
      only e live clear v i k (inr n) = not_both (complete (live_in live) (found-lost (called e) (live_in live) i k n)) clear

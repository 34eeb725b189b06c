-- The numbers that a counted path can have at a place: within the counts, and 0 unless the place is behind the address. So a number that is wanted where a step leads weighs before it, or is 0.
use mathlib.Core.Path.{◌≡◌, refl, sym}
use mathlib.Core.Logic.{◌⊎◌, inl, inr}
use mathlib.Core.Bool.{Bool}
use mathlib.Core.List.{List, ◌∷◌}
use Prim.Native.Nat.{ℕ, suc, ◌/◌, ◌≤◌, ◌<◌}
use native.Mathlib.Omega.{arith}
use native.Mathlib.Decide.{ℕ_discrete}
use borrow.Author.Tests.{eq-eqb, ne_eqb}
use Rattle.graph.specs.Graph.{Edge, here, step}
use Rattle.graph.proofs.Reach.{reach_snoc}
use Rattle.routines.specs.Calling.{Flow, Routine, outer, called, within, handler, call}
use Rattle.routines.proofs.Within.{edge_on, edge-call}
use Rattle.counts.specs.Counts.{Count, Member, first, later, Numbers, none, used, Fits}
use Rattle.counts.specs.Weights.{Reached, Behind, Ahead, Weighs}
use Rattle.counts.specs.CountedAnswer.{Allowed, Ascending, Given}
use Rattle.counts.specs.Radix.{Masks}
use Rattle.counts.specs.Unrolled.{Closed}
use Rattle.counts.proofs.Radix.{Ranged, Wanted}

pub record Good (f : Flow) (K : ℕ → Bool) (address : ℕ → ℕ) (C : List Count) (v : ℕ) (u : Numbers) : Type 0 where
  pub reached : Reached f K v
  pub ranged : Ranged C u
  pub behind : (a : ℕ) → 0 < u a → Behind f K address a v

pub allowed : {C : List Count} → Ascending C → (c : Count) → Member c C → Allowed c
allowed Ascending.none c m = elim m [ ]
allowed (Ascending.one a) c first = a
allowed (Ascending.one a) c (later m) = elim m [ ]
allowed (Ascending.more a l rest) c first = a
allowed (Ascending.more a l rest) c (later m) = allowed rest c m

used_other : (address : ℕ → ℕ) (u : Numbers) (w a : ℕ) → (a ≡ address w → ⊥) → used address u w a ≡ u a
unfolding used
used_other address u w a n = rw (ne_eqb a (address w) n) refl

used_same : (address : ℕ → ℕ) (u : Numbers) (w a : ℕ) → a ≡ address w → used address u w a ≡ suc (u a)
unfolding used
used_same address u w a e = rw (eq-eqb a (address w) e) refl

module _ (f : Flow) (K : ℕ → Bool) (address : ℕ → ℕ) (C : List Count) where
  -- a step from v to w in any routine
  abbrev Steps : ℕ → ℕ → Type 0
  Steps v w = (r : Routine) → Edge (within f K r) v w

  good-step : {v w : ℕ} {u : Numbers} → Good f K address C v u → Steps v w → Fits address C u w → Good f K address C w (used address u w)
  good-step {v} {w} {u} good s fits = record { reached = reached; ranged = record { at = λ c m. ranged c m (ℕ_discrete c.at (address w)) }; behind = λ a l. behind a l (ℕ_discrete a (address w)) }
    where
      reached : Reached f K w
      reached = let x = good.reached in (x.0, x.1, reach_snoc x.2 (s x.0))

      ranged : (c : Count) → Member c C → Dec (c.at ≡ address w) → used address u w c.at ≤ c.most
      ranged c m (yes e) = omega (arith, used_same address u w c.at e, fits c m e)
      ranged c m (no e) = omega (arith, used_other address u w c.at e, good.ranged.at c m)

      behind : (a : ℕ) → 0 < used address u w a → Dec (a ≡ address w) → Behind f K address a w
      behind a l (yes e) = (w, reached, sym e, here)
      behind a l (no e) = let x = good.behind a (omega (arith, l, used_other address u w a e)) in (x.0, x.1, x.2, reach_snoc x.3 (s outer))

  good-first : Given C → {w : ℕ} → Reached f K w → Good f K address C w (used address none w)
  good-first given {w} reached = record { reached = reached; ranged = record { at = λ c m. ranged c m (ℕ_discrete c.at (address w)) }; behind = λ a l. behind a l (ℕ_discrete a (address w)) }
    where
      ranged : (c : Count) → Member c C → Dec (c.at ≡ address w) → used address none w c.at ≤ c.most
      ranged c m (yes e) = omega (arith, used_same address none w c.at e, (allowed given.ascending c m).some)
      ranged c m (no e) = omega (arith, used_other address none w c.at e)

      behind : (a : ℕ) → 0 < used address none w a → Dec (a ≡ address w) → Behind f K address a w
      behind a l (yes e) = (w, reached, sym e, here)
      behind a l (no e) = absurd (omega (arith, l, used_other address none w a e))

  pub closed : Given C → Closed f K address C (Good f K address C)
  closed given = record {
    start = good-first given (outer, handler, here);
    step = λ good k e fits. good-step good (λ r. edge_on f K r k e) fits;
    past = λ good k fits. good-step good (λ r. edge-call f K r k) fits;
    into = λ good k. let x = good.reached in good-first given (called _, call x.1 x.2 k, here);
  }

  -- what weighs where a step leads, or stands there, weighs before the step if it has a number
  weighs-before : {v w : ℕ} {u : Numbers} → Good f K address C v u → Steps v w → (c : Count) → 0 < u c.at → Ahead f K address c.at w ⊎ (c.at ≡ address w) → Weighs f K address v c
  weighs-before {w = w} good s c l (inl (q, e, (x, d, p))) = record { behind = good.behind c.at l; ahead = (q, e, (w, s outer, step d p)) }
  weighs-before {w = w} good s c l (inr e) = record { behind = good.behind c.at l; ahead = (w, sym e, (w, s outer, here)) }

  pub wanted : {v w : ℕ} {u : Numbers} → Good f K address C v u → Steps v w → {D : List Count} {mask there : ℕ} → Masks (Weighs f K address v) D mask → Masks (Weighs f K address w) D there → Wanted u (address w) D mask there
  wanted good s Masks.none n = Wanted.none
  wanted good s (Masks.set e x m) (Masks.set e' x' n) = Wanted.weighs e (wanted good s m n)
  wanted good s (Masks.set e x m) (Masks.clear e' x' n) = Wanted.weighs e (wanted good s m n)
  wanted {w = w} {u = u} good s (Masks.clear {c = c} {C = D} {mask = mask} e x m) (Masks.set {mask = there} e' x' n) = go (ℕ_discrete (u c.at) 0) (wanted good s m n)
    where
      go : Dec (u c.at ≡ 0) → Wanted u (address w) D (mask / 2) (there / 2) → Wanted u (address w) (c ∷ D) mask there
      go (yes z) rest = Wanted.zero_there e z rest
      go (no z) rest = absurd (x (weighs-before good s c (omega (arith, z)) (inl x'.ahead)))
  wanted {w = w} {u = u} good s (Masks.clear {c = c} {C = D} {mask = mask} e x m) (Masks.clear {mask = there} e' x' n) = go (ℕ_discrete (u c.at) 0) (wanted good s m n)
    where
      go : Dec (u c.at ≡ 0) → Wanted u (address w) D (mask / 2) (there / 2) → Wanted u (address w) (c ∷ D) mask there
      go (yes z) rest = Wanted.zero_there e z rest
      go (no z) rest = Wanted.unwanted e e' (λ i. x (weighs-before good s c (omega (arith, z)) (inr i))) rest

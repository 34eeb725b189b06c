-- Under counts every way ends: each step to a counted row leaves less to count, and uncounted rows do not turn. So image and counts alone give a number of steps.
use mathlib.Core.Path.{◌≡◌, refl}
use mathlib.Core.Logic.{◌⊎◌, inl, inr}
use mathlib.Core.Bool.{Bool, true, false}
use mathlib.Core.List.{List, [], ◌∷◌}
use Prim.Native.Nat.{ℕ, zero, suc, ◌+◌, ◌-◌, ◌≤◌, ◌<◌}
use native.Mathlib.Omega.{arith}
use native.Mathlib.Decide.{ℕ_discrete, dec_lt}
use Rattle.graph.specs.Graph.{Edge, here, step, ReachPlus}
use Rattle.graph.proofs.Reach.{reach_snoc}
use Rattle.routines.specs.Calling.{Flow, Routine, outer, called, end_of, after, within, In, Live, handler, call, Plus, once, more, Calls, Recurs}
use Rattle.routines.specs.Shape.{Small, Widens}
use Rattle.routines.proofs.Within.{Kind, kind_of, edge_on, edge-call, out-excluded}
use Rattle.routines.proofs.Accessible.{Acc, acc, accessible}
use Rattle.routines.proofs.Done.{in-lt, calls-end}
use Rattle.counts.specs.Counts.{Count, Member, first, later, Numbers, none, is_counted, used, Fits, uncounted}
use Rattle.counts.specs.CountedAnswer.{Settled}
use Rattle.counts.proofs.Empty.{no_member}
use Rattle.counts.proofs.Turning.{counted_member, used_more, used_one, uncounted_edge}

-- what P gives, or 0
unfoldable pub if_fits : {P : Type 0} → P ⊎ (P → ⊥) → (P → ℕ) → ℕ
if_fits (inl p) x = x p
if_fits (inr n) x = 0

-- how much is left to count
remaining : List Count → Numbers → ℕ
remaining [] u = 0
remaining (c ∷ C) u = (c.most - u c.at) + remaining C u

module _ (address : ℕ → ℕ) where
  remaining-le : (C : List Count) (u : Numbers) (w : ℕ) → remaining C (used address u w) ≤ remaining C u
  unfolding remaining
  remaining-le [] u w = omega arith
  remaining-le (c ∷ C) u w = omega (arith, remaining-le C u w, used_more address u w c.at)

  remaining-lt : (C : List Count) (u : Numbers) (w : ℕ) (c : Count) → Member c C → c.at ≡ address w → u c.at < c.most → remaining C (used address u w) < remaining C u
  unfolding remaining
  remaining-lt [] u w d m e l = elim m [ ]
  remaining-lt (c ∷ C) u w d first e l = omega (arith, remaining-le C u w, used_one address u w c.at e, l)
  remaining-lt (c ∷ C) u w d (later m) e l = omega (arith, remaining-lt C u w d m e l, used_more address u w c.at)

  fits-cons : {c : Count} {C : List Count} {w : ℕ} (u : Numbers) → (c.at ≡ address w → u c.at < c.most) → Fits address C u w → Fits address (c ∷ C) u w
  fits-cons u h fits d first e = h e
  fits-cons u h fits d (later m) e = fits d m e

  pub dec-fits : (C : List Count) (u : Numbers) (w : ℕ) → Fits address C u w ⊎ (Fits address C u w → ⊥)
  dec-fits [] u w = inl (λ c m e. absurd (no_member m))
  dec-fits (c ∷ C) u w = go (dec-fits C u w) (ℕ_discrete c.at (address w)) (dec_lt (u c.at) c.most)
    where
      go : Fits address C u w ⊎ (Fits address C u w → ⊥) → Dec (c.at ≡ address w) → Dec (u c.at < c.most) → Fits address (c ∷ C) u w ⊎ (Fits address (c ∷ C) u w → ⊥)
      go (inr no-fit) d l = inr (λ fits. no-fit (λ x m e. fits x (later m) e))
      go (inl rest) (no d) l = inl (fits-cons u (λ e. absurd (d e)) rest)
      go (inl rest) (yes d) (yes l) = inl (fits-cons u (λ e. l) rest)
      go (inl rest) (yes d) (no l) = inr (λ fits. l (fits c first d))

-- from v with the numbers u the routine ends, or a count is exceeded, whichever way is taken
pub data Lasts (f : Flow) (K : ℕ → Bool) (address : ℕ → ℕ) (C : List Count) : Routine → ℕ → Numbers → Type 0 where
  ends : {r : Routine} {v : ℕ} {u : Numbers} → f.kind v ≡ end_of r → Lasts f K address C r v u
  goes : {r : Routine} {v : ℕ} {u : Numbers} → f.kind v ≡ 1 → (Fits address C u (f.next v) → Lasts f K address C r (f.next v) (used address u (f.next v)))
      → (Fits address C u (f.other v) → Lasts f K address C r (f.other v) (used address u (f.other v))) → Lasts f K address C r v u
  calls : {r : Routine} {v : ℕ} {u : Numbers} → f.kind v ≡ 3 → Lasts f K address C (called (f.entry v)) (f.from (f.entry v)) (used address none (f.from (f.entry v)))
      → (Fits address C u (after f K v) → Lasts f K address C r (after f K v) (used address u (after f K v))) → Lasts f K address C r v u

module _ (f : Flow) (K : ℕ → Bool) (address : ℕ → ℕ) (C : List Count) {n E : ℕ} (small : Small f n E) (widens : Widens f) (no_recursion : (e : ℕ) → Recurs f e → ⊥) (settled : Settled f K address C) where
  -- a step to an uncounted place
  abbrev Flat : Routine → ℕ → ℕ → Type 0
  Flat r v w = Edge (within f K r) v w × (is_counted C (address w) ≡ false)

  flat-reach : (r : Routine) {v w : ℕ} → is_counted C (address v) ≡ false → Plus (Flat r) v w → ReachPlus (uncounted f K address C r) v w × (is_counted C (address w) ≡ false)
  flat-reach r h (once {a = v} {b = w} (e, h')) = ((w, uncounted_edge f K address C r v w h e, here), h')
  flat-reach r h (more {a = v} {b = w} (e, h') p) =
      let x = flat-reach r h' p in
      let q = x.0 in
      ((w, uncounted_edge f K address C r v w h e, step q.1 q.2), x.1)

  last_flat : (r : Routine) {v w : ℕ} → Plus (Flat r) v w → is_counted C (address w) ≡ false
  last_flat r (once (e, h)) = h
  last_flat r (more x p) = last_flat r p

  flats-end : {r : Routine} → Live f K r → (v : ℕ) → In f K r v → Acc (Flat r) v
  flats-end {r} l =
      accessible (Flat r) (In f K r) n (λ v w i e. reach_snoc i e.0) (λ v i. in-lt f K small l i) (λ v i p. settled.no_loop v (r, l, i, (flat-reach r (last_flat r p) p).0))

  module _ {r : Routine} (l : Live f K r) (callees : (v : ℕ) → In f K r v → f.kind v ≡ 3 → Lasts f K address C (called (f.entry v)) (f.from (f.entry v)) (used address none (f.from (f.entry v)))) where
    -- by what is left to count, and then by the uncounted steps
    lasts-in : (m : ℕ) {v : ℕ} (u : Numbers) → remaining C u < m → Acc (Flat r) v → In f K r v → Lasts f K address C r v u
    lasts-in zero u h a i = absurd (omega (arith, h))
    lasts-in (suc m) {v} u h (acc a) i =
        go (kind_of f v (end_of r))
        (λ w e fits flat. lasts-in (suc m) (used address u w) (omega (arith, h, remaining-le address C u w)) (a w (e, flat)) (reach_snoc i e))
        (λ w e less. lasts-in m (used address u w) (omega (arith, h, less)) (flats-end l w (reach_snoc i e)) (reach_snoc i e))
      where
        -- what follows, counted or not
        on : ((w : ℕ) → Edge (within f K r) v w → Fits address C u w → is_counted C (address w) ≡ false → Lasts f K address C r w (used address u w))
            → ((w : ℕ) → Edge (within f K r) v w → remaining C (used address u w) < remaining C u → Lasts f K address C r w (used address u w))
            → (w : ℕ) → Edge (within f K r) v w → Fits address C u w → Lasts f K address C r w (used address u w)
        on flat less w e fits = by (is_counted C (address w)) refl
          where
            by : (b : Bool) → is_counted C (address w) ≡ b → Lasts f K address C r w (used address u w)
            by false z = flat w e fits z
            by true z = let k = counted_member C (address w) z in less w e (remaining-lt address C u w k.0 k.1 k.2 (fits k.0 k.1 k.2))

        go : Kind f v (end_of r) → ((w : ℕ) → Edge (within f K r) v w → Fits address C u w → is_counted C (address w) ≡ false → Lasts f K address C r w (used address u w))
            → ((w : ℕ) → Edge (within f K r) v w → remaining C (used address u w) < remaining C u → Lasts f K address C r w (used address u w)) → Lasts f K address C r v u
        go (Kind.on k) flat less = goes k (λ fits. on flat less (f.next v) (edge_on f K r k (inl refl)) fits) (λ fits. on flat less (f.other v) (edge_on f K r k (inr refl)) fits)
        go (Kind.call k) flat less = calls k (callees v i k) (λ fits. on flat less (after f K v) (edge-call f K r k) fits)
        go (Kind.end k) flat less = ends k
        go (Kind.out x y z) flat less = absurd (settled.no_bad v (r, l, i, out-excluded f K r v x y z))

  lasts-called : {e : ℕ} → Acc (Calls f K) e → Live f K (called e) → Lasts f K address C (called e) (f.from e) (used address none (f.from e))
  lasts-called {e} (acc a) l =
      let u = used address none (f.from e) in
      lasts-in l (λ v i k. lasts-called (a (f.entry v) (v, i, k, refl)) (call l i k)) (suc (remaining C u)) u (omega arith) (flats-end l (f.from e) here) here

  pub lasts : Lasts f K address C outer f.start (used address none f.start)
  lasts =
      let u = used address none f.start in
      lasts-in handler (λ v i k. lasts-called (calls-end f K small widens no_recursion (f.entry v) (call handler i k)) (call handler i k)) (suc (remaining C u)) u (omega arith)
      (flats-end handler f.start here) here

-- how many steps that is at most
module _ {f : Flow} {K : ℕ → Bool} {address : ℕ → ℕ} {C : List Count} where
  unfoldable pub most_steps_lem : {r : Routine} {v : ℕ} {u : Numbers} → Lasts f K address C r v u → ℕ
  most_steps_lem (ends k) = 1
  most_steps_lem {v = v} {u = u} (goes k a b) = suc (if_fits (dec-fits address C u (f.next v)) (λ h. most_steps_lem (a h)) + if_fits (dec-fits address C u (f.other v)) (λ h. most_steps_lem (b h)))
  most_steps_lem {v = v} {u = u} (calls k a b) = suc (most_steps_lem a + if_fits (dec-fits address C u (after f K v)) (λ h. most_steps_lem (b h)))

-- The way by the sums is N's path, and the way by the depths is depth's.
use mathlib.Core.Path.{◌≡◌, refl, sym, ap, ap₂, ◌∙◌}
use mathlib.Core.Logic.{inl, inr}
use mathlib.Core.Bool.{Bool}
use mathlib.Core.List.{List, [], ◌∷◌}
use Prim.Native.Nat.{ℕ, suc, max}
use native.Mathlib.Omega.{arith}
use lib.ListN.{length, get_or}
use Rattle.graph.specs.Graph.{Graph, Reach, here, sum}
use Rattle.graph.proofs.Reach.{reach_snoc}
use Rattle.routines.specs.Calling.{Flow, Routine, called, end_of, start_in, after, within, In, Live, handler, call, HandlerPath, depth, FirstOf}
use Rattle.routines.proofs.Within.{edge_on, edge-call}
use Rattle.routines.proofs.Done.{Nested, none, inner}
use Rattle.routines.specs.Sums as sums
use Rattle.routines.specs.Sums.{sum_at, Sums}
use Rattle.routines.proofs.Longest.{way-is-longest}
use Rattle.routines.specs.Depths as depths
use Rattle.routines.specs.Depths.{depth_at, Depths, pending}
use Rattle.routines.proofs.Deepest.{way-is-deepest}
use Rattle.routines_paths.specs.Way as way
use Rattle.routines_paths.specs.Deep as deep
use Rattle.routines_paths.specs.Deep.{later}
use Rattle.routines_bound.proofs.Ways.{Ways, is-on, is_call, is-end}

heads : (a b : ℕ) (x y : List ℕ) → a ∷ x ≡ b ∷ y → a ≡ b
heads a b x y q = cc

tails : (a b : ℕ) (x y : List ℕ) → a ∷ x ≡ b ∷ y → x ≡ y
tails a b x y q = cc

one_more : {w : ℕ} {ys : List ℕ} → ◌≡◌ {A = List ℕ} [] (w ∷ ys) → ⊥
one_more e = let q : ◌≡◌ {A = ℕ} 0 1 = cc in omega arith

-- a routine's end: that of the outer one, or back to where the latest call goes on
module _ (f : Flow) (K : ℕ → Bool) (R : List ℕ → ℕ → List ℕ → Type 0) where
  ends_with : ((v : ℕ) → f.kind v ≡ 2 → R [] v (v ∷ [])) → {r : Routine} {ks : List ℕ} → Nested f K r ks → (v : ℕ) → [] ≡ ks → f.kind v ≡ end_of r → R ks v (v ∷ [])
  ends_with rti none v z k = rti v k
  ends_with rti (inner n l i c) v z k = absurd (one_more z)

  returns-with : ((v w : ℕ) (ks t : List ℕ) → f.kind v ≡ 4 → R ks w t → R (w ∷ ks) v (v ∷ t)) → {r : Routine} {ks : List ℕ} → Nested f K r ks → (v w : ℕ) (ys t : List ℕ) → w ∷ ys ≡ ks → f.kind v ≡ end_of r
      → ((r' : Routine) (ks' : List ℕ) → Nested f K r' ks' → (v' : ℕ) → Live f K r' → In f K r' v' → w ≡ v' → ys ≡ ks' → R ks' v' t) → R ks v (v ∷ t)
  returns-with ret none v w ys t z k ih = absurd (one_more (sym z))
  returns-with ret (inner {r = r'} {ks = ks'} {u = u} n l i c) v w ys t z k ih =
      ret v (after f K u) ks' t k (ih r' ks' n (after f K u) l (reach_snoc i (edge-call f K r' c)) (heads w (after f K u) ys ks' z) (tails w (after f K u) ys ks' z))

module _ (f : Flow) (K : ℕ → Bool) (g : Graph) (d : List ℕ) (ways : Ways f K g) where
  abbrev Way : List ℕ → ℕ → List ℕ → Type 0
  Way ks v l = sums.Route f K (λ u. get_or d u 0) (λ u. get_or d u 0) ks v l

  -- one sum a number, whichever calls are open
  sum-at : (ks : List ℕ) (v : ℕ) → sum_at (λ u. get_or d u 0) (λ u. get_or d u 0) ks v ≡ get_or d v 0
  sum-at [] v = refl
  sum-at (w ∷ ks) v = refl

  way_of : {r : Routine} {ks : List ℕ} → Nested f K r ks → (v : ℕ) → Live f K r → Reach (within f K r) (start_in f r) v → (x : ℕ) (xs l : List ℕ) → x ≡ v → xs ≡ ks → way.Route g d xs x l → Way ks v l
  way_of {r} n v live i x xs l e z (way.Route.last k) = rw e (ends_with f K Way (λ v k. sums.Route.rti k) n v z (is-end (ways r v live i) (rw e at k)))
  way_of {r} {ks} n v live i x xs l e z (way.Route.move {l = t} (way.Move.to_next {w = w} k q h) p) =
      let on = is-on (ways r v live i) (rw e at k) in
      let is : w ≡ f.next v = q ∙ ap (λ (y : ℕ). g.next y) e ∙ sym on.1.next in
      let ih = way_of n (f.next v) live (reach_snoc i (edge_on f K r on.0 (inl refl))) w xs t is z p in
      rw e (sums.Route.turn {ks = ks} on.0 (sums.Turn.to_next refl (rw (sum-at ks (f.other v), sum-at ks (f.next v), on.1.other, on.1.next, ← e) h)) ih)
  way_of {r} {ks} n v live i x xs l e z (way.Route.move {l = t} (way.Move.to_other {w = w} k q h) p) =
      let on = is-on (ways r v live i) (rw e at k) in
      let is : w ≡ f.other v = q ∙ ap (λ (y : ℕ). g.other y) e ∙ sym on.1.other in
      let ih = way_of n (f.other v) live (reach_snoc i (edge_on f K r on.0 (inr refl))) w xs t is z p in
      rw e (sums.Route.turn {ks = ks} on.0 (sums.Turn.to_other refl (rw (sum-at ks (f.other v), sum-at ks (f.next v), on.1.other, on.1.next, ← e) h)) ih)
  way_of {r} n v live i x xs l e z (way.Route.move {l = t} (way.Move.into {w = w} {x = y} k q h) p) =
      let c = is_call (ways r v live i) (rw e at k) in
      let at : w ≡ f.from (f.entry v) = q ∙ ap (λ (y : ℕ). g.next y) e ∙ sym c.1.next in
      let on : y ≡ after f K v = h ∙ ap (λ (y : ℕ). g.other y) e ∙ sym c.1.other in
      let ih = way_of {r = called (f.entry v)} (inner n live i c.0) (f.from (f.entry v)) (call live i c.0) here w (y ∷ xs) t at (ap₂ (λ (a : ℕ) (b : List ℕ). a ∷ b) on z) p in
      rw e (sums.Route.calls c.0 ih)
  way_of {r} n v live i x xs l e z (way.Route.move {l = t} (way.Move.back {ks = ys} {w = w} k) p) =
      rw e
      (returns-with f K Way (λ v w ks t k p. sums.Route.ret k p) n v w ys t z (is-end (ways r v live i) (rw e at k)) (λ r' ks' n' v' l' i' a b. way_of {r = r'} n' v' l' i' w ys t a b p))

  pub longest-is : {c : ℕ → ℕ} → Sums f K c (λ v. get_or d v 0) (λ v. get_or d v 0) → {l : List ℕ} → way.Route g d [] f.start l → FirstOf f (HandlerPath f K) (sum c) l × (sum c l ≡ get_or d f.start 0)
  longest-is {c} s {l} p = way-is-longest f K c (λ v. get_or d v 0) (λ v. get_or d v 0) s (way_of none f.start handler here f.start [] l refl refl p)

module _ (f : Flow) (K : ℕ → Bool) (g : Graph) (dep : List ℕ) (goal : ℕ) (ways : Ways f K g) where
  abbrev DeepWay : ℕ → List ℕ → ℕ → List ℕ → Type 0
  DeepWay reached ks v l = depths.Route f K (λ u. get_or dep u 0) (λ u. get_or dep u 0) goal reached ks v l

  depth-at : (ks : List ℕ) (v : ℕ) → depth_at (λ u. get_or dep u 0) (λ u. get_or dep u 0) ks v ≡ get_or dep v 0
  depth-at [] v = refl
  depth-at (w ∷ ks) v = refl

  later-is : (ks : List ℕ) → pending (λ u. get_or dep u 0) (λ u. get_or dep u 0) ks ≡ later dep ks
  unfolding later pending
  later-is [] = refl
  later-is (w ∷ ks) = rw (later-is ks, depth-at ks w) refl

  -- the total past next
  next-total : (reached v x : ℕ) (ks xs : List ℕ) → xs ≡ ks → g.next x ≡ f.next v → depths.total (λ u. get_or dep u 0) (λ u. get_or dep u 0) reached ks (f.next v) ≡ deep.total dep reached xs (g.next x)
  next-total reached v x ks xs z e = rw (z, e, later-is ks, depth-at ks (f.next v)) refl

  deep_of : {r : Routine} {ks : List ℕ} → Nested f K r ks → (reached v : ℕ) → Live f K r → Reach (within f K r) (start_in f r) v → (x : ℕ) (xs l : List ℕ) → x ≡ v → xs ≡ ks
      → deep.Route g dep goal reached xs x l → DeepWay reached ks v l
  deep_of {r} n reached v live i x xs l e z (deep.Route.last k) = rw e (ends_with f K (DeepWay reached) (λ v k. depths.Route.rti k) n v z (is-end (ways r v live i) (rw e at k)))
  deep_of {r} {ks} n reached v live i x xs l e z (deep.Route.move {l = t} (deep.Move.to_next {w = w} k q h) p) =
      let on = is-on (ways r v live i) (rw e at k) in
      let is : g.next x ≡ f.next v = ap (λ (y : ℕ). g.next y) e ∙ sym on.1.next in
      let ih = deep_of n reached (f.next v) live (reach_snoc i (edge_on f K r on.0 (inl refl))) w xs t (q ∙ is) z p in
      rw e (depths.Route.turn {reached = reached} {ks = ks} on.0 (depths.Turn.to_next refl (omega (arith, h, next-total reached v x ks xs z is))) ih)
  deep_of {r} {ks} n reached v live i x xs l e z (deep.Route.move {l = t} (deep.Move.to_other {w = w} k q h) p) =
      let on = is-on (ways r v live i) (rw e at k) in
      let is : g.next x ≡ f.next v = ap (λ (y : ℕ). g.next y) e ∙ sym on.1.next in
      let at : w ≡ f.other v = q ∙ ap (λ (y : ℕ). g.other y) e ∙ sym on.1.other in
      let ih = deep_of n reached (f.other v) live (reach_snoc i (edge_on f K r on.0 (inr refl))) w xs t at z p in
      rw e (depths.Route.turn {reached = reached} {ks = ks} on.0 (depths.Turn.to_other refl (omega (arith, h, next-total reached v x ks xs z is))) ih)
  deep_of {r} {ks} n reached v live i x xs l e z (deep.Route.move {l = t} (deep.Move.into {y = m} {w = w} {x = y} k q h b) p) =
      let c = is_call (ways r v live i) (rw e at k) in
      let at : w ≡ f.from (f.entry v) = q ∙ ap (λ (y : ℕ). g.next y) e ∙ sym c.1.next in
      let on : y ≡ after f K v = h ∙ ap (λ (y : ℕ). g.other y) e ∙ sym c.1.other in
      let ih = deep_of {r = called (f.entry v)} (inner n live i c.0) m (f.from (f.entry v)) (call live i c.0) here w (y ∷ xs) t at (ap₂ (λ (a : ℕ) (b : List ℕ). a ∷ b) on z) p in
      let u : m ≡ max reached (suc (length ks)) = b ∙ ap (λ (a : List ℕ). max reached (suc (length a))) z in
      rw e (depths.Route.calls c.0 (rw u at ih))
  deep_of {r} n reached v live i x xs l e z (deep.Route.move {l = t} (deep.Move.back {w = w} {ks = ys} k) p) =
      rw e
      (returns-with f K (DeepWay reached) (λ v w ks t k p. depths.Route.ret k p) n v w ys t z (is-end (ways r v live i) (rw e at k)) (λ r' ks' n' v' l' i' a b. deep_of {r = r'} n' reached v' l' i' w ys t a b p))

pub deepest_is : (f : Flow) (K : ℕ → Bool) (g : Graph) (dep : List ℕ) → Ways f K g → Depths f K (λ v. get_or dep v 0) (λ v. get_or dep v 0) → {l : List ℕ} → deep.Route g dep (get_or dep f.start 0) 0 [] f.start l
    → FirstOf f (HandlerPath f K) (depth f) l × (depth f l ≡ get_or dep f.start 0)
deepest_is f K g dep ways s {l} p =
    way-is-deepest f K (λ v. get_or dep v 0) (λ v. get_or dep v 0) s (deep_of f K g dep (get_or dep f.start 0) ways none 0 f.start handler here f.start [] l refl refl p)

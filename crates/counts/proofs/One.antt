-- Any two answers under the same counts are equal: what comes back, and both buffers.
use mathlib.Core.Path.{◌≡◌, refl, sym, ap, subst, ◌∙◌}
use mathlib.Core.Bool.{Bool, true, false}
use mathlib.Core.List.{List, [], ◌∷◌}
use Prim.Native.Nat.{ℕ}
use native.Mathlib.Omega.{arith}
use Rattle.graph.specs.Graph.{Edge, Reach, here, step, sum}
use Rattle.graph.proofs.Reach.{reach_snoc, reach_trans}
use Rattle.graph.proofs.Unique.{least_unique}
use Rattle.routines.specs.Calling.{Flow, Routine, outer, called, after, within, In, Live, handler, call, IsBad, FirstOf, depth}
use Rattle.routines.specs.Shape.{Small, Widens}
use Rattle.routines.specs.Answer.{Found, recursion, excluded, repetition, LowestAddress, Judged, Kept, PathAnswer}
use Rattle.routines.proofs.Within.{edge_on, edge-call}
use Rattle.routines.proofs.First.{first_unique}
use Rattle.routines.proofs.Same.{after_same, reach-to, both-same, live_to, in-to, known-to, lowest-bad-to}
use Rattle.routines.proofs.Same as same
use Rattle.routines.proofs.OneAnswer.{Same, paths_same, lowest_none}
use Rattle.counts.specs.Counts as counts
use Rattle.counts.specs.Counts.{Count, Numbers, is_counted, used, Open, Counted, CountedPath, uncounted, IsUncountedLoop}
use Rattle.counts.specs.Weights.{Reached, steps, Behind, Ahead, Weighs, Weight}
use Rattle.counts.specs.CountedAnswer.{CountedFound, as_today, HasCountedBound, CountedFlowAnswer, CountedAnswer}
use Rattle.counts.proofs.Turning.{edge_any, reach_any, uncounted_edge}
use Rattle.counts.proofs.Sums.{product_one, product_to, total-one, total_to}

pub uncounted_parts : (f : Flow) (K : ℕ → Bool) (address : ℕ → ℕ) (C : List Count) (r : Routine) (v w : ℕ) → Edge (uncounted f K address C r) v w → (is_counted C (address v) ≡ false) × Edge (within f K r) v w
unfolding uncounted
uncounted_parts f K address C r v w (k, n) = go (is_counted C (address v)) refl
  where
    go : (b : Bool) → is_counted C (address v) ≡ b → (is_counted C (address v) ≡ false) × Edge (within f K r) v w
    go false e = (e, (rw e at k, n))
    go true e = let z : ◌≡◌ {A = ℕ} 0 1 = rw e at k in absurd (omega (arith, z))

-- the calls that are open, by where they go on: each is one at a reachable place of the routine outside
data Nested (f : Flow) (K : ℕ → Bool) : Routine → List Open → Type 0 where
  none : Nested f K outer []
  inner : {r : Routine} {ks : List Open} {u : ℕ} {t : Numbers} → Nested f K r ks → Live f K r → In f K r u → f.kind u ≡ 3 → Nested f K (called (f.entry u)) (record { place = after f K u; numbers = t } ∷ ks)

module _ {f : Flow} {n E : ℕ} (small : Small f n E) (widens : Widens f) {K K' : ℕ → Bool} (judged : Judged f K) (judged' : Judged f K') (address : ℕ → ℕ) (C : List Count) where
  -- ways from a place that is reached
  way-to : {v w : ℕ} → Reached f K v → Reach (steps f K) v w → Reach (steps f K') v w
  way-to (r, l, i) q =
      let alike = both-same small widens judged judged' l (live_to small widens judged judged' l) in
      reach_any f K' r outer (reach-to f K K' r alike i (in-to small widens judged judged' l i) (reach_any f K outer r q))

  reached-to : {v : ℕ} → Reached f K v → Reached f K' v
  reached-to (r, l, i) = (r, live_to small widens judged judged' l, in-to small widens judged judged' l i)

  reached_on : {v w : ℕ} → Reached f K v → Reach (steps f K) v w → Reached f K w
  reached_on (r, l, i) q = (r, l, reach_trans i (reach_any f K outer r q))

  edge_to : (v w : ℕ) → Reached f K v → Edge (steps f K) v w → Edge (steps f K') v w
  edge_to v w (r, l, i) e =
      let alike = both-same small widens judged judged' l (live_to small widens judged judged' l) in
      edge_any f K' r outer v w (same.edge_to f K K' r alike i (in-to small widens judged judged' l i) (edge_any f K outer r v w e))

  behind-to : {a v : ℕ} → Behind f K address a v → Behind f K' address a v
  behind-to (q, x, e, p) = (q, reached-to x, e, way-to x p)

  ahead-to : {a v : ℕ} → Reached f K v → Ahead f K address a v → Ahead f K' address a v
  ahead-to {v = v} x (q, e, (w, d, p)) = (q, e, (w, edge_to v w x d, way-to (reached_on x (step d here)) p))

  weighs-to : {v : ℕ} → Reached f K v → (c : Count) → Weighs f K address v c → Weighs f K' address v c
  weighs-to x c w = record { behind = behind-to w.behind; ahead = ahead-to x w.ahead }

  -- a step among uncounted places
  uncounted-to : {r : Routine} (l : Live f K r) (v w : ℕ) → In f K r v → Edge (uncounted f K address C r) v w → Edge (uncounted f K' address C r) v w
  uncounted-to {r} l v w i e =
      let alike = both-same small widens judged judged' l (live_to small widens judged judged' l) in
      let d = uncounted_parts f K address C r v w e in
      uncounted_edge f K' address C r v w d.0 (same.edge_to f K K' r alike i (in-to small widens judged judged' l i) d.1)

  uncounted-on : {r : Routine} {v w : ℕ} (l : Live f K r) → In f K r v → Reach (uncounted f K address C r) v w → Reach (uncounted f K' address C r) v w
  uncounted-on l i here = here
  uncounted-on {r} l i (step {u} {v} e q) = step (uncounted-to l u v i e) (uncounted-on l (reach_snoc i (uncounted_parts f K address C r u v e).1) q)

  loop-to : (v : ℕ) → IsUncountedLoop f K address C v → IsUncountedLoop f K' address C v
  loop-to v (r, l, i, (w, e, q)) =
      (r, live_to small widens judged judged' l, in-to small widens judged judged' l i, (w, uncounted-to l v w i e, uncounted-on l (reach_snoc i (uncounted_parts f K address C r v w e).1) q))

  path-in : {r : Routine} {ks : List Open} {u : Numbers} {v : ℕ} {l : List ℕ} → Nested f K r ks → Live f K r → In f K r v → Counted f K address C ks u v l → Counted f K' address C ks u v l
  path-in n live i (Counted.rti k) = Counted.rti k
  path-in {r} n live i (Counted.goes k e fits p) = Counted.goes k e fits (path-in n live (reach_snoc i (edge_on f K r k e)) p)
  path-in {r} {ks = ks} {u = u} n live i (Counted.calls {v = v} {l = l} k p) =
      let e : after f K v ≡ after f K' v = after_same f K K' v (known-to small widens judged judged' (f.entry v) (call live i k)) in
      Counted.calls {ks = ks} {l = l} k (subst (λ y. Counted f K' address C (record { place = y; numbers = u } ∷ ks) (used address counts.none (f.from (f.entry v))) (f.from (f.entry v)) l) e
      (path-in {r = called (f.entry v)} (inner n live i k) (call live i k) here p))
  path-in (inner {r = r} n live' j c) live i (Counted.ret k fits p) = Counted.ret k fits (path-in {r = r} n live' (reach_snoc j (edge-call f K r c)) p)

  path-to : {l : List ℕ} → CountedPath f K address C l → CountedPath f K' address C l
  path-to p = path-in none handler here p

module _ {f : Flow} {n E : ℕ} (small : Small f n E) (widens : Widens f) {K K' : ℕ → Bool} (judged : Judged f K) (judged' : Judged f K') (address : ℕ → ℕ) (C : List Count) where
  first_to : {measure : List ℕ → ℕ} {l : List ℕ} → FirstOf f (CountedPath f K address C) measure l → FirstOf f (CountedPath f K' address C) measure l
  first_to a = record {
    in_it = path-to small widens judged judged' address C a.in_it;
    most = λ m p. a.most m (path-to small widens judged' judged address C p);
    first = λ m p e. a.first m (path-to small widens judged' judged address C p) e;
  }

  lowest_to : {a : ℕ} → LowestAddress address (IsUncountedLoop f K address C) a → LowestAddress address (IsUncountedLoop f K' address C) a
  lowest_to x = record {
    holds = let h = x.holds in (h.0, loop-to small widens judged judged' address C h.0 h.1, h.2);
    least = λ b h. x.least b (h.0, loop-to small widens judged' judged address C h.0 h.1, h.2);
  }

  weight-to : {t : ℕ} → Weight f K address C t → Weight f K' address C t
  weight-to w =
      let l = w.lists in
      record {
        places = w.places;
        lists = record { only = λ v m. reached-to small widens judged judged' address C (l.only v m); all = λ v x. l.all v (reached-to small widens judged' judged address C x); once = l.once };
        total = total_to (λ v x m p. product_to (weighs-to small widens judged judged' address C (l.only v m)) (weighs-to small widens judged' judged address C (reached-to small widens judged judged' address C (l.only v m))) p) w.total;
      }

pub weight_one : {f : Flow} {K : ℕ → Bool} {address : ℕ → ℕ} {C : List Count} {m n : ℕ} → Weight f K address C m → Weight f K address C n → m ≡ n
weight_one a b =
    let l = a.lists in
    let m = b.lists in
    total-one (λ v x y p q. product_one p q) l.once m.once (λ v i. m.all v (l.only v i)) (λ v i. l.all v (m.only v i)) a.total b.total

-- where neither 21 nor 22 is answered by one, it is not by the other
module _ {f : Flow} {n E : ℕ} (small : Small f n E) (widens : Widens f) (address : ℕ → ℕ) (C : List Count) {K K' : ℕ → Bool} (j : Judged f K) (j' : Judged f K') where
  no-21 : {a : ℕ} → LowestAddress address (IsBad f K) a → ((v : ℕ) → IsBad f K' v → ⊥) → ⊥
  no-21 l none-bad = lowest_none (lowest-bad-to small widens j j' l) none-bad

  no-22 : {a : ℕ} → LowestAddress address (IsUncountedLoop f K address C) a → ((v : ℕ) → IsUncountedLoop f K' address C v → ⊥) → ⊥
  no-22 l none-loop = lowest_none (lowest_to small widens j j' address C l) none-loop

  turns_same : {s t : ℕ} → Weight f K address C s → Weight f K' address C t → s ≡ t
  turns_same a b = weight_one (weight-to small widens j j' address C a) b

  no-27 : {l : List ℕ} → CountedPath f K address C l → ((l : List ℕ) → CountedPath f K' address C l → ⊥) → ⊥
  no-27 {l} x none-path = none-path l (path-to small widens j j' address C x)

-- what came back, and what the buffers became
abbrev pub SameCounted : CountedFound → CountedFound → List ℕ → List ℕ → List ℕ → List ℕ → Type 0
SameCounted x y p' p'' q' q'' = (x ≡ y) × (p' ≡ p'') × (q' ≡ q'')

kept_same : {x y : CountedFound} {p p' p'' q q' q'' : List ℕ} → x ≡ y → Kept p p' q q' → Kept p p'' q q'' → SameCounted x y p' p'' q' q''
kept_same e a b = (e, a.first ∙ sym b.first, a.second ∙ sym b.second)

today_same : {x y : Found} {p' p'' q' q'' : List ℕ} → Same x y p' p'' q' q'' → SameCounted (as_today x) (as_today y) p' p'' q' q''
today_same (e, a, b) = (ap as_today e, a, b)

module _ {f : Flow} {cycles address : ℕ → ℕ} {C : List Count} {p p' p'' q q' q'' : List ℕ} {n E : ℕ} (small : Small f n E) (widens : Widens f) where
  bounds-same : {K K' : ℕ → Bool} {N N' d d' : ℕ} {path path' deep deep' : List ℕ} {x y : Found} → Judged f K → Judged f K'
      → HasCountedBound f cycles K address C N d path deep → HasCountedBound f cycles K' address C N' d' path' deep'
      → PathAnswer address p p' q q' N d path deep x → PathAnswer address p p'' q q'' N' d' path' deep' y → Same x y p' p'' q' q''
  bounds-same {N = N} {N' = N'} {d = d} {d' = d'} {path = path} {path' = path'} {deep = deep} {deep' = deep'} j j' a b c c' =
      let ep : path' ≡ path = first_unique b.longest (first_to small widens j j' address C a.longest) in
      let eq : deep' ≡ deep = first_unique b.deepest (first_to small widens j j' address C a.deepest) in
      let eN : N' ≡ N = b.sum ∙ ap (λ (l : List ℕ). sum cycles l) ep ∙ sym a.sum in
      let ed : d' ≡ d = b.depth ∙ ap (λ (l : List ℕ). depth f l) eq ∙ sym a.depth in
      paths_same c (rw (ep, eq, eN, ed) at c')

  flows-same : {K K' : ℕ → Bool} {x y : CountedFound} → Judged f K → Judged f K' → CountedFlowAnswer f cycles address C p p' q q' K x → CountedFlowAnswer f cycles address C p p'' q q'' K' y → SameCounted x y p' p'' q' q''
  flows-same j j' (CountedFlowAnswer.gives_21 a k) (CountedFlowAnswer.gives_21 b k') = kept_same (ap (λ (z : ℕ). as_today (excluded z)) (least_unique (lowest-bad-to small widens j j' a) b)) k k'
  flows-same j j' (CountedFlowAnswer.gives_21 a k) (CountedFlowAnswer.gives_22 m b k') = absurd (no-21 small widens address C j j' a m)
  flows-same j j' (CountedFlowAnswer.gives_21 a k) (CountedFlowAnswer.gives_28 s w h k') = absurd (no-21 small widens address C j j' a s.no_bad)
  flows-same j j' (CountedFlowAnswer.gives_21 a k) (CountedFlowAnswer.gives_27 s w h m k') = absurd (no-21 small widens address C j j' a s.no_bad)
  flows-same j j' (CountedFlowAnswer.gives_21 a k) (CountedFlowAnswer.bounded s w h b c) = absurd (no-21 small widens address C j j' a s.no_bad)
  flows-same j j' (CountedFlowAnswer.gives_22 m a k) (CountedFlowAnswer.gives_21 b k') = absurd (no-21 small widens address C j' j b m)
  flows-same j j' (CountedFlowAnswer.gives_22 m a k) (CountedFlowAnswer.gives_22 m' b k') = kept_same (ap (λ (z : ℕ). as_today (repetition z)) (least_unique (lowest_to small widens j j' address C a) b)) k k'
  flows-same j j' (CountedFlowAnswer.gives_22 m a k) (CountedFlowAnswer.gives_28 s w h k') = absurd (no-22 small widens address C j j' a s.no_loop)
  flows-same j j' (CountedFlowAnswer.gives_22 m a k) (CountedFlowAnswer.gives_27 s w h m' k') = absurd (no-22 small widens address C j j' a s.no_loop)
  flows-same j j' (CountedFlowAnswer.gives_22 m a k) (CountedFlowAnswer.bounded s w h b c) = absurd (no-22 small widens address C j j' a s.no_loop)
  flows-same j j' (CountedFlowAnswer.gives_28 s w h k) (CountedFlowAnswer.gives_21 b k') = absurd (no-21 small widens address C j' j b s.no_bad)
  flows-same j j' (CountedFlowAnswer.gives_28 s w h k) (CountedFlowAnswer.gives_22 m b k') = absurd (no-22 small widens address C j' j b s.no_loop)
  flows-same j j' (CountedFlowAnswer.gives_28 s w h k) (CountedFlowAnswer.gives_28 s' w' h' k') = kept_same refl k k'
  flows-same j j' (CountedFlowAnswer.gives_28 s w h k) (CountedFlowAnswer.gives_27 s' w' h' m k') = absurd (omega (arith, turns_same small widens address C j j' w w', h, h'))
  flows-same j j' (CountedFlowAnswer.gives_28 s w h k) (CountedFlowAnswer.bounded s' w' h' b c) = absurd (omega (arith, turns_same small widens address C j j' w w', h, h'))
  flows-same j j' (CountedFlowAnswer.gives_27 s w h m k) (CountedFlowAnswer.gives_21 b k') = absurd (no-21 small widens address C j' j b s.no_bad)
  flows-same j j' (CountedFlowAnswer.gives_27 s w h m k) (CountedFlowAnswer.gives_22 m' b k') = absurd (no-22 small widens address C j' j b s.no_loop)
  flows-same j j' (CountedFlowAnswer.gives_27 s w h m k) (CountedFlowAnswer.gives_28 s' w' h' k') = absurd (omega (arith, turns_same small widens address C j j' w w', h, h'))
  flows-same j j' (CountedFlowAnswer.gives_27 s w h m k) (CountedFlowAnswer.gives_27 s' w' h' m' k') = kept_same refl k k'
  flows-same j j' (CountedFlowAnswer.gives_27 s w h m k) (CountedFlowAnswer.bounded s' w' h' b c) = absurd (no-27 small widens address C j' j b.longest.in_it m)
  flows-same j j' (CountedFlowAnswer.bounded s w h a c) (CountedFlowAnswer.gives_21 b k') = absurd (no-21 small widens address C j' j b s.no_bad)
  flows-same j j' (CountedFlowAnswer.bounded s w h a c) (CountedFlowAnswer.gives_22 m b k') = absurd (no-22 small widens address C j' j b s.no_loop)
  flows-same j j' (CountedFlowAnswer.bounded s w h a c) (CountedFlowAnswer.gives_28 s' w' h' k') = absurd (omega (arith, turns_same small widens address C j j' w w', h, h'))
  flows-same j j' (CountedFlowAnswer.bounded s w h a c) (CountedFlowAnswer.gives_27 s' w' h' m k') = absurd (no-27 small widens address C j j' a.longest.in_it m)
  flows-same j j' (CountedFlowAnswer.bounded s w h a c) (CountedFlowAnswer.bounded s' w' h' b c') = today_same (bounds-same j j' a b c c')

  pub one_answer : {x y : CountedFound} → CountedAnswer f cycles address C p p' q q' x → CountedAnswer f cycles address C p p'' q q'' y → SameCounted x y p' p'' q' q''
  one_answer (CountedAnswer.gives_24 a k) (CountedAnswer.gives_24 b k') = kept_same (ap (λ (z : ℕ). as_today (recursion z)) (least_unique a b)) k k'
  one_answer (CountedAnswer.gives_24 {e = e} a k) (CountedAnswer.judged j b) = absurd (j.no_recursion e a.holds)
  one_answer (CountedAnswer.judged j a) (CountedAnswer.gives_24 {e = e} b k) = absurd (j.no_recursion e b.holds)
  one_answer (CountedAnswer.judged j a) (CountedAnswer.judged j' b) = flows-same j j' a b

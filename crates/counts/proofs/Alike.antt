-- Flows whose places are paired and left in pairs, each by what is known after its calls, have the same answers under counts: so it is where places are numbered anew, and where the place after each call is chosen.
use mathlib.Core.Path.{◌≡◌, refl, sym, ap, ap₂, subst, ◌∙◌}
use mathlib.Core.Logic.{◌⊎◌, inl, inr, ⊎_elim}
use mathlib.Core.Bool.{Bool}
use mathlib.Core.List.{List, [], ◌∷◌}
use Prim.Native.Nat.{ℕ, suc}
use lib.Dec.{eqb}
use Rattle.laws.specs.Choice.{pick}
use Rattle.graph.specs.Graph.{Edge, Reach, here, step}
use Rattle.routines.specs.Calling.{Flow, Routine, outer, start_in, after, within, Live, handler, call, IsBad, opened, deepest, Before, FirstOf}
use Rattle.routines.proofs.Within.{edge_on, edge-call, edge-cases}
use Rattle.routines.proofs.Paired.{Both, none, pair, Same, both_back, both_sum, lowest_to, path_answer_to}
use Rattle.counts.specs.Counts as counts
use Rattle.counts.specs.Counts.{Count, Member, first, later, Numbers, used, Fits, Open, Counted, CountedPath, uncounted, IsUncountedLoop}
use Rattle.counts.specs.Weights.{Reached, steps, Weighs, Product, Total, Once, Weight}
use Rattle.counts.specs.CountedAnswer.{CountedFound, Settled, HasCountedBound, CountedFlowAnswer}
use Rattle.counts.proofs.Turning.{uncounted_edge}
use Rattle.counts.proofs.Sums.{product_to}
use Rattle.counts.proofs.One.{uncounted_parts}

-- one more at an address
abbrev pub used_at : ℕ → Numbers → Numbers
used_at x u a = pick (eqb a x) (suc (u a)) (u a)

-- S pairs places of f with places of g. It is the same read from g
pub record Alike (f : Flow) (K : ℕ → Bool) (g : Flow) (L : ℕ → Bool) (S : ℕ → ℕ → Type 0) : Type 0 where
  pub one : {v w x : ℕ} → S v w → S v x → w ≡ x
  pub one_back : {u v w : ℕ} → S u w → S v w → u ≡ v
  pub start : S f.start g.start
  pub kind : {v w : ℕ} → S v w → f.kind v ≡ g.kind w
  pub next : {v w : ℕ} → S v w → f.kind v ≡ 1 → S (f.next v) (g.next w)
  pub other : {v w : ℕ} → S v w → f.kind v ≡ 1 → S (f.other v) (g.other w)
  pub past : {v w : ℕ} → S v w → f.kind v ≡ 3 → S (after f K v) (after g L w)
  pub entry : {v w : ℕ} → S v w → f.kind v ≡ 3 → f.entry v ≡ g.entry w
  pub into : {v w : ℕ} → S v w → f.kind v ≡ 3 → S (f.from (f.entry v)) (g.from (g.entry w))

module _ {f : Flow} {K : ℕ → Bool} {g : Flow} {L : ℕ → Bool} {S : ℕ → ℕ → Type 0} (a : Alike f K g L S) where
  pub alike-sym : Alike g L f K (λ w v. S v w)
  alike-sym =
      record {
        one = λ s t. a.one_back s t;
        one_back = λ s t. a.one s t;
        start = a.start;
        kind = λ s. sym (a.kind s);
        next = λ s k. a.next s (a.kind s ∙ k);
        other = λ s k. a.other s (a.kind s ∙ k);
        past = λ s k. a.past s (a.kind s ∙ k);
        entry = λ s k. sym (a.entry s (a.kind s ∙ k));
        into = λ s k. a.into s (a.kind s ∙ k);
      }

  both_one : {l m k : List ℕ} → Both S l m → Both S l k → m ≡ k
  both_one none none = refl
  both_one (pair s b) (pair t c) = ap₂ (λ (x : ℕ) (y : List ℕ). x ∷ y) (a.one s t) (both_one b c)

  there : {v w k : ℕ} → S v w → f.kind v ≡ k → g.kind w ≡ k
  there s e = sym (a.kind s) ∙ e

  -- a step, and where it leads
  edge_to : (r : Routine) {u v w : ℕ} → S u w → Edge (within f K r) u v → (x : ℕ) × Edge (within g L r) w x × S v x
  edge_to r {u} {v} {w} s e = go (edge-cases f K r e)
    where
      go : ((f.kind u ≡ 1) × ((v ≡ f.next u) ⊎ (v ≡ f.other u))) ⊎ ((f.kind u ≡ 3) × (v ≡ after f K u)) → (x : ℕ) × Edge (within g L r) w x × S v x
      go (inl (k, inl n)) = (g.next w, edge_on g L r (there s k) (inl refl), rw n (a.next s k))
      go (inl (k, inr n)) = (g.other w, edge_on g L r (there s k) (inr refl), rw n (a.other s k))
      go (inr (k, n)) = (after g L w, edge-call g L r (there s k), rw n (a.past s k))

  reach-to : (r : Routine) {u v w : ℕ} → S u w → Reach (within f K r) u v → (x : ℕ) × Reach (within g L r) w x × S v x
  reach-to r {w = w} s here = (w, here, s)
  reach-to r s (step e q) =
      let x = edge_to r s e in
      let y = reach-to r x.2 q in
      (y.0, step x.1 y.1, y.2)

  live_to : {r : Routine} → Live f K r → Live g L r × S (start_in f r) (start_in g r)
  live_to handler = (handler, a.start)
  live_to (call {r = r} {v = v} l i k) =
      let x = live_to l in
      let y = reach-to r x.1 i in
      let e = a.entry y.2 k in
      (rw e (call x.0 y.1 (there y.2 k)), rw (← e) at (a.into y.2 k))

  reached-to : {v : ℕ} → Reached f K v → (w : ℕ) × Reached g L w × S v w
  reached-to (r, l, i) = let x = live_to l in let y = reach-to r x.1 i in (y.0, (r, x.0, y.1), y.2)

  bad-to : (v : ℕ) → IsBad f K v → (w : ℕ) × IsBad g L w × S v w
  unfolding within
  bad-to v (r, l, i, x) =
      let t = live_to l in
      let y = reach-to r t.1 i in
      let e = a.kind y.2 in
      (y.0, (r, t.0, y.1, record { not_on = λ d. x.not_on (rw e d); not_end = λ d. x.not_end (rw e d) }), y.2)

  before-to : {l m h k : List ℕ} → Both S l h → Both S m k → Before f l m → Before g h k
  before-to (pair s (pair t b)) (pair s' (pair t' b')) (Before.turns k n o ne) =
      rw (a.one s' s) (Before.turns (there s k) (a.one t (rw n (a.next s k))) (a.one t' (rw o (a.other s k))) (λ e. ne (a.one_back t (rw e t'))))
  before-to none _ x = elim x [ ]
  before-to (pair s b) none x = elim x [ ]
  before-to (pair s b) (pair s' b') (Before.later x) = rw (a.one s' s) (Before.later (before-to b b' x))

  depth-to : (n : ℕ) {l m : List ℕ} → Both S l m → deepest f.kind n l ≡ deepest g.kind n m
  unfolding deepest
  depth-to n none = refl
  depth-to n (pair {w = w} s b) = rw (a.kind s, depth-to (opened (g.kind w) n) b) refl

  -- with their addresses
  module _ {address index : ℕ → ℕ} (same : Same S address index) (C : List Count) where
    fits-to : (u : Numbers) {v w : ℕ} → S v w → Fits address C u v → Fits index C u w
    fits-to u {v} {w} s fits c m e = fits c m (e ∙ sym (same v w s))

    used-to : (u : Numbers) {v w : ℕ} → S v w → used address u v ≡ used index u w
    unfolding used
    used-to u {v} {w} s = ap (λ (x : ℕ). used_at x u) (same v w s)

    -- an open call and its pair
    data Opens : List Open → List Open → Type 0 where
      closed : Opens [] []
      opens : {v w : ℕ} {t : Numbers} {ks hs : List Open} → S v w → Opens ks hs → Opens (record { place = v; numbers = t } ∷ ks) (record { place = w; numbers = t } ∷ hs)

    with-numbers : {hs : List Open} {t t' : Numbers} {w : ℕ} {m : List ℕ} → t ≡ t' → Counted g L index C hs t w m → Counted g L index C hs t' w m
    with-numbers {hs = hs} {w = w} {m = m} e p = subst (λ z. Counted g L index C hs z w m) e p

    path-to : {ks hs : List Open} {u : Numbers} {v w : ℕ} {l : List ℕ} → S v w → Opens ks hs → Counted f K address C ks u v l → (m : List ℕ) × Counted g L index C hs u w m × Both S l m
    path-to {w = w} s Opens.closed (Counted.rti k) = (w ∷ [], Counted.rti (there s k), pair s none)
    path-to {u = u} {w = w} s o (Counted.goes {w = to} k (inl n) fits p) =
        let t : S to (g.next w) = rw n (a.next s k) in
        let x = path-to t o p in
        (w ∷ x.0, Counted.goes (there s k) (inl refl) (fits-to u t fits) (with-numbers (used-to u t) x.1), pair s x.2)
    path-to {u = u} {w = w} s o (Counted.goes {w = to} k (inr n) fits p) =
        let t : S to (g.other w) = rw n (a.other s k) in
        let x = path-to t o p in
        (w ∷ x.0, Counted.goes (there s k) (inr refl) (fits-to u t fits) (with-numbers (used-to u t) x.1), pair s x.2)
    path-to {w = w} s o (Counted.calls k p) =
        let t = a.into s k in
        let x = path-to t (Opens.opens (a.past s k) o) p in
        (w ∷ x.0, Counted.calls (there s k) (with-numbers (used-to counts.none t) x.1), pair s x.2)
    path-to {w = w} s (Opens.opens {t = u} t o) (Counted.ret k fits p) =
        let x = path-to t o p in
        (w ∷ x.0, Counted.ret (there s k) (fits-to u t fits) (with-numbers (used-to u t) x.1), pair s x.2)

    pub handler-to : {l : List ℕ} → CountedPath f K address C l → (m : List ℕ) × CountedPath g L index C m × Both S l m
    handler-to p = let x = path-to a.start Opens.closed p in (x.0, with-numbers (used-to counts.none a.start) x.1, x.2)

    uncounted-to : (r : Routine) {u v w : ℕ} → S u w → Edge (uncounted f K address C r) u v → (x : ℕ) × Edge (uncounted g L index C r) w x × S v x
    uncounted-to r {u} {v} {w} s e =
        let d = uncounted_parts f K address C r u v e in
        let x = edge_to r s d.1 in
        (x.0, uncounted_edge g L index C r w x.0 (rw (same u w s) at d.0) x.1, x.2)

    uncounted-on : (r : Routine) {u v w : ℕ} → S u w → Reach (uncounted f K address C r) u v → (x : ℕ) × Reach (uncounted g L index C r) w x × S v x
    uncounted-on r {w = w} s here = (w, here, s)
    uncounted-on r s (step e q) =
        let x = uncounted-to r s e in
        let y = uncounted-on r x.2 q in
        (y.0, step x.1 y.1, y.2)

    loop-to : (v : ℕ) → IsUncountedLoop f K address C v → (w : ℕ) × IsUncountedLoop g L index C w × S v w
    loop-to v (r, l, i, (u, e, q)) =
        let t = live_to l in
        let y = reach-to r t.1 i in
        let x = uncounted-to r y.2 e in
        let z = uncounted-on r x.2 q in
        (y.0, (r, t.0, y.1, (x.0, x.1, subst (λ t. Reach (uncounted g L index C r) x.0 t) (a.one z.2 y.2) z.1)), y.2)

    -- a count weighs at a place where it does at the pair
    weighs-to : {v w : ℕ} → S v w → (c : Count) → Weighs f K address v c → Weighs g L index w c
    weighs-to {v} {w} s c x =
        let b = x.behind in
        let q = reached-to b.1 in
        let z = reach-to outer q.2 b.3 in
        let y = x.ahead in
        let e = edge_to outer s y.2.1 in
        let t = reach-to outer e.2 y.2.2 in
        record {
          behind = (q.0, q.1, sym (same b.0 q.0 q.2) ∙ b.2, subst (λ p. Reach (steps g L) q.0 p) (a.one z.2 s) z.1);
          ahead = (t.0, sym (same y.0 t.0 t.2) ∙ y.1, (e.0, e.1, t.1));
        }

-- pairs of what is listed
member_to : {S : ℕ → ℕ → Type 0} {l m : List ℕ} {v : ℕ} → Both S l m → Member v l → (w : ℕ) × Member w m × S v w
member_to none m = elim m [ ]
member_to (pair {w = w} s b) first = (w, first, s)
member_to (pair s b) (later i) = let x = member_to b i in (x.0, later x.1, x.2)

once_to : {S : ℕ → ℕ → Type 0} {l m : List ℕ} → ((u v w : ℕ) → S u w → S v w → u ≡ v) → Both S l m → Once l → Once m
once_to one none Once.none = Once.none
once_to one (pair {v = v} {w = w} {l = l} s b) (Once.adds new o) =
    Once.adds (λ i. let x = member_to (both_back b) i in new (subst (λ z. Member z l) (one x.0 v w x.2 s) x.1)) (once_to one b o)

module _ {f : Flow} {K : ℕ → Bool} {g : Flow} {L : ℕ → Bool} {S : ℕ → ℕ → Type 0} (a : Alike f K g L S) {address index : ℕ → ℕ} (same : Same S address index) (C : List Count) where
  back : Alike g L f K (λ w v. S v w)
  back = alike-sym a

  same_back : Same (λ w v. S v w) index address
  same_back w v s = sym (same v w s)

  list-to : (l : List ℕ) → ((v : ℕ) → Member v l → Reached f K v) → (m : List ℕ) × Both S l m
  list-to [] only = ([], none)
  list-to (v ∷ l) only =
      let x = reached-to a (only v first) in
      let y = list-to l (λ u i. only u (later i)) in
      (x.0 ∷ y.0, pair x.2 y.1)

  total-pairs : {l m : List ℕ} {n : ℕ} → Both S l m → Total (λ v. Product (Weighs f K address v) C) l n → Total (λ w. Product (Weighs g L index w) C) m n
  total-pairs none Total.none = Total.none
  total-pairs (pair s b) (Total.adds p t) = Total.adds (product_to (weighs-to a same C s) (weighs-to back same_back C s) p) (total-pairs b t)

  weight-to : {n : ℕ} → Weight f K address C n → Weight g L index C n
  weight-to w =
      let l = w.lists in
      let x = list-to w.places l.only in
      let b = x.1 in
      record {
        places = x.0;
        lists = record {
          only = λ v i. let y = member_to (both_back b) i in let z = reached-to a (l.only y.0 y.1) in subst (λ t. Reached g L t) (a.one z.2 y.2) z.1;
          all = λ v r. let y = reached-to back r in let z = member_to b (l.all y.0 y.1) in subst (λ t. Member t x.0) (a.one z.2 y.2) z.1;
          once = once_to (λ u v t s s'. a.one_back s s') b l.once;
        };
        total = total-pairs b w.total;
      }

  settled-to : Settled f K address C → Settled g L index C
  settled-to s = record { no_bad = λ w x. let y = bad-to back w x in s.no_bad y.0 y.1; no_loop = λ w x. let y = loop-to back same_back C w x in s.no_loop y.0 y.1 }

  first_to : {μ ν : List ℕ → ℕ} → ((l m : List ℕ) → Both S l m → μ l ≡ ν m) → {l h : List ℕ} → CountedPath g L index C h → Both S l h → FirstOf f (CountedPath f K address C) μ l → FirstOf g (CountedPath g L index C) ν h
  first_to measures {l} {h} p b x =
      record {
        in_it = p;
        most = λ m q. let y = handler-to back same_back C q in rw (← measures y.0 m (both_back y.2), ← measures l h b) (x.most y.0 y.1);
        first = λ m q e.
            let y = handler-to back same_back C q in
            let c = both_back y.2 in
            ⊎_elim (λ i. inl (both_one a (rw i at c) b)) (λ i. inr (before-to a b c i)) (x.first y.0 y.1 (measures y.0 m c ∙ e ∙ sym (measures l h b)));
      }

  module _ {c d : ℕ → ℕ} (cost : Same S c d) where
    bound-to : {N D : ℕ} {path deep h k : List ℕ} → CountedPath g L index C h → Both S path h → CountedPath g L index C k → Both S deep k → HasCountedBound f c K address C N D path deep → HasCountedBound g d L index C N D h k
    bound-to p b p' b' x = record {
      longest = first_to (λ l m i. both_sum cost i) p b x.longest;
      sum = x.sum ∙ both_sum cost b;
      deepest = first_to (λ l m i. depth-to a 0 i) p' b' x.deepest;
      depth = x.depth ∙ depth-to a 0 b';
    }

    pub flow-answer-to : {p p' q q' : List ℕ} {x : CountedFound} → CountedFlowAnswer f c address C p p' q q' K x → CountedFlowAnswer g d index C p p' q q' L x
    flow-answer-to (CountedFlowAnswer.gives_21 l k) = CountedFlowAnswer.gives_21 (lowest_to same (bad-to a) (bad-to back) l) k
    flow-answer-to (CountedFlowAnswer.gives_22 n l k) =
        CountedFlowAnswer.gives_22 (λ w x. let y = bad-to back w x in n y.0 y.1) (lowest_to same (loop-to a same C) (loop-to back same_back C) l) k
    flow-answer-to (CountedFlowAnswer.gives_28 s w h k) = CountedFlowAnswer.gives_28 (settled-to s) (weight-to w) h k
    flow-answer-to (CountedFlowAnswer.gives_27 s w h n k) = CountedFlowAnswer.gives_27 (settled-to s) (weight-to w) h (λ l q. let y = handler-to back same_back C q in n y.0 y.1) k
    flow-answer-to (CountedFlowAnswer.bounded s w h b y) =
        let p = handler-to a same C b.longest.in_it in
        let q = handler-to a same C b.deepest.in_it in
        CountedFlowAnswer.bounded (settled-to s) (weight-to w) h (bound-to p.1 p.2 q.1 q.2 b) (path_answer_to same p.2 q.2 y)

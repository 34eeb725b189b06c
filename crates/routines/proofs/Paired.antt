-- Two flows whose places are paired, each with one at most, and left in pairs, have the same answers.
use mathlib.Core.Path.{◌≡◌, refl, sym, ap₂, subst, ◌∙◌}
use mathlib.Core.Logic.{◌⊎◌, inl, inr, ⊎_elim}
use mathlib.Core.Bool.{Bool, true, false}
use mathlib.Core.List.{List, [], ◌∷◌}
use Prim.Native.Nat.{ℕ, ◌+◌}
use lib.ListN.{length}
use Rattle.laws.specs.Choice.{pick}
use Rattle.graph.specs.Graph.{Edge, Reach, here, step, sum}
use Rattle.routines.specs.Calling.{Flow, Routine, called, start_in, after, within, In, Live, handler, call, unknown, Knows, Plus, once, more, Calls, Recurs, IsBad, IsLoop, Path, rti, goes, calls, ret, HandlerPath, opened, deepest, Before, turns, later, FirstOf}
use Rattle.routines.specs.Answer.{LowestAddress, bytes_of, Found, Judged, HasBound, PathAnswer, gives_25, gives_23, gives_23_depth, gives_n, FlowAnswer, gives_21, gives_22, bounded, Answer, gives_24, judged}
use Rattle.routines.proofs.Within.{edge_on, edge-call, edge-cases}

-- S pairs places of f with places of g. It is the same read from g, so that each law is shown one way only
pub record Paired (f g : Flow) (S : ℕ → ℕ → Type 0) : Type 0 where
  pub one : {v w x : ℕ} → S v w → S v x → w ≡ x
  pub one_back : {u v w : ℕ} → S u w → S v w → u ≡ v
  pub start : S f.start g.start
  pub kind : {v w : ℕ} → S v w → f.kind v ≡ g.kind w
  pub known : {v w : ℕ} → S v w → f.known v ≡ g.known w
  pub next : {v w : ℕ} → S v w → f.kind v ≡ 1 → S (f.next v) (g.next w)
  pub other : {v w : ℕ} → S v w → f.kind v ≡ 1 → S (f.other v) (g.other w)
  pub unknown_after : {v w : ℕ} → S v w → f.kind v ≡ 3 → S (f.next v) (g.next w)
  pub known_after : {v w : ℕ} → S v w → f.kind v ≡ 3 → S (f.other v) (g.other w)
  pub entry : {v w : ℕ} → S v w → f.kind v ≡ 3 → f.entry v ≡ g.entry w
  pub into : {v w : ℕ} → S v w → f.kind v ≡ 3 → S (f.from (f.entry v)) (g.from (g.entry w))

-- the lists are as long, and paired place by place
pub data Both (S : ℕ → ℕ → Type 0) : List ℕ → List ℕ → Type 0 where
  none : Both S [] []
  pair : {v w : ℕ} {l m : List ℕ} → S v w → Both S l m → Both S (v ∷ l) (w ∷ m)

-- paired places have the same numbers
abbrev pub Same : (ℕ → ℕ → Type 0) → (ℕ → ℕ) → (ℕ → ℕ) → Type 0
Same S c d = (v w : ℕ) → S v w → c v ≡ d w

pub both_back : {S : ℕ → ℕ → Type 0} {l m : List ℕ} → Both S l m → Both (λ w v. S v w) m l
both_back none = none
both_back (pair s b) = pair s (both_back b)

both_length : {S : ℕ → ℕ → Type 0} {l m : List ℕ} → Both S l m → length l ≡ length m
both_length none = refl
both_length (pair s b) = rw (both_length b)

pub both_sum : {S : ℕ → ℕ → Type 0} {c d : ℕ → ℕ} → Same S c d → {l m : List ℕ} → Both S l m → sum c l ≡ sum d m
unfolding sum
both_sum e none = refl
both_sum e (pair {v = v} {w = w} s b) = ap₂ (λ (x y : ℕ). x + y) (e v w s) (both_sum e b)

both_bytes : {S : ℕ → ℕ → Type 0} {c d : ℕ → ℕ} → Same S c d → {l m : List ℕ} → Both S l m → bytes_of c l ≡ bytes_of d m
unfolding bytes_of
both_bytes e none = refl
both_bytes e (pair {v = v} {w = w} s b) = rw (e v w s, both_bytes e b)

module _ {f g : Flow} {S : ℕ → ℕ → Type 0} (a : Paired f g S) where
  pub paired-sym : Paired g f (λ w v. S v w)
  paired-sym =
      record {
        one = λ s t. a.one_back s t;
        one_back = λ s t. a.one s t;
        start = a.start;
        kind = λ s. sym (a.kind s);
        known = λ s. sym (a.known s);
        next = λ s k. a.next s (a.kind s ∙ k);
        other = λ s k. a.other s (a.kind s ∙ k);
        unknown_after = λ s k. a.unknown_after s (a.kind s ∙ k);
        known_after = λ s k. a.known_after s (a.kind s ∙ k);
        entry = λ s k. sym (a.entry s (a.kind s ∙ k));
        into = λ s k. a.into s (a.kind s ∙ k);
      }

  both_one : {l m k : List ℕ} → Both S l m → Both S l k → m ≡ k
  both_one none none = refl
  both_one (pair s b) (pair t c) = ap₂ (λ (x : ℕ) (y : List ℕ). x ∷ y) (a.one s t) (both_one b c)

  module _ (K : ℕ → Bool) where
    pub after-to : {v w : ℕ} → S v w → f.kind v ≡ 3 → S (after f K v) (after g K w)
    unfolding after
    after-to {v} {w} s k = rw (← a.entry s k) (go (K (f.entry v)))
      where
        go : (b : Bool) → S (pick b (f.other v) (f.next v)) (pick b (g.other w) (g.next w))
        go true = a.known_after s k
        go false = a.unknown_after s k

    module _ (routine : Routine) where
      edge_to : {u v w : ℕ} → S u w → Edge (within f K routine) u v → (x : ℕ) × Edge (within g K routine) w x × S v x
      edge_to {u} {v} {w} s e = go (edge-cases f K routine e)
        where
          go : ((f.kind u ≡ 1) × ((v ≡ f.next u) ⊎ (v ≡ f.other u))) ⊎ ((f.kind u ≡ 3) × (v ≡ after f K u)) → (x : ℕ) × Edge (within g K routine) w x × S v x
          go (inl (k, inl n)) = (g.next w, edge_on g K routine (sym (a.kind s) ∙ k) (inl refl), rw n (a.next s k))
          go (inl (k, inr n)) = (g.other w, edge_on g K routine (sym (a.kind s) ∙ k) (inr refl), rw n (a.other s k))
          go (inr (k, n)) = (after g K w, edge-call g K routine (sym (a.kind s) ∙ k), rw n (after-to s k))

      reach-to : {u v w : ℕ} → S u w → Reach (within f K routine) u v → (x : ℕ) × Reach (within g K routine) w x × S v x
      reach-to {w = w} s here = (w, here, s)
      reach-to s (step e q) =
          let x = edge_to s e in
          let y = reach-to x.2 q in
          (y.0, step x.1 y.1, y.2)

    abbrev Starts : Routine → Type 0
    Starts r = S (start_in f r) (start_in g r)

    in-to : (r : Routine) {v : ℕ} → Starts r → In f K r v → (w : ℕ) × In g K r w × S v w
    in-to r s i = reach-to r s i

    starts-at : {v w : ℕ} → S v w → f.kind v ≡ 3 → S (f.from (f.entry v)) (g.from (f.entry v))
    starts-at s k = rw (← a.entry s k) at (a.into s k)

    live_to : {r : Routine} → Live f K r → Live g K r × Starts r
    live_to handler = (handler, a.start)
    live_to (call {r = r} l i k) =
        let x = live_to l in
        let y = in-to r x.1 i in
        (rw (a.entry y.2 k) (call x.0 y.1 (sym (a.kind y.2) ∙ k)), starts-at y.2 k)

    pub place-to : {r : Routine} {v : ℕ} → Live f K r → In f K r v → (w : ℕ) × Live g K r × In g K r w × S v w
    place-to {r} l i = let x = live_to l in let y = in-to r x.1 i in (y.0, x.0, y.1, y.2)

    pub bad-to : (v : ℕ) → IsBad f K v → (w : ℕ) × IsBad g K w × S v w
    unfolding within
    bad-to v (r, l, i, x) =
        let y = place-to l i in
        (y.0, (r, y.1, y.2, record { not_on = λ e. x.not_on (rw (a.kind y.3) e); not_end = λ e. x.not_end (rw (a.kind y.3) e) }), y.3)

    pub loop-to : (v : ℕ) → IsLoop f K v → (w : ℕ) × IsLoop g K w × S v w
    loop-to v (r, l, i, (u, e, q)) =
        let y = place-to l i in
        let x = edge_to r y.3 e in
        let z = reach-to r x.2 q in
        (y.0, (r, y.1, y.2, (x.0, x.1, subst (λ t. Reach (within g K r) x.0 t) (a.one z.2 y.3) z.1)), y.3)

    calls-to : {d e : ℕ} → Starts (called d) → Calls f K d e → Calls g K d e × Starts (called e)
    calls-to {d} {e} s (v, i, k, n) =
        let y = in-to (called d) s i in
        ((y.0, y.1, sym (a.kind y.2) ∙ k, sym (a.entry y.2 k) ∙ n), subst (λ t. S (f.from t) (g.from t)) n (starts-at y.2 k))

    plus-to : {d e : ℕ} → Starts (called d) → Plus (Calls f K) d e → Plus (Calls g K) d e
    plus-to s (once c) = once (calls-to s c).0
    plus-to s (more c p) = let x = calls-to s c in more x.0 (plus-to x.1 p)

    -- the places of a path, and those where its open calls go on
    path-to : {ks hs : List ℕ} {v w : ℕ} {l : List ℕ} → S v w → Both S ks hs → Path f K ks v l → (m : List ℕ) × Path g K hs w m × Both S l m
    path-to {w = w} s none (rti k) = (w ∷ [], rti (sym (a.kind s) ∙ k), pair s none)
    path-to {w = w} s o (goes k (inl n) p) =
        let x = path-to {w = g.next w} (rw n (a.next s k)) o p in
        (w ∷ x.0, goes (sym (a.kind s) ∙ k) (inl refl) x.1, pair s x.2)
    path-to {w = w} s o (goes k (inr n) p) =
        let x = path-to {w = g.other w} (rw n (a.other s k)) o p in
        (w ∷ x.0, goes (sym (a.kind s) ∙ k) (inr refl) x.1, pair s x.2)
    path-to {w = w} s o (calls k p) =
        let x = path-to (a.into s k) (pair (after-to s k) o) p in
        (w ∷ x.0, calls (sym (a.kind s) ∙ k) x.1, pair s x.2)
    path-to {w = w} s (pair t o) (ret k p) =
        let x = path-to t o p in
        (w ∷ x.0, ret (sym (a.kind s) ∙ k) x.1, pair s x.2)

    handler-to : {l : List ℕ} → HandlerPath f K l → (m : List ℕ) × HandlerPath g K m × Both S l m
    handler-to p = path-to a.start none p

  before-to : {l m h k : List ℕ} → Both S l h → Both S m k → Before f l m → Before g h k
  before-to (pair s (pair t b)) (pair s' (pair t' b')) (turns k n o ne) =
      rw (a.one s' s) (turns (sym (a.kind s) ∙ k) (a.one t (rw n (a.next s k))) (a.one t' (rw o (a.other s k))) (λ e. ne (a.one_back t (rw e t'))))
  before-to none _ x = elim x [ ]
  before-to (pair s b) none x = elim x [ ]
  before-to (pair s b) (pair s' b') (later x) = rw (a.one s' s) (later (before-to b b' x))

  depth-to : (n : ℕ) {l m : List ℕ} → Both S l m → deepest f.kind n l ≡ deepest g.kind n m
  unfolding deepest
  depth-to n none = refl
  depth-to n (pair {w = w} s b) = rw (a.kind s, depth-to (opened (g.kind w) n) b) refl

pub recurs_to : {f g : Flow} {S : ℕ → ℕ → Type 0} → Paired f g S → (e : ℕ) → Recurs f e → Recurs g e
recurs_to a e (l, p) = let x = live_to a unknown l in (x.0, plus-to a unknown x.1 p)

pub lowest_to : {S : ℕ → ℕ → Type 0} {c d : ℕ → ℕ} {P Q : ℕ → Type 0} → Same S c d → ((v : ℕ) → P v → (w : ℕ) × Q w × S v w) → ((w : ℕ) → Q w → (v : ℕ) × P v × S v w) → {x : ℕ} → LowestAddress c P x → LowestAddress d Q x
lowest_to {S = S} same to back l =
    let x = to l.holds.0 l.holds.1 in
    record {
      holds = (x.0, x.1, sym (same l.holds.0 x.0 x.2) ∙ l.holds.2);
      least = λ b q. let y = back q.0 q.1 in l.least b (y.0, y.1, same y.0 q.0 y.2 ∙ q.2);
    }

pub path_answer_to : {S : ℕ → ℕ → Type 0} {c d : ℕ → ℕ} → Same S c d → {p p' q q' : List ℕ} {N D : ℕ} {l m h k : List ℕ} {x : Found} → Both S l h → Both S m k → PathAnswer c p p' q q' N D l m x → PathAnswer d p p' q q' N D h k x
path_answer_to e b b' (gives_25 n i) = gives_25 n i
path_answer_to e b b' (gives_23 n t i) = rw (both_length b) (gives_23 n (rw (← both_length b) t) i)
path_answer_to e b b' (gives_23_depth n t u i) = rw (both_length b') (gives_23_depth n (rw (← both_length b) t) (rw (← both_length b') u) i)
path_answer_to e b b' (gives_n n t u i j) =
    gives_n n (rw (← both_length b) t) (rw (← both_length b') u) (rw (← both_length b, ← both_bytes e b) i) (rw (← both_length b', ← both_bytes e b') j)

module _ {f g : Flow} {S : ℕ → ℕ → Type 0} (a : Paired f g S) where
  module _ (K : ℕ → Bool) where
    back : Paired g f (λ w v. S v w)
    back = paired-sym a

    knows-to : Knows f K → Knows g K
    knows-to k =
        record {
          yes_if = λ e l h. let x = live_to back K l in k.yes_if e x.0 (λ v i c. let y = in-to a K (called e) x.1 i in a.known y.2 ∙ h y.0 y.1 (sym (a.kind y.2) ∙ c));
          only_if = λ e l h w i c. let x = live_to back K l in let y = in-to back K (called e) x.1 i in sym (a.known y.2) ∙ k.only_if e x.0 h y.0 y.1 (a.kind y.2 ∙ c);
        }

    pub judged-to : Judged f K → Judged g K
    judged-to j = record { no_recursion = λ e r. j.no_recursion e (recurs_to back e r); knows = knows-to j.knows }

    first_to : {μ ν : List ℕ → ℕ} → ((l m : List ℕ) → Both S l m → μ l ≡ ν m) → {l h : List ℕ} → HandlerPath g K h → Both S l h → FirstOf f (HandlerPath f K) μ l → FirstOf g (HandlerPath g K) ν h
    first_to {μ} {ν} same {l} {h} p b x =
        record {
          in_it = p;
          most = λ m q. let y = handler-to back K q in rw (← same y.0 m (both_back y.2), ← same l h b) (x.most y.0 y.1);
          first = λ m q e.
              let y = handler-to back K q in
              let c = both_back y.2 in
              ⊎_elim (λ i. inl (both_one a (rw (← i) c) b)) (λ i. inr (before-to a b c i)) (x.first y.0 y.1 (same y.0 m c ∙ e ∙ sym (same l h b)));
        }

    module _ {c d : ℕ → ℕ} (cost : Same S c d) where
      bound-to : {N D : ℕ} {path deep h k : List ℕ} → HandlerPath g K h → Both S path h → HandlerPath g K k → Both S deep k → HasBound f c K N D path deep → HasBound g d K N D h k
      bound-to p b p' b' x = record {
        no_bad = λ w y. let z = bad-to back K w y in x.no_bad z.0 z.1;
        no_loop = λ w y. let z = loop-to back K w y in x.no_loop z.0 z.1;
        longest = first_to (λ l m i. both_sum cost i) p b x.longest;
        sum = x.sum ∙ both_sum cost b;
        deepest = first_to (λ l m i. depth-to a 0 i) p' b' x.deepest;
        depth = x.depth ∙ depth-to a 0 b';
      }

      flow-answer-to : {address index : ℕ → ℕ} → Same S address index → {p p' q q' : List ℕ} {x : Found} → FlowAnswer f c address p p' q q' K x → FlowAnswer g d index p p' q q' K x
      flow-answer-to same (gives_21 l k) = gives_21 (lowest_to same (bad-to a K) (bad-to back K) l) k
      flow-answer-to same (gives_22 n l k) = gives_22 (λ w y. let z = bad-to back K w y in n z.0 z.1) (lowest_to same (loop-to a K) (loop-to back K) l) k
      flow-answer-to same (bounded x y) =
          let p = handler-to a K x.longest.in_it in
          let q = handler-to a K x.deepest.in_it in
          bounded (bound-to p.1 p.2 q.1 q.2 x) (path_answer_to same p.2 q.2 y)

  pub answer-to : {c d address index : ℕ → ℕ} → Same S c d → Same S address index → {p p' q q' : List ℕ} {x : Found} → Answer f c address p p' q q' x → Answer g d index p p' q q' x
  answer-to cost same (gives_24 l k) = gives_24 (record { holds = recurs_to a _ l.holds; least = λ e r. l.least e (recurs_to (paired-sym a) e r) }) k
  answer-to cost same (judged {K = K} j y) = judged (judged-to K j) (flow-answer-to K cost same y)

-- A flow in which the place after each call is chosen: judged by what it says, it has the answers of the flow that it was chosen from.
use mathlib.Core.Path.{◌≡◌, refl, sym, subst, ◌∙◌}
use mathlib.Core.Logic.{◌⊎◌, inl, inr, ⊎_elim}
use mathlib.Core.Bool.{Bool, true, false}
use mathlib.Core.List.{List, [], ◌∷◌}
use Prim.Native.Nat.{ℕ}
use Rattle.laws.specs.Choice.{pick}
use Rattle.graph.specs.Graph.{Edge, Reach, here, step}
use Rattle.routines.specs.Calling.{Flow, Routine, outer, called, start_in, after, within, In, Live, handler, call, unknown, Plus, once, more, Calls, Recurs, IsBad, IsLoop, Path, rti, goes, calls, ret, HandlerPath, opened, deepest, Before, turns, later, FirstOf}
use Rattle.routines.specs.Answer.{LowestAddress, Found, HasBound, FlowAnswer, gives_21, gives_22, bounded}
use Rattle.routines.specs.Shape.{Narrower, Widens}
use Rattle.routines.proofs.Within.{edge_on, edge-call, edge-cases}
use Rattle.routines.proofs.Wide.{wide-recurs}

-- f by K goes the ways of g by L. It is the same read from g
pub record Chosen (f : Flow) (K : ℕ → Bool) (g : Flow) (L : ℕ → Bool) : Type 0 where
  pub start : f.start ≡ g.start
  pub from : (e : ℕ) → f.from e ≡ g.from e
  pub kind : (v : ℕ) → f.kind v ≡ g.kind v
  pub next : (v : ℕ) → f.kind v ≡ 1 → f.next v ≡ g.next v
  pub other : (v : ℕ) → f.kind v ≡ 1 → f.other v ≡ g.other v
  pub entry : (v : ℕ) → f.kind v ≡ 3 → f.entry v ≡ g.entry v
  pub goes_on : (v : ℕ) → f.kind v ≡ 3 → after f K v ≡ after g L v

module _ {f : Flow} {K : ℕ → Bool} {g : Flow} {L : ℕ → Bool} (a : Chosen f K g L) where
  pub chosen-sym : Chosen g L f K
  chosen-sym =
      record {
        start = sym a.start;
        from = λ e. sym (a.from e);
        kind = λ v. sym (a.kind v);
        next = λ v k. sym (a.next v (a.kind v ∙ k));
        other = λ v k. sym (a.other v (a.kind v ∙ k));
        entry = λ v k. sym (a.entry v (a.kind v ∙ k));
        goes_on = λ v k. sym (a.goes_on v (a.kind v ∙ k));
      }

  there : (v : ℕ) {k : ℕ} → f.kind v ≡ k → g.kind v ≡ k
  there v e = sym (a.kind v) ∙ e

  module _ (r : Routine) where
    edge_to : (v w : ℕ) → Edge (within f K r) v w → Edge (within g L r) v w
    edge_to v w e = go (edge-cases f K r e)
      where
        go : ((f.kind v ≡ 1) × ((w ≡ f.next v) ⊎ (w ≡ f.other v))) ⊎ ((f.kind v ≡ 3) × (w ≡ after f K v)) → Edge (within g L r) v w
        go (inl (k, inl n)) = edge_on g L r (there v k) (inl (n ∙ a.next v k))
        go (inl (k, inr n)) = edge_on g L r (there v k) (inr (n ∙ a.other v k))
        go (inr (k, n)) = rw (n ∙ a.goes_on v k) (edge-call g L r (there v k))

    reach-to : {u v : ℕ} → Reach (within f K r) u v → Reach (within g L r) u v
    reach-to here = here
    reach-to (step {u} {v} e q) = step (edge_to u v e) (reach-to q)

  start-same : (r : Routine) → start_in f r ≡ start_in g r
  start-same outer = a.start
  start-same (called e) = a.from e

  in-to : (r : Routine) {v : ℕ} → In f K r v → In g L r v
  in-to r i = rw (← start-same r) (reach-to r i)

  pub live_to : {r : Routine} → Live f K r → Live g L r
  live_to handler = handler
  live_to (call {r = r} {v = v} l i k) = rw (a.entry v k) (call (live_to l) (in-to r i) (there v k))

  bad-to : (v : ℕ) → IsBad f K v → IsBad g L v
  unfolding within
  bad-to v (r, l, i, x) = (r, live_to l, in-to r i, record { not_on = λ e. x.not_on (rw (a.kind v) e); not_end = λ e. x.not_end (rw (a.kind v) e) })

  loop-to : (v : ℕ) → IsLoop f K v → IsLoop g L v
  loop-to v (r, l, i, (w, e, q)) = (r, live_to l, in-to r i, (w, edge_to r v w e, reach-to r q))

  pub plus-to : {d e : ℕ} → Plus (Calls f K) d e → Plus (Calls g L) d e
  plus-to (once {a = d} (v, i, k, n)) = once (v, in-to (called d) i, there v k, sym (a.entry v k) ∙ n)
  plus-to (more {a = d} (v, i, k, n) p) = more (v, in-to (called d) i, there v k, sym (a.entry v k) ∙ n) (plus-to p)

  path-to : {ks : List ℕ} {v : ℕ} {l : List ℕ} → Path f K ks v l → Path g L ks v l
  path-to {v = v} (rti k) = rti (there v k)
  path-to {v = v} (goes k (inl n) p) = goes (there v k) (inl (n ∙ a.next v k)) (path-to p)
  path-to {v = v} (goes k (inr n) p) = goes (there v k) (inr (n ∙ a.other v k)) (path-to p)
  path-to {ks = ks} {v = v} (calls {l = l} k p) = calls {ks = ks} {l = l} (there v k) (rw (← a.goes_on v k, ← a.entry v k, ← a.from (f.entry v)) (path-to p))
  path-to {v = v} (ret k p) = ret (there v k) (path-to p)

  handler-to : {l : List ℕ} → HandlerPath f K l → HandlerPath g L l
  handler-to {l} p = subst (λ s. Path g L [] s l) a.start (path-to p)

  before-to : {l m : List ℕ} → Before f l m → Before g l m
  before-to (turns {v = v} k n o ne) = turns (there v k) (n ∙ a.next v k) (o ∙ a.other v k) ne
  before-to (later b) = later (before-to b)

  depth-to : (n : ℕ) (l : List ℕ) → deepest f.kind n l ≡ deepest g.kind n l
  unfolding deepest
  depth-to n [] = refl
  depth-to n (v ∷ l) = rw (a.kind v, depth-to (opened (g.kind v) n) l) refl

lowest_to : {address : ℕ → ℕ} {P Q : ℕ → Type 0} → ((v : ℕ) → P v → Q v) → ((v : ℕ) → Q v → P v) → {x : ℕ} → LowestAddress address P x → LowestAddress address Q x
lowest_to to back l = record { holds = (l.holds.0, to l.holds.0 l.holds.1, l.holds.2); least = λ b q. l.least b (q.0, back q.0 q.1, q.2) }

module _ {f : Flow} {K : ℕ → Bool} {g : Flow} {L : ℕ → Bool} (a : Chosen f K g L) where
  first_to : {μ ν : List ℕ → ℕ} → ((l : List ℕ) → μ l ≡ ν l) → {l : List ℕ} → FirstOf f (HandlerPath f K) μ l → FirstOf g (HandlerPath g L) ν l
  first_to {μ} {ν} same {l} x =
      record {
        in_it = handler-to a x.in_it;
        most = λ m q. rw (← same m, ← same l) (x.most m (handler-to (chosen-sym a) q));
        first = λ m q e. ⊎_elim inl (λ b. inr (before-to a b)) (x.first m (handler-to (chosen-sym a) q) (same m ∙ e ∙ sym (same l)));
      }

  bound-to : {c : ℕ → ℕ} {N D : ℕ} {path deep : List ℕ} → HasBound f c K N D path deep → HasBound g c L N D path deep
  bound-to {deep = deep} x =
      record {
        no_bad = λ v b. x.no_bad v (bad-to (chosen-sym a) v b);
        no_loop = λ v b. x.no_loop v (loop-to (chosen-sym a) v b);
        longest = first_to (λ l. refl) x.longest;
        sum = x.sum;
        deepest = first_to (depth-to a 0) x.deepest;
        depth = x.depth ∙ depth-to a 0 deep;
      }

  pub flow-answer-to : {c address : ℕ → ℕ} {p p' q q' : List ℕ} {x : Found} → FlowAnswer f c address p p' q q' K x → FlowAnswer g c address p p' q q' L x
  flow-answer-to (gives_21 l k) = gives_21 (lowest_to (bad-to a) (bad-to (chosen-sym a)) l) k
  flow-answer-to (gives_22 n l k) = gives_22 (λ v b. n v (bad-to (chosen-sym a) v b)) (lowest_to (loop-to a) (loop-to (chosen-sym a)) l) k
  flow-answer-to (bounded x y) = bounded (bound-to x) y

-- nothing recurs by what is chosen, if nothing does with SF unknown after every call
pub chosen_recurs : {f : Flow} {g : Flow} {L : ℕ → Bool} → Chosen f unknown g L → Widens g → ((e : ℕ) → Recurs g e → ⊥) → (e : ℕ) → Recurs f e → ⊥
chosen_recurs {g = g} {L = L} a widens none e (l, p) = none e (wide-recurs g widens L e (live_to a l) (plus-to a p))

-- to know SF only takes ways away, also where the place after a call is chosen
module _ {f : Flow} {g : Flow} {L : ℕ → Bool} (a : Chosen f unknown g L) (others : (v : ℕ) → f.kind v ≡ 3 → f.other v ≡ g.other v) where
  chosen-next : (v : ℕ) → f.kind v ≡ 3 → f.next v ≡ pick (L (g.entry v)) (g.other v) (g.next v)
  unfolding after
  chosen-next v k = a.goes_on v k

  same_way : (u : ℕ) → Narrower f u u
  same_way u = record { kind = refl; next = λ k. inl refl; other = λ k. inr refl; entry = λ k. refl; unknown_after = λ k. refl; known_after = λ k. refl }

  narrower-to : {u w : ℕ} → Narrower g u w → Narrower f u w
  narrower-to {u} {w} n =
      record {
        kind = kinds;
        next = λ k. ⊎_elim (λ e. inl (a.next u k ∙ e ∙ sym (a.next w (on k)))) (λ e. inr (a.next u k ∙ e ∙ sym (a.other w (on k)))) (n.next (back k));
        other = λ k. ⊎_elim (λ e. inl (a.other u k ∙ e ∙ sym (a.next w (on k)))) (λ e. inr (a.other u k ∙ e ∙ sym (a.other w (on k)))) (n.other (back k));
        entry = λ k. a.entry u k ∙ n.entry (back k) ∙ sym (a.entry w (on k));
        unknown_after = λ k. chosen-next u k ∙ rw (n.entry (back k), n.known_after (back k), n.unknown_after (back k)) (sym (chosen-next w (on k)));
        known_after = λ k. others u k ∙ n.known_after (back k) ∙ sym (others w (on k));
      }
    where
      kinds : f.kind u ≡ f.kind w
      kinds = a.kind u ∙ n.kind ∙ sym (a.kind w)

      on : {k : ℕ} → f.kind u ≡ k → f.kind w ≡ k
      on e = sym kinds ∙ e

      back : {k : ℕ} → f.kind u ≡ k → g.kind u ≡ k
      back e = sym (a.kind u) ∙ e

  pub chosen-widens : Widens g → Widens f
  chosen-widens x = record { at_call = λ v k. go v k (L (g.entry v)) (chosen-next v k) }
    where
      go : (v : ℕ) → f.kind v ≡ 3 → (b : Bool) → f.next v ≡ pick b (g.other v) (g.next v) → Narrower f (f.other v) (f.next v)
      go v k true e = rw (e, others v k) (same_way (g.other v))
      go v k false e = rw (e, others v k) (narrower-to (x.at_call v (sym (a.kind v) ∙ k)))

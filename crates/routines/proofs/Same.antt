-- Where nothing recurs, what is known after calls is determined wherever it is asked for; and what is asked of the flow is the same by any K that says it.
use mathlib.Core.Path.{◌≡◌, refl, sym, ap, ◌∙◌}
use mathlib.Core.Logic.{◌⊎◌, inl, inr}
use mathlib.Core.Bool.{Bool, true, false}
use mathlib.Core.List.{List}
use Prim.Native.Nat.{ℕ}
use Rattle.laws.specs.Choice.{pick}
use Rattle.graph.specs.Graph.{Edge, Reach, here, step}
use Rattle.graph.proofs.Reach.{reach_snoc}
use Rattle.routines.specs.Calling.{Flow, Routine, called, start_in, after, within, In, Live, handler, call, Knows, Calls, IsBad, IsLoop, Path, rti, goes, calls, ret, HandlerPath, FirstOf}
use Rattle.routines.specs.Shape.{Small, Widens}
use Rattle.routines.specs.Answer.{LowestAddress, Judged}
use Rattle.routines.proofs.Within.{edge-cases, edge_on, edge-call}
use Rattle.routines.proofs.Accessible.{Acc, acc}
use Rattle.routines.proofs.Done.{Nested, none, inner, calls-end}

same_bool : (a b : Bool) → (a ≡ true → b ≡ true) → (b ≡ true → a ≡ true) → a ≡ b
same_bool true b p q = sym (p refl)
same_bool false true p q = q refl
same_bool false false p q = refl

pub after_same : (f : Flow) (K K' : ℕ → Bool) (v : ℕ) → K (f.entry v) ≡ K' (f.entry v) → after f K v ≡ after f K' v
unfolding after
after_same f K K' v e = ap (λ (b : Bool). pick b (f.other v) (f.next v)) e

-- K and K' say the same of what is called where both reach
abbrev pub SameAtCalls : Flow → (ℕ → Bool) → (ℕ → Bool) → Routine → Type 0
SameAtCalls f K K' r = (u : ℕ) → In f K r u → In f K' r u → f.kind u ≡ 3 → K (f.entry u) ≡ K' (f.entry u)

module _ (f : Flow) (K K' : ℕ → Bool) (r : Routine) (same : SameAtCalls f K K' r) where
  pub edge_to : {u w : ℕ} → In f K r u → In f K' r u → Edge (within f K r) u w → Edge (within f K' r) u w
  edge_to {u} {w} i j e = go (edge-cases f K r e)
    where
      go : ((f.kind u ≡ 1) × ((w ≡ f.next u) ⊎ (w ≡ f.other u))) ⊎ ((f.kind u ≡ 3) × (w ≡ after f K u)) → Edge (within f K' r) u w
      go (inl (k, n)) = edge_on f K' r k n
      go (inr (k, a)) = rw (a ∙ after_same f K K' u (same u i j k)) (edge-call f K' r k)

  pub reach-to : {u v : ℕ} → In f K r u → In f K' r u → Reach (within f K r) u v → Reach (within f K' r) u v
  reach-to i j here = here
  reach-to i j (step e q) = step (edge_to i j e) (reach-to (reach_snoc i e) (reach_snoc j (edge_to i j e)) q)

module _ {f : Flow} {K K' : ℕ → Bool} (knows : Knows f K) (knows' : Knows f K') where
  known_same : {e : ℕ} → Acc (Calls f K) e → Live f K (called e) → Live f K' (called e) → K e ≡ K' e
  known_same {e} (acc a) l l' = go (λ u i j k. known_same (a (f.entry u) (u, i, k, refl)) (call l i k) (call l' j k))
    where
      go : SameAtCalls f K K' (called e) → K e ≡ K' e
      go same =
          same_bool (K e) (K' e)
          (λ t. knows'.yes_if e l' (λ v i k. knows.only_if e l t v (reach-to f K' K (called e) (λ u p q c. sym (same u q p c)) here here i) k))
          (λ t. knows.yes_if e l (λ v i k. knows'.only_if e l' t v (reach-to f K K' (called e) same here here i) k))

module _ {f : Flow} {n E : ℕ} (small : Small f n E) (widens : Widens f) {K K' : ℕ → Bool} (judged : Judged f K) (judged' : Judged f K') where
  pub both-same : {r : Routine} → Live f K r → Live f K' r → SameAtCalls f K K' r
  both-same l l' u i j k =
      known_same judged.knows judged'.knows (calls-end f K small widens judged.no_recursion (f.entry u) (call l i k)) (call l i k) (call l' j k)

  pub live_to : {r : Routine} → Live f K r → Live f K' r
  live_to handler = handler
  live_to (call {r} l i k) = call (live_to l) (reach-to f K K' r (both-same l (live_to l)) here here i) k

  pub in-to : {r : Routine} {v : ℕ} → Live f K r → Reach (within f K r) (start_in f r) v → In f K' r v
  in-to {r} l i = reach-to f K K' r (both-same l (live_to l)) here here i

  pub known-to : (e : ℕ) → Live f K (called e) → K e ≡ K' e
  known-to e l = known_same judged.knows judged'.knows (calls-end f K small widens judged.no_recursion e l) l (live_to l)

  pub bad-to : (v : ℕ) → IsBad f K v → IsBad f K' v
  unfolding within
  bad-to v (r, l, i, x) = (r, live_to l, in-to l i, record { not_on = x.not_on; not_end = x.not_end })

  pub loop-to : (v : ℕ) → IsLoop f K v → IsLoop f K' v
  loop-to v (r, l, i, (w, e, q)) =
      let s = both-same l (live_to l) in
      let i' = in-to l i in
      let e' = edge_to f K K' r s i i' e in
      (r, live_to l, i', (w, e', reach-to f K K' r s (reach_snoc i e) (reach_snoc i' e') q))

  -- the open calls go on at places after calls in reachable routines
  path-in : {r : Routine} {ks : List ℕ} {v : ℕ} {l : List ℕ} → Nested f K r ks → Live f K r → In f K r v → Path f K ks v l → Path f K' ks v l
  path-in n live i (rti k) = rti k
  path-in {r} n live i (goes k e p) = goes k e (path-in n live (reach_snoc i (edge_on f K r k e)) p)
  path-in {r} n live i (calls {v} k p) =
      calls k (rw (after_same f K K' v (known-to (f.entry v) (call live i k))) at (path-in {r = called (f.entry v)} (inner n live i k) (call live i k) here p))
  path-in (inner {r = r} n live' j c) live i (ret k p) = ret k (path-in {r = r} n live' (reach_snoc j (edge-call f K r c)) p)

  pub path-to : {l : List ℕ} → HandlerPath f K l → HandlerPath f K' l
  path-to p = path-in none handler here p

module _ {f : Flow} {n E : ℕ} (small : Small f n E) (widens : Widens f) {K K' : ℕ → Bool} (judged : Judged f K) (judged' : Judged f K') where
  pub first_to : {measure : List ℕ → ℕ} {l : List ℕ} → FirstOf f (HandlerPath f K) measure l → FirstOf f (HandlerPath f K') measure l
  first_to a = record {
    in_it = path-to small widens judged judged' a.in_it;
    most = λ m p. a.most m (path-to small widens judged' judged p);
    first = λ m p e. a.first m (path-to small widens judged' judged p) e;
  }

  pub lowest-bad-to : {address : ℕ → ℕ} {a : ℕ} → LowestAddress address (IsBad f K) a → LowestAddress address (IsBad f K') a
  lowest-bad-to x = record {
    holds = let h = x.holds in (h.0, bad-to small widens judged judged' h.0 h.1, h.2);
    least = λ b h. x.least b (h.0, bad-to small widens judged' judged h.0 h.1, h.2);
  }

  pub lowest-loop-to : {address : ℕ → ℕ} {a : ℕ} → LowestAddress address (IsLoop f K) a → LowestAddress address (IsLoop f K') a
  lowest-loop-to x = record {
    holds = let h = x.holds in (h.0, loop-to small widens judged judged' h.0 h.1, h.2);
    least = λ b h. x.least b (h.0, loop-to small widens judged' judged h.0 h.1, h.2);
  }

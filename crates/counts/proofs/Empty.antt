-- Without counts the answer is today's.
use mathlib.Core.Path.{◌≡◌, refl, sym, ap, subst}
use mathlib.Core.Bool.{Bool}
use mathlib.Core.List.{List, [], ◌∷◌, map}
use Prim.Native.Nat.{ℕ, zero, suc, ◌≤◌, ◌<◌}
use native.Mathlib.Omega.{arith}
use native.Mathlib.Decide.{dec_le}
use lib.ListN.{length, get_or}
use Rattle.graph.specs.Graph.{Edge, Reach, here, step}
use Rattle.graph.proofs.Pigeon.{Twice, pigeon}
use Rattle.routines.specs.Calling.{Flow, Routine, after, within, Path, HandlerPath, FirstOf, IsLoop}
use Rattle.routines.specs.Shape.{Small, Widens}
use Rattle.routines.proofs.Done.{in-lt, done}
use Rattle.routines.proofs.Exists.{first-of-handler}
use Rattle.routines.specs.Answer.{Found, recursion, excluded, repetition, LowestAddress, Judged, HasBound, FlowAnswer, Answer}
use Rattle.counts.specs.Counts.{Member, first, later, Numbers, Fits, Open, Counted, CountedPath, uncounted, is_counted, IsUncountedLoop}
use Rattle.counts.specs.Weights.{Weighs, Product, Total, Once, Weight}
use Rattle.counts.specs.CountedAnswer.{CountedFound, as_today, most_turns, Settled, HasCountedBound, CountedFlowAnswer, CountedAnswer}

member_some : {A : Type 0} {x : A} {l : List A} → Member x l → 0 < length l
member_some first = omega arith
member_some (later m) = omega arith

pub no_member : {A : Type 0} {x : A} → Member x [] → ⊥
no_member m = let h : 0 < 0 = member_some m in omega (arith, h)

fits_any : (address : ℕ → ℕ) (w : ℕ) (u : Numbers) → Fits address [] u w
fits_any address w u c m e = absurd (no_member m)

not_empty : {x : ℕ} {l : List ℕ} → [] ≡ x ∷ l → ⊥
not_empty {l = l} h = let e : 0 ≡ suc (length l) = ap length h in omega arith

-- a list without repetition of numbers below n has at most n of them
member_at : (l : List ℕ) (i : ℕ) → i < length l → Member (get_or l i 0) l
member_at [] i h = absurd (omega (arith, h))
member_at (x ∷ l) zero h = first
member_at (x ∷ l) (suc i) h = later (member_at l i (omega (arith, h)))

once_apart : {l : List ℕ} → Once l → (i j : ℕ) → i < j → j < length l → get_or l i 0 ≡ get_or l j 0 → ⊥
once_apart Once.none i j a b e = omega (arith, b)
once_apart (Once.adds {l = l} new o) zero (suc j) a b e = new (rw (← e) at (member_at l j (omega (arith, b))))
once_apart (Once.adds new o) (suc i) (suc j) a b e = once_apart o i j (omega (arith, a)) (omega (arith, b)) e
once_apart (Once.adds new o) i zero a b e = omega (arith, a)

pub once_length : (n : ℕ) (l : List ℕ) → Once l → ((v : ℕ) → Member v l → v < n) → length l ≤ n
unfolding Twice
once_length n l o below = go (dec_le (length l) n)
  where
    go : Dec (length l ≤ n) → length l ≤ n
    go (yes h) = h
    go (no h) =
        let t = pigeon n (λ i. get_or l i 0) (λ i k. below (get_or l i 0) (member_at l i (omega (arith, k, h)))) in
        absurd (once_apart o t.0 t.1 t.2 (omega (arith, t.3, h)) t.4)

module _ (f : Flow) (K : ℕ → Bool) (address : ℕ → ℕ) where
  abbrev place_of : Open → ℕ
  place_of o = o.place

  -- a path is a counted one, whatever the numbers
  to-counted : {ks : List Open} {hs : List ℕ} {u : Numbers} {v : ℕ} {l : List ℕ} → hs ≡ map place_of ks → Path f K hs v l → Counted f K address [] ks u v l
  to-counted {ks = []} e (Path.rti k) = Counted.rti k
  to-counted {ks = o ∷ ks} e (Path.rti k) = absurd (not_empty e)
  to-counted {u = u} e (Path.goes {w = w} k n p) = Counted.goes k n (fits_any address w u) (to-counted e p)
  to-counted {ks = ks} {u = u} e (Path.calls {v = v} k p) = Counted.calls k (to-counted (ap (λ (l : List ℕ). after f K v ∷ l) e) p)
  to-counted {ks = []} e (Path.ret k p) = absurd (not_empty (sym e))
  to-counted {ks = o ∷ ks} {u = u} {v = v} e (Path.ret {w = w} {l = l} k p) =
      let h : w ≡ o.place = cc in
      let x : Counted f K address [] (record { place = w; numbers = o.numbers } ∷ ks) u v (v ∷ l) = Counted.ret {ks = ks} k (fits_any address w o.numbers) (to-counted {ks = ks} (cc) p) in
      subst (λ y. Counted f K address [] (record { place = y; numbers = o.numbers } ∷ ks) u v (v ∷ l)) h x

  of-counted : {ks : List Open} {u : Numbers} {v : ℕ} {l : List ℕ} → Counted f K address [] ks u v l → Path f K (map place_of ks) v l
  of-counted (Counted.rti k) = Path.rti k
  of-counted (Counted.goes k n fits p) = Path.goes k n (of-counted p)
  of-counted (Counted.calls k p) = Path.calls k (of-counted p)
  of-counted (Counted.ret k fits p) = Path.ret k (of-counted p)

  first_of : {measure : List ℕ → ℕ} {l : List ℕ} → FirstOf f (CountedPath f K address []) measure l → FirstOf f (HandlerPath f K) measure l
  first_of x = record { in_it = of-counted x.in_it; most = λ m p. x.most m (to-counted refl p); first = λ m p e. x.first m (to-counted refl p) e }

  edge_same : (r : Routine) (v w : ℕ) → Edge (uncounted f K address [] r) v w → Edge (within f K r) v w
  unfolding uncounted is_counted
  edge_same r v w e = e

  edge-back : (r : Routine) (v w : ℕ) → Edge (within f K r) v w → Edge (uncounted f K address [] r) v w
  unfolding uncounted is_counted
  edge-back r v w e = e

  reach_same : (r : Routine) {v w : ℕ} → Reach (uncounted f K address [] r) v w → Reach (within f K r) v w
  reach_same r here = here
  reach_same r (step {u} {v} e q) = step (edge_same r u v e) (reach_same r q)

  reach-back : (r : Routine) {v w : ℕ} → Reach (within f K r) v w → Reach (uncounted f K address [] r) v w
  reach-back r here = here
  reach-back r (step {u} {v} e q) = step (edge-back r u v e) (reach-back r q)

  loop-of : (v : ℕ) → IsUncountedLoop f K address [] v → IsLoop f K v
  loop-of v (r, l, i, (w, e, q)) = (r, l, i, (w, edge_same r v w e, reach_same r q))

  loop-to : (v : ℕ) → IsLoop f K v → IsUncountedLoop f K address [] v
  loop-to v (r, l, i, (w, e, q)) = (r, l, i, (w, edge-back r v w e, reach-back r q))

  lowest-of : {a : ℕ} → LowestAddress address (IsUncountedLoop f K address []) a → LowestAddress address (IsLoop f K) a
  lowest-of x =
      let y = x.holds in
      record { holds = (y.0, loop-of y.0 y.1, y.2); least = λ b z. x.least b (z.0, loop-to z.0 z.1, z.2) }

  bound_of : {cycles : ℕ → ℕ} {N d : ℕ} {path deep : List ℕ} → Settled f K address [] → HasCountedBound f cycles K address [] N d path deep → HasBound f cycles K N d path deep
  bound_of s b = record { no_bad = s.no_bad; no_loop = λ v l. s.no_loop v (loop-to v l); longest = first_of b.longest; sum = b.sum; deepest = first_of b.deepest; depth = b.depth }

  product_one : {v n : ℕ} → Product (Weighs f K address v) [] n → n ≡ 1
  product_one Product.none = refl

  total-length : {l : List ℕ} {n : ℕ} → Total (λ v. Product (Weighs f K address v) []) l n → n ≡ length l
  total-length Total.none = refl
  total-length (Total.adds p t) = omega (arith, product_one p, total-length t)

  -- 28 and 27 are never given: there are at most as many places as the flow has, and a path leads to the end
  module _ {n E : ℕ} (small : Small f n E) (widens : Widens f) (few : n ≤ most_turns) (judged : Judged f K) where
    few-turns : {t : ℕ} → Weight f K address [] t → t ≤ most_turns
    few-turns w =
        let l = w.lists in
        omega (arith, total-length w.total, once_length n w.places l.once (λ v m. let x = l.only v m in in-lt f K small x.1 x.2), few)

    some-path : Settled f K address [] → (l : List ℕ) × HandlerPath f K l
    some-path s =
        let x = first-of-handler (done f K small widens judged.no_recursion s.no_bad (λ v l. s.no_loop v (loop-to v l))) (λ l. 0) in
        (x.0, x.1.in_it)

    pub flow-of : {cycles : ℕ → ℕ} {p p' q q' : List ℕ} {x : CountedFound} → CountedFlowAnswer f cycles address [] p p' q q' K x → (y : Found) × (x ≡ as_today y) × FlowAnswer f cycles address p p' q q' K y
    flow-of (CountedFlowAnswer.gives_21 {a = a} l k) = (excluded a, refl, FlowAnswer.gives_21 l k)
    flow-of (CountedFlowAnswer.gives_22 {a = a} b l k) = (repetition a, refl, FlowAnswer.gives_22 b (lowest-of l) k)
    flow-of (CountedFlowAnswer.gives_28 s w h k) = absurd (omega (arith, few-turns w, h))
    flow-of (CountedFlowAnswer.gives_27 s w h no_one k) = let y = some-path s in absurd (no_one y.0 (to-counted refl y.1))
    flow-of (CountedFlowAnswer.bounded {x = x} s w h b y) = (x, refl, FlowAnswer.bounded (bound_of s b) y)

pub answer_of_lem : (f : Flow) {n E : ℕ} → Small f n E → Widens f → n ≤ most_turns → {cycles address : ℕ → ℕ} {p p' q q' : List ℕ} {x : CountedFound} → CountedAnswer f cycles address [] p p' q q' x
    → (y : Found) × (x ≡ as_today y) × Answer f cycles address p p' q q' y
answer_of_lem f small widens few (CountedAnswer.gives_24 {e = e} l k) = (recursion e, refl, Answer.gives_24 l k)
answer_of_lem f small widens few {address = address} (CountedAnswer.judged {K = K} j a) = let y = flow-of f K address small widens few j a in (y.0, y.1, Answer.judged j y.2)

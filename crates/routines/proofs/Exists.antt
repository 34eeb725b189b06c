-- Where every way ends, there is a path, and for any measure the first of those with the largest.
use mathlib.Core.Path.{◌≡◌, refl, sym, ap, ◌∙◌}
use mathlib.Core.Logic.{◌⊎◌, inl, inr, ⊎_elim}
use mathlib.Core.Bool.{Bool}
use mathlib.Core.List.{List, [], ◌∷◌}
use Prim.Native.Nat.{ℕ, ◌≤◌, ◌<◌}
use native.Mathlib.Omega.{arith}
use native.Mathlib.Decide.{ℕ_discrete, dec_le}
use Rattle.graph.specs.Graph.{Reach, sum}
use Rattle.graph.proofs.Reach.{reach_snoc}
use Rattle.routines.specs.Calling.{Flow, Routine, outer, called, after, Path, rti, goes, calls, ret, Before, turns, later, depth, FirstOf, start_in, within, Live, Recurs, IsBad, IsLoop}
use Rattle.routines.specs.Shape.{Small, Widens}
use Rattle.routines.specs.Answer.{Judged, HasBound}
use Rattle.routines.proofs.Within.{edge-call}
use Rattle.routines.proofs.Done.{Done, Nested, none, inner, done_at, done}

module _ {f : Flow} {K : ℕ → Bool} where
  -- a path begins with its place, and goes on by the place's kind
  pub path-head : {ks : List ℕ} {v : ℕ} {l : List ℕ} → Path f K ks v l → (t : List ℕ) × (l ≡ v ∷ t)
  path-head (rti k) = ([], refl)
  path-head (goes {l = l} k e p) = (l, refl)
  path-head (calls {l = l} k p) = (l, refl)
  path-head (ret {l = l} k p) = (l, refl)

  pub path-rti : {v : ℕ} {l : List ℕ} → f.kind v ≡ 2 → Path f K [] v l → l ≡ v ∷ []
  path-rti h (rti k) = refl
  path-rti h (goes k e p) = absurd (omega arith)
  path-rti h (calls k p) = absurd (omega arith)

  pub path-ret : {ks : List ℕ} {v w : ℕ} {l : List ℕ} → f.kind v ≡ 4 → Path f K (w ∷ ks) v l → (t : List ℕ) × (l ≡ v ∷ t) × Path f K ks w t
  path-ret h (goes k e p) = absurd (omega arith)
  path-ret h (calls k p) = absurd (omega arith)
  path-ret h (ret {l = l} k p) = (l, refl, p)

  pub path-call : {ks : List ℕ} {v : ℕ} {l : List ℕ} → f.kind v ≡ 3 → Path f K ks v l → (t : List ℕ) × (l ≡ v ∷ t) × Path f K (after f K v ∷ ks) (f.from (f.entry v)) t
  path-call h (rti k) = absurd (omega arith)
  path-call h (goes k e p) = absurd (omega arith)
  path-call h (calls {l = l} k p) = (l, refl, p)
  path-call h (ret k p) = absurd (omega arith)

  pub path-on : {ks : List ℕ} {v : ℕ} {l : List ℕ} → f.kind v ≡ 1 → Path f K ks v l → (t : List ℕ) × (l ≡ v ∷ t) × (Path f K ks (f.next v) t ⊎ Path f K ks (f.other v) t)
  path-on h (rti k) = absurd (omega arith)
  path-on h (goes {l = l} k (inl e) p) = (l, refl, inl (rw e at p))
  path-on h (goes {l = l} k (inr e) p) = (l, refl, inr (rw e at p))
  path-on h (calls k p) = absurd (omega arith)
  path-on h (ret k p) = absurd (omega arith)

-- what is first of S by what it measures behind v is first of T, whose lists are v and one of S
behind : {f : Flow} {S T : List ℕ → Type 0} {m : List ℕ → ℕ} {v : ℕ} {l : List ℕ} → ((t : List ℕ) → S t → T (v ∷ t)) → ((t : List ℕ) → T t → (u : List ℕ) × (t ≡ v ∷ u) × S u)
    → FirstOf f S (λ t. m (v ∷ t)) l → FirstOf f T m (v ∷ l)
behind {f} {S} {T} {m} {v} {l} to of a = record {
  in_it = to l a.in_it;
  most = λ t x. let u = of t x in rw u.1 (a.most u.0 u.2);
  first = λ t x e. let u = of t x in go t u.0 u.1 u.2 e;
}
  where
    go : (t u : List ℕ) → t ≡ v ∷ u → S u → m t ≡ m (v ∷ l) → (t ≡ v ∷ l) ⊎ Before f (v ∷ l) t
    go t u q s e = rw q (⊎_elim (λ h. inl (ap (λ (x : List ℕ). v ∷ x) h)) (λ h. inr (later h)) (a.first u s (ap m (sym q) ∙ e)))

abbrev Firsts : Flow → (ℕ → Bool) → List ℕ → ℕ → Type 0
Firsts f K ks v = (m : List ℕ → ℕ) → (l : List ℕ) × FirstOf f (Path f K ks v) m l

-- what comes after the routine: nothing, or the paths from where its call goes on
data Back (f : Flow) (K : ℕ → Bool) : Routine → List ℕ → Type 0 where
  top : Back f K outer []
  to : {e w : ℕ} {ks : List ℕ} → Firsts f K ks w → Back f K (called e) (w ∷ ks)

module _ {f : Flow} {K : ℕ → Bool} where
  -- at a fork: by next, unless that measures less
  forked : {ks : List ℕ} {v : ℕ} (m : List ℕ → ℕ) → f.kind v ≡ 1 → (x : (l : List ℕ) × FirstOf f (Path f K ks (f.next v)) (λ t. m (v ∷ t)) l)
      → (y : (l : List ℕ) × FirstOf f (Path f K ks (f.other v)) (λ t. m (v ∷ t)) l) → (l : List ℕ) × FirstOf f (Path f K ks v) m l
  forked {ks} {v} m k (x, a) (y, b) = go (dec_le (m (v ∷ y)) (m (v ∷ x))) (ℕ_discrete (f.next v) (f.other v))
    where
      by-next-most : m (v ∷ y) ≤ m (v ∷ x) → (t : List ℕ) → Path f K ks v t → m t ≤ m (v ∷ x)
      by-next-most h t p =
          let u = path-on k p in
          rw u.1 (⊎_elim (λ q. a.most u.0 q) (λ q. omega (arith, b.most u.0 q)) u.2)

      by-next-first : Dec (f.next v ≡ f.other v) → (u : List ℕ) → Path f K ks (f.next v) u ⊎ Path f K ks (f.other v) u → m (v ∷ u) ≡ m (v ∷ x) → (v ∷ u ≡ v ∷ x) ⊎ Before f (v ∷ x) (v ∷ u)
      by-next-first d u (inl q) e = ⊎_elim (λ h. inl (ap (λ (z : List ℕ). v ∷ z) h)) (λ h. inr (later h)) (a.first u q e)
      by-next-first (yes s) u (inr q) e = ⊎_elim (λ h. inl (ap (λ (z : List ℕ). v ∷ z) h)) (λ h. inr (later h)) (a.first u (rw s q) e)
      by-next-first (no s) u (inr q) e =
          let hx = path-head a.in_it in
          let hu = path-head q in
          inr (rw (hx.1, hu.1) (turns k refl refl s))

      by-other-most : m (v ∷ x) < m (v ∷ y) → (t : List ℕ) → Path f K ks v t → m t ≤ m (v ∷ y)
      by-other-most h t p =
          let u = path-on k p in
          rw u.1 (⊎_elim (λ q. omega (arith, a.most u.0 q)) (λ q. b.most u.0 q) u.2)

      by-other-first : m (v ∷ x) < m (v ∷ y) → (u : List ℕ) → Path f K ks (f.next v) u ⊎ Path f K ks (f.other v) u → m (v ∷ u) ≡ m (v ∷ y) → (v ∷ u ≡ v ∷ y) ⊎ Before f (v ∷ y) (v ∷ u)
      by-other-first h u (inl q) e = absurd (omega (arith, a.most u q))
      by-other-first h u (inr q) e = ⊎_elim (λ h. inl (ap (λ (z : List ℕ). v ∷ z) h)) (λ h. inr (later h)) (b.first u q e)

      back : {z : List ℕ} → ((u : List ℕ) → Path f K ks (f.next v) u ⊎ Path f K ks (f.other v) u → m (v ∷ u) ≡ m z → (v ∷ u ≡ z) ⊎ Before f z (v ∷ u))
          → (t : List ℕ) → Path f K ks v t → m t ≡ m z → (t ≡ z) ⊎ Before f z t
      back {z} first t p e =
          let u = path-on k p in
          rw u.1 (first u.0 u.2 (ap m (sym u.1) ∙ e))

      go : Dec (m (v ∷ y) ≤ m (v ∷ x)) → Dec (f.next v ≡ f.other v) → (l : List ℕ) × FirstOf f (Path f K ks v) m l
      go (yes h) d = (v ∷ x, record { in_it = goes k (inl refl) a.in_it; most = by-next-most h; first = back (by-next-first d) })
      go (no h) d = (v ∷ y, record { in_it = goes k (inr refl) b.in_it; most = by-other-most (omega arith); first = back (by-other-first (omega arith)) })

  first-from : {r : Routine} {v : ℕ} {ks : List ℕ} → Done f K r v → Back f K r ks → Firsts f K ks v
  first-from {v = v} (Done.ends k) top m =
      (v ∷ [], record { in_it = rti k; most = λ t p. rw (path-rti k p) (omega arith); first = λ t p e. inl (path-rti k p) })
  first-from {v = v} (Done.ends k) (to b) m =
      let x = b (λ t. m (v ∷ t)) in
      (v ∷ x.0, behind (λ t p. ret k p) (λ t p. path-ret k p) x.1)
  first-from {v = v} (Done.goes k a b) back m = forked m k (first-from a back (λ t. m (v ∷ t))) (first-from b back (λ t. m (v ∷ t)))
  first-from {v = v} (Done.calls k a b) back m =
      let x = first-from a (to (λ m'. first-from b back m')) (λ t. m (v ∷ t)) in
      (v ∷ x.0, behind (λ t p. calls k p) (λ t p. path-call k p) x.1)

  pub first-of-handler : Done f K outer f.start → (m : List ℕ → ℕ) → (l : List ℕ) × FirstOf f (Path f K [] f.start) m l
  first-of-handler d m = first-from d top m

-- where nothing is refused on the flow
module _ (f : Flow) (K : ℕ → Bool) {n E : ℕ} (small : Small f n E) (widens : Widens f) (no_recursion : (e : ℕ) → Recurs f e → ⊥) (no_bad : (v : ℕ) → IsBad f K v → ⊥)
    (no_loop : (v : ℕ) → IsLoop f K v → ⊥) where
  back-of : {r : Routine} {ks : List ℕ} → Nested f K r ks → Back f K r ks
  back-of none = top
  back-of (inner {r = r} nested live i k) =
      to (first-from (done_at f K small widens no_recursion no_bad no_loop live (reach_snoc i (edge-call f K r k))) (back-of nested))

  -- from each reachable place a path leads to RTI, with any calls open that can be
  pub has-path : {r : Routine} {ks : List ℕ} {v : ℕ} → Nested f K r ks → Live f K r → Reach (within f K r) (start_in f r) v → (l : List ℕ) × Path f K ks v l
  has-path nested live i =
      let x = first-from (done_at f K small widens no_recursion no_bad no_loop live i) (back-of nested) (λ l. 0) in
      (x.0, x.1.in_it)

-- N, depth and their paths exist where nothing is refused on the flow
pub has_bound : (f : Flow) (cycles : ℕ → ℕ) (K : ℕ → Bool) {n E : ℕ} → Small f n E → Widens f → Judged f K → ((v : ℕ) → IsBad f K v → ⊥) → ((v : ℕ) → IsLoop f K v → ⊥)
    → (N d : ℕ) × (path : List ℕ) × (deep : List ℕ) × HasBound f cycles K N d path deep
has_bound f cycles K small widens judged no_bad no_loop =
    let way = done f K small widens judged.no_recursion no_bad no_loop in
    let a = first-of-handler way (sum cycles) in
    let b = first-of-handler way (depth f) in
    (sum cycles a.0, depth f b.0, a.0, b.0, record { no_bad = no_bad; no_loop = no_loop; longest = a.1; sum = refl; deepest = b.1; depth = refl })

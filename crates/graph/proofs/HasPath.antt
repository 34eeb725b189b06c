-- Where neither an excluded place nor a repetition is reached from s, a path leads on from each place that is.
use mathlib.Core.Path.{◌≡◌, refl, ap}
use mathlib.Core.Logic.{◌⊎◌, inl, inr, ⊎_elim}
use mathlib.Core.List.{List, [], ◌∷◌}
use Prim.Native.Nat.{ℕ, zero, suc, ◌<◌}
use native.Mathlib.Nat.{not-suc-le-zero}
use native.Mathlib.Omega.{arith}
use native.Mathlib.Decide.{ℕ_discrete}
use Rattle.graph.specs.Graph.{Graph, GoesOn, Ends, Edge, Reach, here, ReachPlus, Path, ends, goes, Sound}
use Rattle.graph.specs.Laid.{Inside}
use Rattle.graph.proofs.Reach.{reach_snoc, reach_inside}
use Rattle.graph.proofs.Pigeon.{Twice, pigeon}

-- a place that is not excluded goes on or ends
pub on_or_ends : {g : Graph} {s : ℕ} → Sound g s → (v : ℕ) → Reach g s v → GoesOn g v ⊎ Ends g v
on_or_ends {g} {s} sound v r = go (ℕ_discrete (g.kind v) 1) (ℕ_discrete (g.kind v) 2)
  where
    go : Dec (GoesOn g v) → Dec (Ends g v) → GoesOn g v ⊎ Ends g v
    go (yes a) q = inl a
    go (no a) (yes b) = inr b
    go (no a) (no b) = absurd (sound.no_bad v (r, record { not_on = a; not_end = b }))

-- by next from v, k times
chain : Graph → ℕ → ℕ → ℕ
chain g v zero = v
chain g v (suc k) = g.next (chain g v k)

-- where the first k places of the chain go on, each is reached from each before it
chain_reach : (g : Graph) (v k : ℕ) → ((i : ℕ) → i < k → GoesOn g (chain g v i)) → (i : ℕ) → i < k → ReachPlus g (chain g v i) (chain g v k)
unfolding chain
chain_reach g v zero all i l = absurd (not-suc-le-zero l)
chain_reach g v (suc k) all i l = go (λ l'. chain_reach g v k (λ j lj. all j (omega arith)) i l') (ℕ_discrete i k)
  where
    edge : Edge g (chain g v k) (chain g v (suc k))
    edge = (all k (omega arith), inl refl)

    go : (i < k → ReachPlus g (chain g v i) (chain g v k)) → Dec (i ≡ k) → ReachPlus g (chain g v i) (chain g v (suc k))
    go ih (yes e) = rw e (chain g v (suc k), edge, here)
    go ih (no ne) = let r = ih (omega arith) in (r.0, r.1, reach_snoc r.2 edge)

abbrev AllOn : Graph → ℕ → ℕ → ℕ → Type 0
AllOn g s v k = (i : ℕ) → i < k → Reach g s (chain g v i) × GoesOn g (chain g v i)

module _ {g : Graph} {s n : ℕ} (inside : Inside g n) (s-lt : s < n) (sound : Sound g s) where
  -- by next an end comes, or k places go on
  path-of : (k v : ℕ) → Reach g s v → ((l : List ℕ) × Path g v l) ⊎ AllOn g s v k
  unfolding chain
  path-of zero v r = inr (λ i l. absurd (not-suc-le-zero l))
  path-of (suc k) v r = go (on_or_ends sound v r) (λ z. path-of k (g.next v) (reach_snoc r (z, inl refl)))
    where
      shift : (i : ℕ) → chain g (g.next v) i ≡ chain g v (suc i)
      shift zero = refl
      shift (suc i) = ap (λ (x : ℕ). g.next x) (shift i)

      more : GoesOn g v → AllOn g s (g.next v) k → AllOn g s v (suc k)
      more z all zero l = (r, z)
      more z all (suc i) l = rw (shift i) at (all i (omega arith))

      go : GoesOn g v ⊎ Ends g v → (GoesOn g v → ((l : List ℕ) × Path g (g.next v) l) ⊎ AllOn g s (g.next v) k) → ((l : List ℕ) × Path g v l) ⊎ AllOn g s v (suc k)
      go (inr e) ih = inl (v ∷ [], ends e)
      go (inl z) ih = ⊎_elim (λ p. inl (v ∷ p.0, goes (z, inl refl) p.1)) (λ all. inr (more z all)) (ih z)

  -- of n + 1 places that go on, one would come twice
  pub has-path : (v : ℕ) → Reach g s v → (l : List ℕ) × Path g v l
  unfolding Twice
  has-path v r =
      ⊎_elim (λ p. p) (λ all.
      let t = pigeon n (chain g v) (λ i l. reach_inside inside (all i l).0 s-lt) in
      let back = chain_reach g v t.1 (λ j lj. (all j (omega (arith, t.3))).1) t.0 t.2 in
      absurd (sound.no_loop (chain g v t.0) ((all t.0 (omega (arith, t.2, t.3))).0, rw (← t.4) at back)))
      (path-of (suc n) v r)

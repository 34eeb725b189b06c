-- Every question has an answer: with one-answer of the crate routines, exactly one.
use mathlib.Core.Path.{◌≡◌, refl}
use mathlib.Core.Logic.{◌⊎◌, inl, inr, ⊎_elim}
use mathlib.Core.Bool.{Bool}
use mathlib.Core.List.{List, ◌++◌}
use Prim.Native.Nat.{ℕ, zero, suc, ◌+◌, ◌-◌, ◌*◌, ◌/◌, ◌%◌, ◌≤◌, ◌<◌}
use native.Mathlib.Nat.{not-suc-le-zero}
use native.Mathlib.Omega.{arith}
use native.Mathlib.Decide.{ℕ_discrete, dec_lt}
use lib.ListN.{length, drop}
use Rattle.graph.specs.Graph.{GoesOn, Ends, Edge, Reach, ReachPlus, Bad, Loops, Least}
use Rattle.graph.specs.Laid.{Inside}
use Rattle.graph.proofs.Reach.{reach_inside}
use Rattle.routines.specs.Calling.{Flow, Routine, outer, called, unknown, within}
use Rattle.routines.specs.Shape.{Small, Widens}
use Rattle.routines.specs.Answer.{Found, short, too_large, bounds, excluded, repetition, recursion, bytes_of, Judged, Kept, PathAnswer, FlowAnswer, Answer}
use Rattle.routines.proofs.Done.{inside}
use Rattle.routines.proofs.Decide.{reached-dec}
use Rattle.routines.proofs.KExists.{all_judged}
use Rattle.routines.proofs.Exists.{has_bound}
use Rattle.routines.specs.Joined.{code, place_of, joined}
use Rattle.routines.proofs.Edges.{edge-parts, edge-of-entry}
use Rattle.routines.proofs.Refusals.{no_bad, lowest-bad, lowest-recursion, no_recursion}
use Rattle.routines.proofs.Repeats.{lowest-loop, no_loop}

-- the least number with P, or none below n
least_below : (P : ℕ → Type 0) → ((x : ℕ) → Dec (P x)) → (n : ℕ) → ((a : ℕ) × (a < n) × Least P a) ⊎ ((x : ℕ) → x < n → P x → ⊥)
least_below P dec zero = inr (λ x l p. not-suc-le-zero l)
least_below P dec (suc n) = go (least_below P dec n) (dec n)
  where
    go : ((a : ℕ) × (a < n) × Least P a) ⊎ ((x : ℕ) → x < n → P x → ⊥) → Dec (P n) → ((a : ℕ) × (a < suc n) × Least P a) ⊎ ((x : ℕ) → x < suc n → P x → ⊥)
    go (inl (a, l, p)) d = inl (a, omega arith, p)
    go (inr none) (yes p) = inl (n, omega arith, record { holds = p; least = λ b q. below b q (dec_lt b n) })
      where
        below : (b : ℕ) → P b → Dec (b < n) → n ≤ b
        below b q (yes l) = absurd (none b l q)
        below b q (no l) = omega arith
    go (inr none) (no p) = inr (λ x l q. last x l q (ℕ_discrete x n))
      where
        last : (x : ℕ) → x < suc n → P x → Dec (x ≡ n) → ⊥
        last x l q (yes e) = p (rw e at q)
        last x l q (no e) = none x (omega arith) q

-- what a number above the entries stands for
decode : (E x : ℕ) → E ≤ x → (r : Routine) × (v : ℕ) × (x ≡ code E r v)
decode E x l = go (ℕ_discrete ((x - E) % 2) 1)
  where
    go : Dec ((x - E) % 2 ≡ 1) → (r : Routine) × (v : ℕ) × (x ≡ code E r v)
    go (yes e) = (outer, (x - E) / 2, omega arith)
    go (no e) = (called 0, (x - E) / 2, omega arith)

code_lt : (E n : ℕ) (r : Routine) (v : ℕ) → v < n → code E r v < E + 2 * n
code_lt E n outer v l = omega arith
code_lt E n (called e) v l = omega arith

place_lt : (E n : ℕ) (r : Routine) (v : ℕ) → code E r v < E + 2 * n → v < n
place_lt E n outer v l = omega arith
place_lt E n (called e) v l = omega arith

module _ (f : Flow) (E : ℕ) {n : ℕ} (small : Small f n E) where
  joined-inside : (K : ℕ → Bool) → Inside (joined f K E) (E + 2 * n)
  joined-inside K = record { edge = λ x y l e. go x y l e (dec_lt x E) }
    where
      go : (x y : ℕ) → x < E + 2 * n → Edge (joined f K E) x y → Dec (x < E) → y < E + 2 * n
      go x y l e (yes h) = rw (edge-of-entry f K E x 0 y h e) (code_lt E n (called 0) (f.from x) (small.from x h))
      go x y l e (no h) =
          let c = decode E x (omega arith) in
          parts c.0 c.1 (place_lt E n c.0 c.1 (rw (← c.2) l)) (edge-parts f K E c.0 c.1 y (rw c.2 at e))
        where
          parts : (r : Routine) (v : ℕ) → v < n → ((w : ℕ) × Edge (within f K r) v w × (y ≡ code E r w)) ⊎ ((f.kind v ≡ 3) × (y ≡ f.entry v)) → y < E + 2 * n
          parts r v k (inl (w, a, z)) = rw z (code_lt E n r w ((inside f K small r).edge v w k a))
          parts r v k (inr (c, z)) = rw z (omega (arith, small.entry v k))

  abbrev s : ℕ
  s = code E outer f.start

  s-lt : s < E + 2 * n
  s-lt = code_lt E n outer f.start small.start

  reach-dec : (K : ℕ → Bool) (u x : ℕ) → u < E + 2 * n → Dec (Reach (joined f K E) u x)
  reach-dec K u x l = go (reached-dec (joined f K E) (E + 2 * n) (joined-inside K) (λ v. v ≡ x) (λ v. ℕ_discrete v x) u l)
    where
      go : Dec ((v : ℕ) × Reach (joined f K E) u v × (v ≡ x)) → Dec (Reach (joined f K E) u x)
      go (yes a) = yes (rw a.2 at a.1)
      go (no a) = no (λ r. a (x, r, refl))

  bad-dec : (K : ℕ → Bool) (x : ℕ) → Dec (Bad (joined f K E) s x)
  bad-dec K x = go (reach-dec K s x s-lt) (ℕ_discrete ((joined f K E).kind x) 1) (ℕ_discrete ((joined f K E).kind x) 2)
    where
      go : Dec (Reach (joined f K E) s x) → Dec (GoesOn (joined f K E) x) → Dec (Ends (joined f K E) x) → Dec (Bad (joined f K E) s x)
      go (no a) b c = no (λ z. a z.0)
      go (yes a) (yes b) c = no (λ z. z.1.not_on b)
      go (yes a) (no b) (yes c) = no (λ z. z.1.not_end c)
      go (yes a) (no b) (no c) = yes (a, record { not_on = b; not_end = c })

  loops-dec : (K : ℕ → Bool) (x : ℕ) → Dec (Loops (joined f K E) s x)
  loops-dec K x = go (reach-dec K s x s-lt) (ℕ_discrete ((joined f K E).kind x) 1)
    where
      on : Reach (joined f K E) s x → GoesOn (joined f K E) x → Dec (ReachPlus (joined f K E) x x)
      on r g = both (reach-dec K ((joined f K E).next x) x (lt (inl refl))) (reach-dec K ((joined f K E).other x) x (lt (inr refl)))
        where
          lt : {y : ℕ} → (y ≡ (joined f K E).next x) ⊎ (y ≡ (joined f K E).other x) → y < E + 2 * n
          lt {y} e = (joined-inside K).edge x y (reach_inside (joined-inside K) r s-lt) (g, e)

          both : Dec (Reach (joined f K E) ((joined f K E).next x) x) → Dec (Reach (joined f K E) ((joined f K E).other x) x) → Dec (ReachPlus (joined f K E) x x)
          both (yes a) b = yes ((joined f K E).next x, (g, inl refl), a)
          both (no a) (yes b) = yes ((joined f K E).other x, (g, inr refl), b)
          both (no a) (no b) = no (λ z. ⊎_elim (λ h. a (rw h at z.2)) (λ h. b (rw h at z.2)) z.1.1)

      go : Dec (Reach (joined f K E) s x) → Dec (GoesOn (joined f K E) x) → Dec (Loops (joined f K E) s x)
      go (no a) b = no (λ z. a z.0)
      go (yes a) (no b) = no (λ z. b z.1.1.0)
      go (yes a) (yes b) = plus (on a b)
        where
          plus : Dec (ReachPlus (joined f K E) x x) → Dec (Loops (joined f K E) s x)
          plus (yes p) = yes (a, p)
          plus (no p) = no (λ z. p z.1)

  abbrev Answered : (ℕ → ℕ) → List ℕ → List ℕ → Type 0
  Answered cycles p q = (x : Found) × (p' : List ℕ) × (q' : List ℕ) × Answer f cycles (λ v. v / 2) p p' q q' x

  module _ (cycles : ℕ → ℕ) (p q : List ℕ) where
    kept : Kept p p q q
    kept = record { first = refl; second = refl }

    by-paths : (N d : ℕ) (path deep : List ℕ) → (x : Found) × (p' : List ℕ) × (q' : List ℕ) × PathAnswer (λ v. v / 2) p p' q q' N d path deep x
    by-paths N d path deep = go (dec_lt 65535 N) (dec_lt (length p) (2 * length path)) (dec_lt (length q) (2 * length deep))
      where
        go : Dec (65535 < N) → Dec (length p < 2 * length path) → Dec (length q < 2 * length deep) → (x : Found) × (p' : List ℕ) × (q' : List ℕ) × PathAnswer (λ v. v / 2) p p' q q' N d path deep x
        go (yes a) b c = (too_large, p, q, PathAnswer.gives_25 a kept)
        go (no a) (yes b) c = (short (2 * length path), p, q, PathAnswer.gives_23 (omega arith) b kept)
        go (no a) (no b) (yes c) = (short (2 * length deep), p, q, PathAnswer.gives_23_depth (omega arith) (omega arith) c kept)
        go (no a) (no b) (no c) =
            (bounds N d, bytes_of (λ v. v / 2) path ++ drop (2 * length path) p, bytes_of (λ v. v / 2) deep ++ drop (2 * length deep) q, PathAnswer.gives_n (omega arith) (omega arith) (omega arith) refl refl)

    module _ (widens : Widens f) where
      by_flow : (K : ℕ → Bool) → Judged f K → Answered cycles p q
      by_flow K j = go (least_below (Bad (joined f K E) s) (bad-dec K) (E + 2 * n)) (least_below (Loops (joined f K E) s) (loops-dec K) (E + 2 * n))
        where
          in_it : {x : ℕ} → Reach (joined f K E) s x → x < E + 2 * n
          in_it r = reach_inside (joined-inside K) r s-lt

          go : ((a : ℕ) × (a < E + 2 * n) × Least (Bad (joined f K E) s) a) ⊎ ((x : ℕ) → x < E + 2 * n → Bad (joined f K E) s x → ⊥)
              → ((a : ℕ) × (a < E + 2 * n) × Least (Loops (joined f K E) s) a) ⊎ ((x : ℕ) → x < E + 2 * n → Loops (joined f K E) s x → ⊥) → Answered cycles p q
          go (inl (a, l, h)) b = (excluded (place_of E a / 2), p, q, Answer.judged j (FlowAnswer.gives_21 (lowest-bad f K E small a h) kept))
          go (inr none) (inl (a, l, h)) = (
            repetition (place_of E a / 2),
            p,
            q,
            Answer.judged j (FlowAnswer.gives_22 (no_bad f K E small (λ x b. none x (in_it b.0) b)) (lowest-loop f K E small widens j.no_recursion a h) kept),
          )
          go (inr none) (inr never) =
              let b = has_bound f cycles K small widens j (no_bad f K E small (λ x b. none x (in_it b.0) b)) (no_loop f K E small (λ x b. never x (in_it b.0) b)) in
              let a = by-paths b.0 b.1 b.2 b.3 in
              (a.0, a.1, a.2, Answer.judged j (FlowAnswer.bounded b.4 a.3))

      pub answered : Answered cycles p q
      answered = go (least_below (Loops (joined f unknown E) s) (loops-dec unknown) E)
        where
          go : ((a : ℕ) × (a < E) × Least (Loops (joined f unknown E) s) a) ⊎ ((x : ℕ) → x < E → Loops (joined f unknown E) s x → ⊥) → Answered cycles p q
          go (inl (a, l, h)) = (recursion a, p, q, Answer.gives_24 (lowest-recursion f E small a l h) kept)
          go (inr none) = let k = all_judged f small widens (no_recursion f E small none) in by_flow k.0 k.1

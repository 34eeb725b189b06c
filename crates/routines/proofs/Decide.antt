-- In a finite graph it is decided whether a place of some sort is reached.
use mathlib.Core.Path.{◌≡◌, refl, sym}
use mathlib.Core.Logic.{◌⊎◌, inl, inr, ⊎_elim}
use mathlib.Core.List.{List, [], ◌∷◌}
use Prim.Native.Nat.{ℕ, zero, suc, ◌+◌, ◌<◌}
use native.Mathlib.Nat.{not-suc-le-zero}
use native.Mathlib.Omega.{arith}
use native.Mathlib.Decide.{ℕ_discrete}
use lib.ListN.{length, get_or}
use Rattle.graph.specs.Graph.{Graph, GoesOn, Edge, Reach}
use Rattle.graph.specs.Laid.{Inside}
use Rattle.graph.proofs.Pigeon.{Twice, pigeon}

abbrev Mem : ℕ → List ℕ → Type 0
Mem x [] = ⊥
Mem x (y ∷ l) = (x ≡ y) ⊎ Mem x l

mem_dec : (x : ℕ) (l : List ℕ) → Dec (Mem x l)
mem_dec x [] = no (λ m. m)
mem_dec x (y ∷ l) = go (ℕ_discrete x y) (mem_dec x l)
  where
    go : Dec (x ≡ y) → Dec (Mem x l) → Dec ((x ≡ y) ⊎ Mem x l)
    go (yes e) q = yes (inl e)
    go (no e) (yes m) = yes (inr m)
    go (no e) (no m) = no (λ z. ⊎_elim e m z)

mem_at : (l : List ℕ) (i : ℕ) → i < length l → Mem (get_or l i 0) l
mem_at [] i h = absurd (not-suc-le-zero h)
mem_at (x ∷ l) zero h = inl refl
mem_at (x ∷ l) (suc i) h = inr (mem_at l i (omega (arith, h)))

data Distinct : List ℕ → Type 0 where
  none : Distinct []
  one : {x : ℕ} {l : List ℕ} → (Mem x l → ⊥) → Distinct l → Distinct (x ∷ l)

distinct_at : (l : List ℕ) → Distinct l → (i j : ℕ) → i < j → j < length l → get_or l i 0 ≡ get_or l j 0 → ⊥
distinct_at [] d i j h t e = not-suc-le-zero t
distinct_at (x ∷ l) (one m d) zero zero h t e = not-suc-le-zero h
distinct_at (x ∷ l) (one m d) zero (suc j) h t e = m (rw e (mem_at l j (omega (arith, t))))
distinct_at (x ∷ l) (one m d) (suc i) zero h t e = not-suc-le-zero h
distinct_at (x ∷ l) (one m d) (suc i) (suc j) h t e = distinct_at l d i j (omega (arith, h)) (omega (arith, t)) e

-- no more than n numbers below n
few : (n : ℕ) (l : List ℕ) → Distinct l → ((i : ℕ) → i < length l → get_or l i 0 < n) → n < length l → ⊥
unfolding Twice
few n l d small h =
    let t = pigeon n (λ i. get_or l i 0) (λ i k. small i (omega (arith, k, h))) in
    distinct_at l d t.0 t.1 t.2 (omega (arith, t.3, h)) t.4

-- a way that meets none of these places
data Avoid (g : Graph) (seen : List ℕ) : ℕ → ℕ → Type 0 where
  here : {v : ℕ} → (Mem v seen → ⊥) → Avoid g seen v v
  step : {u v w : ℕ} → (Mem u seen → ⊥) → Edge g u v → Avoid g seen v w → Avoid g seen u w

avoid_first : {g : Graph} {seen : List ℕ} {u v : ℕ} → Avoid g seen u v → Mem u seen → ⊥
avoid_first (here n) = n
avoid_first (step n e q) = n

avoid_fewer : {g : Graph} {seen : List ℕ} {s u v : ℕ} → Avoid g (s ∷ seen) u v → Avoid g seen u v
avoid_fewer (here n) = here (λ m. n (inr m))
avoid_fewer (step n e q) = step (λ m. n (inr m)) e (avoid_fewer q)

-- a way meets s not at all, or is at its end there, or goes on from its last visit
last_visit : {g : Graph} {seen : List ℕ} (s : ℕ) {u v : ℕ} → Avoid g seen u v → Avoid g (s ∷ seen) u v ⊎ ((s ≡ v) ⊎ ((w : ℕ) × Edge g s w × Avoid g (s ∷ seen) w v))
last_visit {g} {seen} s (here {v} n) = go (ℕ_discrete v s)
  where
    go : Dec (v ≡ s) → Avoid g (s ∷ seen) v v ⊎ ((s ≡ v) ⊎ ((w : ℕ) × Edge g s w × Avoid g (s ∷ seen) w v))
    go (yes e) = inr (inl (sym e))
    go (no e) = inl (here (λ m. ⊎_elim e n m))
last_visit {g} {seen} s (step {u} {v} {w} n e q) = go (last_visit s q) (ℕ_discrete u s)
  where
    go : Avoid g (s ∷ seen) v w ⊎ ((s ≡ w) ⊎ ((x : ℕ) × Edge g s x × Avoid g (s ∷ seen) x w)) → Dec (u ≡ s) → Avoid g (s ∷ seen) u w ⊎ ((s ≡ w) ⊎ ((x : ℕ) × Edge g s x × Avoid g (s ∷ seen) x w))
    go (inl a) (yes z) = inr (inr (v, rw (← z) e, a))
    go (inl a) (no z) = inl (step (λ m. ⊎_elim z n m) e a)
    go (inr a) z = inr a

module _ (g : Graph) (n : ℕ) (inside : Inside g n) (Q : ℕ → Type 0) (dec : (v : ℕ) → Dec (Q v)) where
  Found : List ℕ → ℕ → Type 0
  Found seen s = (v : ℕ) × Avoid g seen s v × Q v

  -- not at s, so by next or by other or not at all
  beyond : (seen : List ℕ) (s : ℕ) → (Mem s seen → ⊥) → (Q s → ⊥) → Dec (GoesOn g s) → (GoesOn g s → Dec (Found (s ∷ seen) (g.next s))) → (GoesOn g s → Dec (Found (s ∷ seen) (g.other s))) → Dec (Found seen s)
  unfolding Found
  beyond seen s out not-here (no stop) a b = no (λ x. end x.1 x.2)
    where
      end : {v : ℕ} → Avoid g seen s v → Q v → ⊥
      end (here m) q = not-here q
      end (step m e r) q = stop e.0
  beyond seen s out not-here (yes on) a b = go (a on) (b on)
    where
      go : Dec (Found (s ∷ seen) (g.next s)) → Dec (Found (s ∷ seen) (g.other s)) → Dec (Found seen s)
      go (yes x) y = yes (x.0, step out (on, inl refl) (avoid_fewer x.1), x.2)
      go (no x) (yes y) = yes (y.0, step out (on, inr refl) (avoid_fewer y.1), y.2)
      go (no x) (no y) = no (λ z. end z.1 z.2)
        where
          -- behind s, a way that does not meet s again
          behind : {w v : ℕ} → Edge g s w → Avoid g (s ∷ seen) w v → Q v → ⊥
          behind {w} {v} e r q = ⊎_elim (λ h. x (v, rw h at r, q)) (λ h. y (v, rw h at r, q)) e.1

          end : {v : ℕ} → Avoid g seen s v → Q v → ⊥
          end (here m) q = not-here q
          end (step m e r) q = ⊎_elim (λ h. behind e h q) (λ h. ⊎_elim (λ k. not-here (rw k q)) (λ k. behind k.1 k.2 q) h) (last_visit s r)

  more-small : (s : ℕ) (seen : List ℕ) → s < n → ((i : ℕ) → i < length seen → get_or seen i 0 < n) → (i : ℕ) → i < length (s ∷ seen) → get_or (s ∷ seen) i 0 < n
  more-small s seen l small zero h = l
  more-small s seen l small (suc i) h = small i (omega (arith, h))

  search : (k : ℕ) (seen : List ℕ) → Distinct seen → ((i : ℕ) → i < length seen → get_or seen i 0 < n) → length seen + k ≡ n → (s : ℕ) → s < n → Dec (Found seen s)
  unfolding Found
  search zero seen d small e s l = go (mem_dec s seen)
    where
      go : Dec (Mem s seen) → Dec (Found seen s)
      go (yes m) = no (λ x. avoid_first x.1 m)
      go (no m) = absurd (few n (s ∷ seen) (one m d) (more-small s seen l small) (omega arith))
  search (suc k) seen d small e s l =
      go (mem_dec s seen) (dec s)
      (λ m on. search k (s ∷ seen) (one m d) (more-small s seen l small) (omega arith) (g.next s) (inside.edge s (g.next s) l (on, inl refl)))
      (λ m on. search k (s ∷ seen) (one m d) (more-small s seen l small) (omega arith) (g.other s) (inside.edge s (g.other s) l (on, inr refl)))
    where
      go : Dec (Mem s seen) → Dec (Q s) → ((Mem s seen → ⊥) → GoesOn g s → Dec (Found (s ∷ seen) (g.next s))) → ((Mem s seen → ⊥) → GoesOn g s → Dec (Found (s ∷ seen) (g.other s))) → Dec (Found seen s)
      go (yes m) q a b = no (λ x. avoid_first x.1 m)
      go (no m) (yes q) a b = yes (s, here m, q)
      go (no m) (no q) a b = beyond seen s m q (ℕ_discrete (g.kind s) 1) (a m) (b m)

  pub reached-dec : (s : ℕ) → s < n → Dec ((v : ℕ) × Reach g s v × Q v)
  unfolding Found
  reached-dec s l = go (search n [] none (λ i h. absurd (not-suc-le-zero h)) (omega arith) s l)
    where
      to : {u v : ℕ} → Reach g u v → Avoid g [] u v
      to Reach.here = here (λ m. m)
      to (Reach.step e q) = step (λ m. m) e (to q)

      of : {u v : ℕ} → Avoid g [] u v → Reach g u v
      of (here m) = Reach.here
      of (step m e q) = Reach.step e (of q)

      go : Dec (Found [] s) → Dec ((v : ℕ) × Reach g s v × Q v)
      go (yes x) = yes (x.0, of x.1, x.2)
      go (no x) = no (λ y. x (y.0, to y.1, y.2))

-- Laws of the marks of what is reached from one of several places.
use mathlib.Core.Path.{◌≡◌, refl, ◌∙◌}
use mathlib.Core.Logic.{◌⊎◌, inl, inr, ⊎_elim}
use mathlib.Core.List.{List}
use Prim.Native.Nat.{ℕ, ◌+◌, ◌/◌, ◌<◌}
use native.Mathlib.Omega.{arith}
use native.Mathlib.Decide.{ℕ_discrete}
use lib.ListN.{length, get_or, set}
use lib.Seq.{get_or-set_same, get_or-set_other}
use Rattle.graph.specs.Graph.{Graph, Reach}
use Rattle.graph_search.specs.Marks.{Marked, Blank}
use Rattle.graph_search.specs.Search.{Reached}
use Rattle.graph_search.proofs.Zeros.{marked_lt}
use Rattle.routines_numbered.specs.Packed.{place_in, node_in, nodes_in}
use Rattle.routines_counted.specs.Overs.{JoinedTo, Starts, BehindTo}

pub joined_none : (f a : List ℕ) → JoinedTo f a 0 a
joined_none f a = record { is = λ v h. absurd (omega (arith, h)); both = λ v h. absurd (omega (arith, h)); rest = λ v h. refl }

pub joined_more : (f a b : List ℕ) (t y : ℕ) → t < length b → JoinedTo f a t b → (0 < y → (0 < get_or f t 0) ⊎ (0 < get_or b t 0)) × ((0 < get_or f t 0) ⊎ (0 < get_or b t 0) → 0 < y)
    → JoinedTo f a (t + 1) (set b t y)
joined_more f a b t y h j e =
    record { is = λ v l. is v l (ℕ_discrete v t); both = λ v l. both v l (ℕ_discrete v t); rest = λ v l. get_or-set_other b t v y 0 (λ q. omega (arith, q, l)) ∙ j.rest v (omega (arith, l)) }
  where
    here : get_or b t 0 ≡ get_or a t 0
    here = j.rest t (omega arith)

    is : (v : ℕ) → v < t + 1 → Dec (v ≡ t) → Marked (set b t y) v → Marked f v ⊎ Marked a v
    is v l (yes q) m = rw q (⊎_elim inl (λ z. inr (rw (← here) z)) (e.0 (rw (q, get_or-set_same b t y 0 h) at m)))
    is v l (no q) m = j.is v (omega (arith, l, q)) (rw (get_or-set_other b t v y 0 q) at m)

    both : (v : ℕ) → v < t + 1 → Dec (v ≡ t) → Marked f v ⊎ Marked a v → Marked (set b t y) v
    both v l (yes q) m = rw (q, get_or-set_same b t y 0 h) (e.1 (⊎_elim inl (λ z. inr (rw here z)) (rw q at m)))
    both v l (no q) m = rw (get_or-set_other b t v y 0 q) (j.both v (omega (arith, l, q)) m)

pub joined_end : (f a b : List ℕ) (t n : ℕ) → t ≡ n → JoinedTo f a t b → JoinedTo f a n b
joined_end f a b t n e j = rw (← e) j

module _ {g : Graph} {S : ℕ → Type 0} where
  pub behind-none : (m : List ℕ) → Blank m → BehindTo g S 0 m
  behind-none m b = record { sound = λ v k. absurd (omega (arith, b.at v, k)); complete = λ s v h. absurd (omega (arith, h)) }

  pub behind-end : (m : List ℕ) (t n : ℕ) → t ≡ n → BehindTo g S t m → BehindTo g S n m
  behind-end m t n e a = rw (← e) a

  pub behind-skip : (m : List ℕ) (t : ℕ) → (S t → ⊥) → BehindTo g S t m → BehindTo g S (t + 1) m
  behind-skip m t n a = record { sound = a.sound; complete = λ s v h k. complete s v h k (ℕ_discrete s t) }
    where
      complete : (s v : ℕ) → s < t + 1 → S s → Dec (s ≡ t) → Reach g s v → Marked m v
      complete s v h k (yes e) r = absurd (n (rw e at k))
      complete s v h k (no e) r = a.complete s v (omega (arith, h, e)) k r

  pub behind_more : (f m m' : List ℕ) (t : ℕ) → S t → Reached g t f → JoinedTo f m (length f) m' → length m ≡ length f → length m' ≡ length f → BehindTo g S t m → BehindTo g S (t + 1) m'
  behind_more f m m' t k x j e e' a = record { sound = sound; complete = λ s v h q. complete s v h q (ℕ_discrete s t) }
    where
      sound : (v : ℕ) → Marked m' v → (s : ℕ) × S s × Reach g s v
      sound v q = ⊎_elim (λ z. (t, k, x.sound v z)) (a.sound v) (j.is v (omega (arith, marked_lt m' v q, e')) q)

      complete : (s v : ℕ) → s < t + 1 → S s → Dec (s ≡ t) → Reach g s v → Marked m' v
      complete s v h q (yes z) r = let y = x.complete v (rw z at r) in j.both v (marked_lt f v y) (inl y)
      complete s v h q (no z) r = let y = a.complete s v (omega (arith, h, z)) q r in j.both v (omega (arith, marked_lt m v y, e)) (inr y)

module _ (x r : List ℕ) (at s : ℕ) where
  pub no_start : get_or r s 0 ≡ 0 → Starts x r at s → ⊥
  no_start e k = omega (arith, e, k.0)

  pub start-at : (p : ℕ) → p ≡ place_in (get_or x s 0) → (p / 2 ≡ at → ⊥) → Starts x r at s → ⊥
  unfolding nodes_in node_in
  start-at p e n k = n (rw e k.1)

  pub start-so : (p : ℕ) → p ≡ place_in (get_or x s 0) → (get_or r s 0 ≡ 0 → ⊥) → p / 2 ≡ at → Starts x r at s
  unfolding nodes_in node_in
  start-so p e m z = (omega (arith, m), rw (← e) z)

-- Two searches tell whether a node comes back to itself: one from each node that follows it.
use Rattle.std.proofs.Common.{◌≡◌, ℕ, List, true, false, get_or, inl, inr, ⊎_elim, arith}
use Rattle.graph.specs.Graph.{Graph, ReachPlus}
use Rattle.graph_search.specs.Search.{GoesTo, Reached}
use Rattle.routines_joined.specs.Ranks.{Tells}

true_false : true ≡ false → ⊥
true_false e = cc

false_true : false ≡ true → ⊥
false_true e = cc

pub tells_not : {P : Type 0} → (P → ⊥) → Tells P false
tells_not h = record { so = λ e. absurd (false_true e); not_so = λ _. h }

pub tells_so : {P : Type 0} → P → Tells P true
tells_so p = record { so = λ _. p; not_so = λ e. absurd (true_false e) }

module _ {g : Graph} {n v a b : ℕ} (to : GoesTo g n v a b) where
  pub back-next : {m : List ℕ} → Reached g a m → (get_or m v 0 ≡ 0 → ⊥) → Tells (ReachPlus g v v) true
  back-next r n = tells_so (a, (to.on, inl to.next), r.sound v (omega arith))

  pub back-other : {m : List ℕ} → Reached g b m → (get_or m v 0 ≡ 0 → ⊥) → Tells (ReachPlus g v v) true
  back-other r n = tells_so (b, (to.on, inr to.other), r.sound v (omega arith))

  -- neither search found v
  pub back-neither : {m m' : List ℕ} → Reached g a m → get_or m v 0 ≡ 0 → Reached g b m' → get_or m' v 0 ≡ 0 → Tells (ReachPlus g v v) false
  back-neither r z r' z' =
      tells_not (λ p. ⊎_elim (λ x. omega (arith, r.complete v (rw (x, ← to.next) at p.2), z)) (λ x. omega (arith, r'.complete v (rw (x, ← to.other) at p.2), z')) p.1.1)

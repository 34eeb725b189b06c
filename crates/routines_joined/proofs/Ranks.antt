-- Where no rank rises along an edge, a node with a higher rank than those that follow it does not come back to itself.
use Rattle.std.proofs.Common.{◌≡◌, ℕ, ◌+◌, ◌<◌, ◌≤◌, List, get_or, arith}
use native.Mathlib.Decide.{dec_lt}
use Rattle.graph.specs.Graph.{Graph, Reach, here, step, ReachPlus}
use Rattle.graph_search.specs.Marks.{Marked, Listed}
use Rattle.graph_search.specs.Search.{Reached}
use Rattle.graph.proofs.Reach.{reach_snoc}
use Rattle.routines_joined.specs.Ranks.{After, NeverRises, Steady}

module _ {g : Graph} {rank : List ℕ} where
  pub rises-none : {q : List ℕ} → NeverRises g rank q 0
  rises-none = record { at = λ i l. absurd (omega arith) }

  pub rises-more : {q : List ℕ} {i r : ℕ} → NeverRises g rank q i → After g rank (get_or q i 0) r → r ≤ get_or rank (get_or q i 0) 0 → NeverRises g rank q (i + 1)
  rises-more {q} {i} {r} before after le = record { at = λ j l. at j l (dec_lt j i) }
    where
      at : (j : ℕ) → j < i + 1 → Dec (j < i) → After g rank (get_or q j 0) (get_or rank (get_or q j 0) 0)
      at j l (yes lt) = before.at j lt
      at j l (no n) =
          let e : j ≡ i = omega arith in
          rw e (record { le = λ w ed. omega (arith, after.le w ed) })

  -- what is marked stands in the queue
  pub steady-of : {m q : List ℕ} {s t : ℕ} → Reached g s m → Listed m q t → NeverRises g rank q t → Steady g rank m
  steady-of reached listed never = record { closed = λ v w h e. reached.complete w (reach_snoc (reached.sound v h) e); after = λ v h. let i = listed.listed v h in rw i.2 at (never.at i.0 i.1) }

  module _ {m : List ℕ} (steady : Steady g rank m) where
    never-higher : {v w : ℕ} → Reach g v w → Marked m v → get_or rank w 0 ≤ get_or rank v 0
    never-higher here h = omega arith
    never-higher (step {u} {v} e r) h = omega (arith, (steady.after u h).le v e, never-higher r (steady.closed u v h e))

    -- a node that comes back has no higher rank than the highest that follows it
    pub comes_back : {v r : ℕ} → Marked m v → After g rank v r → ReachPlus g v v → get_or rank v 0 ≤ r
    comes_back h after (w, e, back) = omega (arith, after.le w e, never-higher back (steady.closed _ w h e))

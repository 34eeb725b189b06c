-- The lowest keys of the joined graph are 24, 21 and 22.
use Rattle.std.proofs.Common.{◌≡◌, ℕ, ◌-◌, ◌/◌, ◌<◌, ◌≤◌, List, Option, None, Some, sym, refl, ap, ◌∙◌, subst, arith}
use Rattle.graph.specs.Graph.{Reach, ReachPlus, Excluded, Loops}
use Rattle.graph_search.specs.Marks.{Marked, OnQ, Listed}
use Rattle.graph_search.specs.Search.{Reached}
use Rattle.routines_joined.specs.Ranks.{NeverRises}
use Rattle.routines_joined.proofs.Ranks.{steady-of}
use Rattle.routines.specs.Calling.{Routine, outer, called, unknown, Recurs, IsBad, IsLoop}
use Rattle.routines.specs.Shape.{Widens}
use Rattle.routines.specs.Joined.{code}
use Rattle.routines.proofs.Edges.{code_above}
use Rattle.routines.proofs.Refusals.{entry_lt, bad-code, bad-place, entry-loops, loops-entry}
use Rattle.routines.proofs.Repeats.{loop-code, loop-place}
use Rattle.routines_numbered.specs.Packed.{node_in, name_in, nodes_in}
use Rattle.routines_joined.specs.Words.{flow_at, Laid, joined_at, key_at, LowestKey}
use Rattle.routines_joined.specs.Suspects.{RuledAll}
use Rattle.routines_joined.specs.Refused.{NothingRecurs, Recursion, address_in, IsExcluded, IsRepeats}
use Rattle.routines_joined.proofs.Nodes.{small}
use Rattle.routines_joined.proofs.Keys.{none_some, some_same, key_entry, key_place, key_low}

-- the key of a place's node tells its address
address_key : (x : List ℕ) (r : Routine) (v k : ℕ) → key_at x (code 2048 r v) ≡ k → address_in x v ≡ (k - 2048) / 4
unfolding nodes_in node_in name_in
address_key x outer v k e = let i = key_place x (code 2048 outer v) (omega arith) in let z : (code 2048 outer v - 2048) / 2 ≡ v = omega arith in omega (arith, e, rw z at i)
address_key x (called d) v k e = let i = key_place x (code 2048 (called d) v) (omega arith) in let z : (code 2048 (called d) v - 2048) / 2 ≡ v = omega arith in omega (arith, e, rw z at i)

module _ (x m : List ℕ) {n : ℕ} (laid : Laid x m n) {marks q : List ℕ} {count : ℕ} (reached : Reached (joined_at x m) 2049 marks) (listed : Listed marks q count) where
  -- what is reached stands in the queue
  on-queue : {P : ℕ → Type 0} {r : Option ℕ} {y : ℕ} → LowestKey x P q count r → Reach (joined_at x m) 2049 y → P y → (k : ℕ) × (r ≡ Some k) × (k ≤ key_at x y)
  on-queue {y = y} a w p =
      let o = listed.listed y (reached.complete y w) in
      let c = a.least o.0 o.1 (rw o.2 p) in
      (c.0, c.1, rw o.2 at c.2)

  least-on : {P : ℕ → Type 0} {r y : ℕ} → LowestKey x P q count (Some r) → Reach (joined_at x m) 2049 y → P y → r ≤ key_at x y
  least-on a w p = let c = on-queue a w p in omega (arith, some_same c.1, c.2)

  none-on : {P : ℕ → Type 0} {y : ℕ} → LowestKey x P q count None → Reach (joined_at x m) 2049 y → P y → ⊥
  none-on a w p = none_some (on-queue a w p).1

  queue-on : {y : ℕ} → OnQ q count y → Reach (joined_at x m) 2049 y
  queue-on {y} (i, h, e) = reached.sound y (subst (λ u. Marked marks u) e (listed.marked i h))

  pub ruled-all : {rank : List ℕ} → NeverRises (joined_at x m) rank q count → RuledAll (joined_at x m) rank q count
  ruled-all never i h = record { m = marks; steady = steady-of reached listed never; marked = listed.marked i h }

  -- 24
  module _ {r : Option ℕ} (a : LowestKey x (λ y. ReachPlus (joined_at x m) y y) q count r) where
    recurs-on : (e : ℕ) → Recurs (flow_at x m) e → (k : ℕ) × (r ≡ Some k) × (k ≤ e)
    unfolding joined_at flow_at
    recurs-on e w =
        let l = entry-loops (flow_at x m) unknown 2048 (small x m laid) w.0 w.1 in
        let c = on-queue a l.0 l.1 in
        (c.0, c.1, omega (arith, c.2, key_entry x e (entry_lt (flow_at x m) unknown 2048 (small x m laid) w.0)))

    pub recursion : {k : ℕ} → r ≡ Some k → k < 2048 → Recursion (flow_at x m) (Some k)
    unfolding joined_at flow_at
    recursion {k} e h = record { holds = holds; least = λ c w. let d = recurs-on c w in omega (arith, d.2, some_same (sym e ∙ d.1)) }
      where
        holds : Recurs (flow_at x m) k
        holds =
            let f = a.found k e in
            let z = key_low x f.0 k f.2 h in
            loops-entry (flow_at x m) unknown 2048 (small x m laid) h (subst (λ u. Loops (joined_at x m) 2049 u) z (queue-on f.1, f.3))

    pub no_recursion : ((k : ℕ) → r ≡ Some k → 2048 ≤ k) → Recursion (flow_at x m) None
    unfolding joined_at
    no_recursion high e w =
        let d = recurs-on e w in
        omega (arith, high d.0 d.1, d.2, entry_lt (flow_at x m) unknown 2048 (small x m laid) w.0)

  -- 22
  module _ (widens : Widens (flow_at x m)) (none : NothingRecurs (flow_at x m)) where
    pub loop-high : {r : ℕ} → LowestKey x (λ y. ReachPlus (joined_at x m) y y) q count (Some r) → 2048 ≤ r
    unfolding joined_at flow_at
    loop-high {r} a =
        let f = a.found r refl in
        let b = loop-place (flow_at x m) unknown 2048 (small x m laid) widens none f.0 (queue-on f.1, f.3) in
        omega (arith, f.2, key_place x f.0 (rw b.2 (code_above 2048 b.0 b.1)))

    pub repeats : {r : ℕ} → LowestKey x (λ y. ReachPlus (joined_at x m) y y) q count (Some r) → ((v : ℕ) → IsBad (flow_at x m) unknown v → ⊥) → IsRepeats x m ((r - 2048) / 4)
    unfolding joined_at flow_at
    repeats {r} a good = record { no_bad = good; lowest = record { holds = holds; least = least } }
      where
        holds : (v : ℕ) × IsLoop (flow_at x m) unknown v × (address_in x v ≡ (r - 2048) / 4)
        holds =
            let f = a.found r refl in
            let b = loop-place (flow_at x m) unknown 2048 (small x m laid) widens none f.0 (queue-on f.1, f.3) in
            (b.1, b.3, address_key x b.0 b.1 r (ap (λ (u : ℕ). key_at x u) (sym b.2) ∙ f.2))

        least : (c : ℕ) → (v : ℕ) × IsLoop (flow_at x m) unknown v × (address_in x v ≡ c) → (r - 2048) / 4 ≤ c
        least c (v, d, e) =
            let l = loop-code (flow_at x m) unknown 2048 (small x m laid) v d in
            omega (arith, least-on a l.0 l.1, address_key x d.0 v (key_at x (code 2048 d.0 v)) refl, e)

  pub no_loop : LowestKey x (λ y. ReachPlus (joined_at x m) y y) q count None → (v : ℕ) → IsLoop (flow_at x m) unknown v → ⊥
  unfolding joined_at flow_at
  no_loop a v d = let l = loop-code (flow_at x m) unknown 2048 (small x m laid) v d in none-on a l.0 l.1

  -- 21
  pub bad-high : {r : ℕ} → LowestKey x (Excluded (joined_at x m)) q count (Some r) → 2048 ≤ r
  unfolding joined_at flow_at
  bad-high {r} a =
      let f = a.found r refl in
      let b = bad-place (flow_at x m) unknown 2048 (small x m laid) f.0 (queue-on f.1, f.3) in
      omega (arith, f.2, key_place x f.0 (rw b.2 (code_above 2048 b.0 b.1)))

  pub excluded : {r : ℕ} → LowestKey x (Excluded (joined_at x m)) q count (Some r) → IsExcluded x m ((r - 2048) / 4)
  unfolding joined_at flow_at
  excluded {r} a = record { lowest = record { holds = holds; least = least } }
    where
      holds : (v : ℕ) × IsBad (flow_at x m) unknown v × (address_in x v ≡ (r - 2048) / 4)
      holds =
          let f = a.found r refl in
          let b = bad-place (flow_at x m) unknown 2048 (small x m laid) f.0 (queue-on f.1, f.3) in
          (b.1, b.3, address_key x b.0 b.1 r (ap (λ (u : ℕ). key_at x u) (sym b.2) ∙ f.2))

      least : (c : ℕ) → (v : ℕ) × IsBad (flow_at x m) unknown v × (address_in x v ≡ c) → (r - 2048) / 4 ≤ c
      least c (v, d, e) =
          let l = bad-code (flow_at x m) unknown 2048 (small x m laid) v d in
          omega (arith, least-on a l.0 l.1, address_key x d.0 v (key_at x (code 2048 d.0 v)) refl, e)

  pub no_bad : LowestKey x (Excluded (joined_at x m)) q count None → (v : ℕ) → IsBad (flow_at x m) unknown v → ⊥
  unfolding joined_at flow_at
  no_bad a v d = let l = bad-code (flow_at x m) unknown 2048 (small x m laid) v d in none-on a l.0 l.1

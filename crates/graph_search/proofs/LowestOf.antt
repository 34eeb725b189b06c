-- The lowest place of a queue, found place by place.
use Rattle.std.proofs.Common.{◌≡◌, List, ℕ, ◌+◌, ◌≤◌, ◌<◌, ◌⊎◌, inl, inr, get_or, sym, refl, Option, None, Some, arith}
use native.Mathlib.Decide.{dec_lt}
use Rattle.graph.specs.Graph.{Bad, Least}
use Rattle.graph.specs.Laid.{graph_of}
use Rattle.graph_search.specs.Marks.{OnQ, Listed}
use Rattle.graph_search.specs.Search.{Reached}
use Rattle.graph_search.specs.Lowest.{Outside, Lower, Lowest}

none_some : {x : ℕ} → ◌≡◌ {A = Option ℕ} None (Some x) → ⊥
none_some e = cc

some_same : {x y : ℕ} → ◌≡◌ {A = Option ℕ} (Some x) (Some y) → x ≡ y
some_same e = cc

module _ {P : ℕ → Type 0} {q : List ℕ} where
  pub lowest_none : Lowest P q 0 None
  lowest_none = record { least = λ i l. absurd (omega arith); found = λ x e. absurd (none_some e) }

  pub lowest-more : {i : ℕ} {low r : Option ℕ} → Lowest P q i low → Lower P low (get_or q i 0) r → Lowest P q (i + 1) r
  lowest-more {i} {low} {r} a b = record { least = λ j l p. least j l p (dec_lt j i); found = λ x e. found x e (b.found x e) }
    where
      least : (j : ℕ) → j < i + 1 → P (get_or q j 0) → Dec (j < i) → (x : ℕ) × (r ≡ Some x) × (x ≤ get_or q j 0)
      least j l p (yes lt) =
          let f = a.least j lt p in
          let k = b.keeps f.0 f.1 in
          (k.0, k.1, omega (arith, k.2, f.2))
      least j l p (no nlt) =
          let j-i : i ≡ j = omega arith in
          rw j-i at b.least p

      found : (x : ℕ) → r ≡ Some x → (low ≡ Some x) ⊎ ((x ≡ get_or q i 0) × P (get_or q i 0)) → OnQ q (i + 1) x × P x
      found x e (inl h) = let f = a.found x h in ((f.0.0, omega (arith, f.0.1), f.0.2), f.1)
      found x e (inr (h, p)) = ((i, omega arith, sym h), rw h p)

-- of what is reached from s
module _ (k nx o : List ℕ) {m q : List ℕ} {s t : ℕ} (reached : Reached (graph_of k nx o) s m) (listed : Listed m q t) where
  pub lowest-bad : {r : ℕ} → Lowest (Outside k) q t (Some r) → Least (Bad (graph_of k nx o) s) r
  unfolding graph_of
  lowest-bad {r} low =
      let f = low.found r refl in
      record {
        holds = (reached.sound r (rw f.0.2 at (listed.marked f.0.0 f.0.1)), record { not_on = f.1.0; not_end = f.1.1 });
        least = λ b p.
            let i = listed.listed b (reached.complete b p.0) in
            let w = low.least i.0 i.1 (rw i.2 (p.1.not_on, p.1.not_end)) in
            omega (arith, w.2, i.2, some_same w.1);
      }

  pub none-bad : Lowest (Outside k) q t None → (v : ℕ) → Bad (graph_of k nx o) s v → ⊥
  unfolding graph_of
  none-bad low v p =
      let i = listed.listed v (reached.complete v p.0) in
      none_some (low.least i.0 i.1 (rw i.2 (p.1.not_on, p.1.not_end))).1

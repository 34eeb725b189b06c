-- The nodes that the marked places have are the sum of 28, where the marks are of what is reached and the masks tell what weighs; and their nodes stand apart.
use mathlib.Core.Path.{◌≡◌, sym, ap, ◌∙◌}
use mathlib.Core.Bool.{Bool}
use mathlib.Core.List.{List, [], ◌∷◌}
use Prim.Native.Nat.{ℕ, zero, suc, ◌+◌, ◌≤◌, ◌<◌}
use native.Mathlib.Omega.{arith}
use native.Mathlib.Numerals.{add-one}
use native.Mathlib.Decide.{ℕ_discrete}
use lib.ListN.{get_or}
use Rattle.routines.specs.Calling.{Flow}
use Rattle.counts.specs.Counts.{Count, Member, first, later}
use Rattle.counts.specs.Weights.{Reached, Weighs, Product, Total, Once, Weight}
use Rattle.counts.specs.Radix.{size, Masks}
use Rattle.counts.proofs.Radix.{product_size}
use Rattle.counts.proofs.Empty.{no_member}
use Rattle.routines_counted.specs.Counting.{counts_of}
use Rattle.routines_counted.specs.Bases.{nodes_before, BasesTo}
use Rattle.routines_counted.specs.Nodes.{Apart}
use Rattle.routines_counted.proofs.Basing.{start_none, before-none, before_more, before-le}

-- the marked numbers before t, each once
record MarkedTo (Has : ℕ → ℕ → Type 0) (C : List Count) (ms marks : List ℕ) (t : ℕ) : Type 0 where
  places : List ℕ
  only : (v : ℕ) → Member v places → (v < t) × (0 < get_or marks v 0)
  all : (v : ℕ) → v < t → 0 < get_or marks v 0 → Member v places
  once : Once places
  total : Total Has places (nodes_before C ms marks t)

module _ {Has : ℕ → ℕ → Type 0} (C : List Count) (ms marks : List ℕ) (has : (v : ℕ) → 0 < get_or marks v 0 → Has v (size C (get_or ms v 0))) where
  marked-to : (t : ℕ) → MarkedTo Has C ms marks t
  marked-to zero =
      record { places = []; only = λ v i. absurd (no_member i); all = λ v h m. absurd (omega (arith, h)); once = Once.none; total = rw (← start_none C ms marks) Total.none }
  marked-to (suc t) = go (marked-to t) (ℕ_discrete (get_or marks t 0) 0)
    where
      go : MarkedTo Has C ms marks t → Dec (get_or marks t 0 ≡ 0) → MarkedTo Has C ms marks (suc t)
      go a (yes z) =
          record {
            places = a.places;
            only = λ v i. let x = a.only v i in (omega (arith, x.0), x.1);
            all = λ v h m. a.all v (below v h m (ℕ_discrete v t)) m;
            once = a.once;
            total = rw (sym (ap (λ (y : ℕ). nodes_before C ms marks y) (add-one t)) ∙ before-none C ms marks t z) a.total;
          }
        where
          below : (v : ℕ) → v < suc t → 0 < get_or marks v 0 → Dec (v ≡ t) → v < t
          below v h m (yes e) = absurd (omega (arith, z, rw e at m))
          below v h m (no e) = omega (arith, h, e)
      go a (no z) =
          record {
            places = t ∷ a.places;
            only = only;
            all = λ v h m. all v h m (ℕ_discrete v t);
            once = Once.adds (λ i. omega (arith, (a.only t i).0)) a.once;
            total = rw sum (Total.adds (has t (omega (arith, z))) a.total);
          }
        where
          sum : nodes_before C ms marks (suc t) ≡ size C (get_or ms t 0) + nodes_before C ms marks t
          sum = omega (arith, sym (ap (λ (y : ℕ). nodes_before C ms marks y) (add-one t)) ∙ before_more C ms marks t z)

          only : (v : ℕ) → Member v (t ∷ a.places) → (v < suc t) × (0 < get_or marks v 0)
          only v first = (omega arith, omega (arith, z))
          only v (later i) = let x = a.only v i in (omega (arith, x.0), x.1)

          all : (v : ℕ) → v < suc t → 0 < get_or marks v 0 → Dec (v ≡ t) → Member v (t ∷ a.places)
          all v h m (yes e) = rw e first
          all v h m (no e) = later (a.all v (omega (arith, h, e)) m)

-- 28's sum
pub weight_of_lem : (f : Flow) (K : ℕ → Bool) (address : ℕ → ℕ) (C : List Count) (ms marks : List ℕ) (n : ℕ) → ((v : ℕ) → 0 < get_or marks v 0 → Reached f K v) → ((v : ℕ) → Reached f K v → (v < n) × (0 < get_or marks v 0))
    → ((v : ℕ) → Reached f K v → Masks (Weighs f K address v) C (get_or ms v 0)) → Weight f K address C (nodes_before C ms marks n)
weight_of_lem f K address C ms marks n to back masks =
    let a = marked-to {Has = λ v. Product (Weighs f K address v) C} C ms marks (λ v m. product_size (masks v (to v m))) n in
    record {
      places = a.places;
      lists = record { only = λ v i. to v (a.only v i).1; all = λ v r. let x = back v r in a.all v x.0 x.1; once = a.once };
      total = a.total;
    }

-- the nodes of the places stand one after another
pub bases_apart : (l ms marks bs : List ℕ) (n : ℕ) → BasesTo (counts_of l) ms marks n bs → Apart l ms bs marks n
bases_apart l ms marks bs n a = record { at = at }
  where
    at : (u v : ℕ) → u < v → v < n → 0 < get_or marks u 0 → 0 < get_or marks v 0 → get_or bs u 0 + size (counts_of l) (get_or ms u 0) ≤ get_or bs v 0
    at u v h k m m' =
        omega (arith, a.at u (omega (arith, h, k)) m, a.at v k m', before_more (counts_of l) ms marks u (λ z. omega (arith, z, m)), before-le (counts_of l) ms marks (u + 1) v (omega (arith, h)))

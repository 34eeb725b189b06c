-- What the searches forwards and backwards find, in the flow of the words.
use mathlib.Core.Path.{◌≡◌, refl, sym, ◌∙◌}
use mathlib.Core.Logic.{◌⊎◌, inl, inr, ⊎_elim}
use mathlib.Core.List.{List}
use Prim.Native.Nat.{ℕ, ◌<◌}
use native.Mathlib.Omega.{arith}
use native.Mathlib.Decide.{ℕ_discrete}
use borrow.Author.Tests.{ne_eqb}
use lib.ListN.{length}
use Rattle.graph.specs.Graph.{Edge, Reach, here, step}
use Rattle.graph_search.specs.Marks.{Marked}
use Rattle.routines.specs.Calling.{Flow, outer, after, unknown}
use Rattle.routines.specs.Losing.{Loses, returns, by_next, by_other, past_known, past_unknown}
use Rattle.routines.proofs.Within.{edge_on, edge-call, edge-cases}
use Rattle.routines_numbered.specs.Packed.{nodes_in}
use Rattle.routines_known.specs.Marking.{flow_on, Sized, Lost, AllLose, IdleTo}
use Rattle.counts.specs.Weights.{steps}
use Rattle.counts.specs.Searches.{Seeded}
use Rattle.routines_counted.specs.Overs.{steps_in}
use Rattle.counts.proofs.Weighing.{seeded-so, seeded-back}
use Rattle.routines_counted.specs.Seeds.{SeededTo, AheadIs}

-- the steps of the words are those of their flow
module _ (x : List ℕ) where
  abbrev f : Flow
  f = flow_on x

  after_next : (v : ℕ) → after f unknown v ≡ (nodes_in x v).next
  unfolding flow_on after
  after_next v = refl

  pub step-to : (v w : ℕ) → Edge (steps_in x) v w → Edge (steps f unknown) v w
  unfolding steps_in flow_on
  step-to v w (k, e) = go (ℕ_discrete (nodes_in x v).kind 1) (ℕ_discrete (nodes_in x v).kind 3)
    where
      go : Dec ((nodes_in x v).kind ≡ 1) → Dec ((nodes_in x v).kind ≡ 3) → Edge (steps f unknown) v w
      go (yes a) b = edge_on f unknown outer a (⊎_elim inl (λ z. inr (z ∙ rw a refl)) e)
      go (no a) (yes b) = rw (⊎_elim (λ z. z) (λ z. z ∙ rw b refl) e ∙ sym (after_next v)) (edge-call f unknown outer b)
      go (no a) (no b) = let z : ◌≡◌ {A = ℕ} 0 1 = rw (ne_eqb (nodes_in x v).kind 1 a, ne_eqb (nodes_in x v).kind 3 b) at k in absurd (omega (arith, z))

  pub step_back : (v w : ℕ) → Edge (steps f unknown) v w → Edge (steps_in x) v w
  unfolding steps_in flow_on
  step_back v w e = go (edge-cases f unknown outer e)
    where
      go : (((nodes_in x v).kind ≡ 1) × ((w ≡ (nodes_in x v).next) ⊎ (w ≡ (nodes_in x v).other))) ⊎ (((nodes_in x v).kind ≡ 3) × (w ≡ after f unknown v)) → Edge (steps_in x) v w
      go (inl (k, inl z)) = (rw k refl, inl z)
      go (inl (k, inr z)) = (rw k refl, inr (z ∙ rw k refl))
      go (inr (k, z)) = (rw k refl, inl (z ∙ after_next v))

  pub reach-to : {v w : ℕ} → Reach (steps_in x) v w → Reach (steps f unknown) v w
  reach-to here = here
  reach-to (step {u} {v} e q) = step (step-to u v e) (reach-to q)

  pub reach-back : {v w : ℕ} → Reach (steps f unknown) v w → Reach (steps_in x) v w
  reach-back here = here
  reach-back (step {u} {v} e q) = step (step_back u v e) (reach-back q)

  steps-lt : {n : ℕ} → Sized x n → (v w : ℕ) → v < n → Edge (steps f unknown) v w → w < n
  unfolding flow_on
  steps-lt {n} sized v w h e = go (edge-cases f unknown outer e)
    where
      go : (((nodes_in x v).kind ≡ 1) × ((w ≡ (nodes_in x v).next) ⊎ (w ≡ (nodes_in x v).other))) ⊎ (((nodes_in x v).kind ≡ 3) × (w ≡ after f unknown v)) → w < n
      go (inl (k, inl z)) = rw z (sized.links v h).next
      go (inl (k, inr z)) = rw z (sized.links v h).other
      go (inr (k, z)) = rw (z ∙ after_next v) (sized.links v h).next

-- all that loses SF by the words is marked
pub all_marked : {x m : List ℕ} {n : ℕ} → Sized x n → IdleTo (flow_on x) m n → {v : ℕ} → v < n → Loses (flow_on x) v → Marked m v
unfolding flow_on
all_marked sized idle {v} h (returns k e) = idle.at v h (Lost.returns k e)
all_marked sized idle {v} h (by_next k d) = idle.at v h (Lost.by_next k (all_marked sized idle (sized.links v h).next d))
all_marked sized idle {v} h (by_other k d) = idle.at v h (Lost.by_other k (all_marked sized idle (sized.links v h).other d))
all_marked sized idle {v} h (past_known k d) = idle.at v h (Lost.past_known k (all_marked sized idle (sized.links v h).other d))
all_marked sized idle {v} h (past_unknown k d e) =
    idle.at v h (Lost.past_unknown k (all_marked sized idle (sized.links v h).into d) (all_marked sized idle (sized.links v h).next e))

pub idle_at : {f : Flow} {m : List ℕ} {n n' : ℕ} → n' ≡ n → IdleTo f m n → IdleTo f m n'
idle_at e a = rw e a

module _ {x y : List ℕ} {at n : ℕ} (sized : Sized x n) (a : SeededTo x at n y) where
  pub seeded-flow : Seeded (flow_on x) unknown (λ v. (nodes_in x v).address) (λ v. v < n) at (flow_on y)
  unfolding flow_on nodes_in
  seeded-flow =
      record {
        inside = λ v w h e. steps-lt x sized v w h e;
        there = λ v h e. (a.is v h).there e;
        on = λ v h ne k. (a.is v h).on ne k;
        call = λ v h ne k. let z = (a.is v h).call ne k in (z.0, z.1 ∙ sym (after_next x v), z.2 ∙ sym (after_next x v));
        end = λ v h ne k l. (a.is v h).end ne k l;
      }

  pub seeded-sized : length y ≡ 16384 → 0 < n → Sized y n
  unfolding nodes_in
  seeded-sized long some = record { words = long; few = sized.few; links = λ v h. let s = a.is v h in let l = sized.links v h in record { next = by s.next l.next; other = by_two s.other l.other l.next; into = omega (arith, s.into, some) } }
    where
      by : {p q : ℕ} → (p ≡ q) ⊎ (p ≡ 0) → q < n → p < n
      by (inl e) h = omega (arith, e, h)
      by (inr e) h = omega (arith, e, some)

      by_two : {p q r : ℕ} → ((p ≡ q) ⊎ (p ≡ r)) ⊎ (p ≡ 0) → q < n → r < n → p < n
      by_two (inl (inl e)) h k = omega (arith, e, h)
      by_two (inl (inr e)) h k = omega (arith, e, k)
      by_two (inr e) h k = omega (arith, e, some)

  -- what loses SF by the words with ends is what comes to the address
  pub ahead-is : {m : List ℕ} → length y ≡ 16384 → AllLose (flow_on y) m → IdleTo (flow_on y) m n → AheadIs x at n m
  ahead-is {m} long lose idle = record { sound = sound; complete = λ v q h e r. all_marked (seeded-sized long (omega (arith, h))) idle h (seeded-back seeded-flow h e (reach-to x r)) }
    where
      sound : (v : ℕ) → v < n → Marked m v → (q : ℕ) × ((nodes_in x q).address ≡ at) × Reach (steps_in x) v q
      sound v h k = let (q, e, r) = seeded-so seeded-flow h (lose.at v k) in (q, e, reach-back x r)

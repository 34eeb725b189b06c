-- Laws on what is reached.
use mathlib.Core.Logic.{◌⊎◌, ⊎_elim}
use mathlib.Core.Path.{◌≡◌}
use mathlib.Core.List.{List}
use Prim.Native.Nat.{ℕ, ◌<◌}
use lib.ListN.{get_or}
use Rattle.graph.specs.Graph.{Graph, Edge, Reach, here, step}
use Rattle.graph.specs.Laid.{graph_of, Laid, Costs, Inside}

pub reach_snoc : {g : Graph} {u v w : ℕ} → Reach g u v → Edge g v w → Reach g u w
reach_snoc here e = step e here
reach_snoc (step f r) e = step f (reach_snoc r e)

pub reach_trans : {g : Graph} {u v w : ℕ} → Reach g u v → Reach g v w → Reach g u w
reach_trans here e = e
reach_trans (step f r) e = step f (reach_trans r e)

-- a set that is closed under the edges has all that is reached from what is in it
pub reach_in : {g : Graph} (P : ℕ → Type 0) → ((v w : ℕ) → P v → Edge g v w → P w) → {u v : ℕ} → Reach g u v → P u → P v
reach_in P cl here p = p
reach_in P cl (step {u} {v} e r) p = reach_in P cl r (cl u v p e)

pub reach_inside : {g : Graph} {n : ℕ} → Inside g n → {u v : ℕ} → Reach g u v → u < n → v < n
reach_inside {n = n} inside r l = reach_in (λ x. x < n) inside.edge r l

pub laid_inside : {k nx o : List ℕ} {n : ℕ} → Laid k nx o n → Inside (graph_of k nx o) n
unfolding graph_of
laid_inside laid = record { edge = λ v w l e. ⊎_elim (λ h. rw h (laid.next_lt v l)) (λ h. rw h (laid.other_lt v l)) e.1 }

-- what follows a place is a place
pub successor_lt : {k nx o : List ℕ} {n v w : ℕ} → Laid k nx o n → v < n → (w ≡ get_or nx v 0) ⊎ (w ≡ get_or o v 0) → w < n
successor_lt {v = v} laid l e = ⊎_elim (λ h. rw h (laid.next_lt v l)) (λ h. rw h (laid.other_lt v l)) e

-- of as many places, where the number has another name
pub laid_at : {k nx o : List ℕ} {n n' : ℕ} → n' ≡ n → Laid k nx o n → Laid k nx o n'
laid_at e laid = rw e laid

pub costs_at : {k c : List ℕ} {n n' : ℕ} → n' ≡ n → Costs k c n → Costs k c n'
costs_at e costs = rw e costs

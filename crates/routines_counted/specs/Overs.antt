-- The places of words in their routines, calls stepped over: after a call comes its next.
use Rattle.std.specs.Prelude.{◌≡◌, ◌⊎◌, List, ℕ, ◌≤◌, ◌<◌, eqb, length, get_or, Option, None, Some}
use Rattle.laws.specs.Choice.{pick, either}
use Rattle.graph.specs.Graph.{Graph, Reach}
use Rattle.graph_search.specs.Marks.{Marked}
use Rattle.routines_numbered.specs.Packed.{node_in, nodes_in}

unfoldable pub steps_in : List ℕ → Graph
steps_in x = record {
  kind = λ v. pick (either (eqb (nodes_in x v).kind 1) (eqb (nodes_in x v).kind 3)) 1 0;
  next = λ v. (nodes_in x v).next;
  other = λ v. pick (eqb (nodes_in x v).kind 3) (nodes_in x v).next (nodes_in x v).other;
}

-- the place with the word goes on, to these; or it does not
pub record GoesOver (word a b : ℕ) : Type 0 where
  pub goes : ((node_in word).kind ≡ 1) ⊎ ((node_in word).kind ≡ 3)
  pub next : a ≡ (node_in word).next
  pub other : b ≡ pick (eqb (node_in word).kind 1) (node_in word).other (node_in word).next

pub record Stays (word : ℕ) : Type 0 where
  pub not_on : (node_in word).kind ≡ 1 → ⊥
  pub no_call : (node_in word).kind ≡ 3 → ⊥

abbrev pub OverIs : ℕ → Option (ℕ × ℕ) → Type 0
OverIs word None = Stays word
OverIs word (Some s) = GoesOver word s.0 s.1

-- of the first t numbers b marks what f or a marks; the others are as in a
pub record JoinedTo (f a : List ℕ) (t : ℕ) (b : List ℕ) : Type 0 where
  pub is : (v : ℕ) → v < t → Marked b v → Marked f v ⊎ Marked a v
  pub both : (v : ℕ) → v < t → Marked f v ⊎ Marked a v → Marked b v
  pub rest : (v : ℕ) → t ≤ v → get_or b v 0 ≡ get_or a v 0

-- arrays as long as there are numbers
pub record Searches (r f q b : List ℕ) : Type 0 where
  pub reached : length r ≡ length f
  pub queue : length q ≡ length f
  pub behind : length b ≡ length f

-- v is marked in r and stands at an address
abbrev pub Starts : List ℕ → List ℕ → ℕ → ℕ → Type 0
Starts x r at v = Marked r v × ((nodes_in x v).address ≡ at)

-- m marks exactly what is reached from the numbers below t with S
pub record BehindTo (g : Graph) (S : ℕ → Type 0) (t : ℕ) (m : List ℕ) : Type 0 where
  pub sound : (v : ℕ) → Marked m v → (s : ℕ) × S s × Reach g s v
  pub complete : (s v : ℕ) → s < t → S s → Reach g s v → Marked m v

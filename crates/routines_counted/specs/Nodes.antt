-- Words by number, with the mask and the first node of each number, as the numbering of a flow that is unrolled.
use Rattle.std.specs.Prelude.{◌≡◌, ◌⊎◌, true, false, List, ℕ, ◌+◌, ◌≤◌, ◌<◌, length, get_or}
use Rattle.routines_numbered.specs.Packed.{node_in, nodes_in}
use Rattle.routines_numbered.specs.Numbering.{LinksLt}
use Rattle.counts.specs.CountedAnswer.{Given}
use Rattle.counts.specs.Radix.{size}
use Rattle.counts.specs.Laying.{Numbering, fits_to, node_to, led_to, first_node, Forks}
use Rattle.routines_numbered.specs.declared.Links.{Links}
use Rattle.routines_counted.specs.Counting.{counts_of}

abbrev pub numbering_of : List ℕ → List ℕ → List ℕ → List ℕ → Numbering
numbering_of x l ms bs = record { counts = counts_of l; address = λ v. (nodes_in x v).address; mask = λ v. get_or ms v 0; base = λ v. get_or bs v 0 }

-- v is one of the numbers, and its nodes have room
pub record Places (x l ms bs : List ℕ) (v : ℕ) : Type 0 where
  pub few : length l ≤ 16
  pub word : v < length x
  pub mask : v < length ms
  pub base : v < length bs
  pub small : v < 16384
  pub room : get_or bs v 0 + size (counts_of l) (get_or ms v 0) ≤ 32768

-- r is the node to which the step leads, or 32,768 or more where it does not fit
pub record NodeTo (N : Numbering) (v d w r : ℕ) : Type 0 where
  pub goes : r < 32768 → (fits_to N v d w ≡ true) × (r ≡ node_to N v d w)
  pub stays : 32768 ≤ r → fits_to N v d w ≡ false

-- n words, linked among themselves, whose nodes have room
pub record Numbered (x l ms bs : List ℕ) (n : ℕ) : Type 0 where
  pub given : Given (counts_of l)
  pub places : (v : ℕ) → v < n → Places x l ms bs v
  pub links : (v : ℕ) → v < n → LinksLt x n v

-- v is one of them, and d one of its numbers
pub record Asked (x l ms bs : List ℕ) (n v d : ℕ) : Type 0 where
  pub numbered : Numbered x l ms bs n
  pub place : v < n
  pub number : d < size (counts_of l) (get_or ms v 0)

-- the word r has the node of v with d linked as its steps lead: a call goes on at its next
pub record LinkedIs (x l ms bs : List ℕ) (v d r : ℕ) : Type 0 where
  pub end : ((nodes_in x v).kind ≡ 2) ⊎ ((nodes_in x v).kind ≡ 4) → ((node_in r).kind ≡ 4) × ((node_in r).known ≡ false)
  pub on : (nodes_in x v).kind ≡ 1 → ((node_in r).kind ≡ 1) × ((node_in r).next ≡ led_to (numbering_of x l ms bs) v d (nodes_in x v).next) × ((node_in r).other ≡ led_to (numbering_of x l ms bs) v d (nodes_in x v).other)
  pub call : (nodes_in x v).kind ≡ 3 → ((node_in r).kind ≡ 3) × ((node_in r).next ≡ led_to (numbering_of x l ms bs) v d (nodes_in x v).next) × ((node_in r).other ≡ get_or bs v 0 + d)
      × ((node_in r).into ≡ first_node (numbering_of x l ms bs) (nodes_in x v).into)

-- from base on t words are laid in y', which was y, the d-th with P d; all else is as it was
pub record LaysTo (P : ℕ → ℕ → Type 0) (base t : ℕ) (y y' : List ℕ) : Type 0 where
  pub len : length y' ≡ length y
  pub done : (d : ℕ) → d < t → P d (get_or y' (base + d) 0)
  pub others : (i : ℕ) → (i < base) ⊎ (base + t ≤ i) → get_or y' i 0 ≡ get_or y i 0

-- the places that are marked, before the t-th, have their nodes one after another
pub record Apart (l ms bs marks : List ℕ) (n : ℕ) : Type 0 where
  pub at : (u v : ℕ) → u < v → v < n → 0 < get_or marks u 0 → 0 < get_or marks v 0 → get_or bs u 0 + size (counts_of l) (get_or ms u 0) ≤ get_or bs v 0

-- of the first t places those that are marked have their nodes laid, that of v with d with P v d
pub record LaidAll (P : ℕ → ℕ → ℕ → Type 0) (l ms bs marks : List ℕ) (t : ℕ) (y : List ℕ) : Type 0 where
  pub at : (v d : ℕ) → v < t → 0 < get_or marks v 0 → d < size (counts_of l) (get_or ms v 0) → P v d (get_or y (get_or bs v 0 + d) 0)

-- a is a node from which an end is reached, by its mark
pub record Lives (lives : List ℕ) (a : ℕ) : Type 0 where
  pub node : a < 32768
  pub marked : 0 < get_or lives a 0

abbrev pub HasEnd : List ℕ → ℕ → Type 0
HasEnd lives y = 0 < get_or lives y 0

-- the links of a fork that leads to a and to b: to those that live
pub data ForkLinks (lives : List ℕ) (a b : ℕ) (r : Links) : Type 0 where
  both : Lives lives a → Lives lives b → r.next ≡ a → r.other ≡ b → ForkLinks lives a b r
  only_next : Lives lives a → (Lives lives b → ⊥) → r.next ≡ a → r.other ≡ a → ForkLinks lives a b r
  only_other : (Lives lives a → ⊥) → Lives lives b → r.next ≡ b → r.other ≡ b → ForkLinks lives a b r
  neither : (Lives lives a → ⊥) → (Lives lives b → ⊥) → r.next ≡ 0 → r.other ≡ 0 → ForkLinks lives a b r

-- links that fit a word
pub record LinksFit (r : Links) : Type 0 where
  pub next : r.next < 32768
  pub other : r.other < 32768
  pub into : r.into < 32768

-- the word r is word with other links
pub record Relinked (word : ℕ) (links : Links) (r : ℕ) : Type 0 where
  pub kind : (node_in r).kind ≡ (node_in word).kind
  pub address : (node_in r).address ≡ (node_in word).address
  pub cost : (node_in r).cost ≡ (node_in word).cost
  pub next : (node_in r).next ≡ links.next
  pub other : (node_in r).other ≡ links.other
  pub into : (node_in r).into ≡ links.into

-- the word r is that of v, with the node of v with d left without the ways that lead to no end
pub record PrunedIs (x l ms bs lives : List ℕ) (v d r : ℕ) : Type 0 where
  pub kind : (node_in r).kind ≡ (nodes_in x v).kind
  pub address : (node_in r).address ≡ (nodes_in x v).address
  pub cost : (node_in r).cost ≡ (nodes_in x v).cost
  pub fits : ((node_in r).next < 32768) × ((node_in r).other < 32768) × ((node_in r).into < 32768)
  pub forks : (nodes_in x v).kind ≡ 1 → Forks (numbering_of x l ms bs) (HasEnd lives) v d (nodes_in x v).next (nodes_in x v).other (node_in r).next (node_in r).other
  pub call : (nodes_in x v).kind ≡ 3 → ((node_in r).next ≡ led_to (numbering_of x l ms bs) v d (nodes_in x v).next) × ((node_in r).other ≡ (node_in r).next) × ((node_in r).into ≡ first_node (numbering_of x l ms bs) (nodes_in x v).into)

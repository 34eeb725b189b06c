-- What code lays for the node of a place with the numbers d: where its steps lead, by the masks and the first nodes of the places. No answer's meaning rests on it.
use Rattle.std.specs.Prelude.{◌≡◌, ◌⊎◌, Bool, true, false, List, ℕ, ◌+◌}
use Rattle.laws.specs.Choice.{pick}
use Rattle.routines.specs.Calling.{Flow, after}
use Rattle.counts.specs.Counts.{Count}
use Rattle.counts.specs.Radix.{fits_in, moved}

-- how the places are numbered: by place the mask of the counts that weigh there, and its first node
pub record Numbering : Type 0 where
  pub counts : List Count
  pub address : ℕ → ℕ
  pub mask : ℕ → ℕ
  pub base : ℕ → ℕ

-- the step from v to w fits; the node to which it leads
abbrev pub fits_to : Numbering → ℕ → ℕ → ℕ → Bool
fits_to N v d w = fits_in N.counts (N.mask v) (N.address w) d

abbrev pub node_to : Numbering → ℕ → ℕ → ℕ → ℕ
node_to N v d w = N.base w + moved N.counts (N.mask v) (N.mask w) (N.address w) d

-- that node, or where the step does not fit the node itself
abbrev pub led_to : Numbering → ℕ → ℕ → ℕ → ℕ
led_to N v d w = pick (fits_to N v d w) (node_to N v d w) (N.base v + d)

-- the node of a routine's first place w: "all other numbers 0"
abbrev pub first_node : Numbering → ℕ → ℕ
first_node N w = N.base w + moved N.counts 0 (N.mask w) (N.address w) 0

-- h has the node of v with d linked as its steps lead
pub record LinkedAt (f : Flow) (K : ℕ → Bool) (N : Numbering) (h : Flow) (v d : ℕ) : Type 0 where
  pub end : (f.kind v ≡ 2) ⊎ (f.kind v ≡ 4) → (h.kind (N.base v + d) ≡ 4) × (h.known (N.base v + d) ≡ false)
  pub on : f.kind v ≡ 1 → (h.kind (N.base v + d) ≡ 1) × (h.next (N.base v + d) ≡ led_to N v d (f.next v)) × (h.other (N.base v + d) ≡ led_to N v d (f.other v))
  pub call : f.kind v ≡ 3 → (h.kind (N.base v + d) ≡ 3) × (h.next (N.base v + d) ≡ led_to N v d (after f K v)) × (h.other (N.base v + d) ≡ N.base v + d)
      × (h.from (h.entry (N.base v + d)) ≡ first_node N (f.from (f.entry v)))

-- a step that fits leads to a node of M, from which an end is reached; no step does
pub record Alive (N : Numbering) (M : ℕ → Type 0) (v d w y : ℕ) : Type 0 where
  pub fits : fits_to N v d w ≡ true
  pub is : y ≡ node_to N v d w
  pub ends : M (node_to N v d w)

abbrev pub NotAlive : Numbering → (ℕ → Type 0) → ℕ → ℕ → ℕ → Type 0
NotAlive N M v d w = fits_to N v d w ≡ true → M (node_to N v d w) → ⊥

-- y and z are where it goes on to w and o: both, or twice the one that leads to an end, or nowhere
pub data Forks (N : Numbering) (M : ℕ → Type 0) (v d w o y z : ℕ) : Type 0 where
  both : Alive N M v d w y → Alive N M v d o z → Forks N M v d w o y z
  only_next : Alive N M v d w y → NotAlive N M v d o → z ≡ y → Forks N M v d w o y z
  only_other : Alive N M v d o y → NotAlive N M v d w → z ≡ y → Forks N M v d w o y z
  neither : NotAlive N M v d w → NotAlive N M v d o → Forks N M v d w o y z

-- g has the node of v with d left without the ways that lead to no end
pub record PrunedAt (f : Flow) (K : ℕ → Bool) (N : Numbering) (M : ℕ → Type 0) (g : Flow) (L : ℕ → Bool) (v d : ℕ) : Type 0 where
  pub kind : g.kind (N.base v + d) ≡ f.kind v
  pub forks : f.kind v ≡ 1 → Forks N M v d (f.next v) (f.other v) (g.next (N.base v + d)) (g.other (N.base v + d))
  pub call : f.kind v ≡ 3 → (g.entry (N.base v + d) ≡ f.entry v) × (g.from (g.entry (N.base v + d)) ≡ first_node N (f.from (f.entry v))) × (after g L (N.base v + d) ≡ led_to N v d (after f K v))

-- Laws of the nodes to which steps lead.
use mathlib.Core.Path.{◌≡◌, sym, ap, ◌∙◌}
use mathlib.Core.List.{List}
use Prim.Native.Nat.{ℕ, ◌+◌, ◌/◌, ◌≤◌, ◌<◌}
use native.Mathlib.Omega.{arith}
use lib.ListN.{get_or}
use Rattle.routines_numbered.specs.Packed.{place_in, node_in, nodes_in}
use Rattle.counts.specs.Radix.{size, moved}
use Rattle.counts.specs.CountedAnswer.{Given}
use Rattle.counts.specs.Laying.{Numbering, led_to, first_node}
use Rattle.counts.proofs.Laying.{first_fits}
use Rattle.laws.proofs.Computed.{true→T}
use native.Mathlib.Decide.{dec_lt}
use Rattle.routines_counted.specs.Counting.{counts_of, Moves}
use Rattle.routines_counted.specs.Nodes.{numbering_of, Places, NodeTo}

-- a word's address
pub address_is : (x : List ℕ) (w p : ℕ) → p ≡ place_in (get_or x w 0) → p / 2 ≡ (nodes_in x w).address
unfolding nodes_in node_in
address_is x w p e = ap (λ (z : ℕ). z / 2) e

module _ (x l ms bs : List ℕ) (v d w a r : ℕ) (at : a ≡ (nodes_in x w).address) (moves : Moves (counts_of l) (get_or ms v 0) (get_or ms w 0) a d r) where
  abbrev N : Numbering
  N = numbering_of x l ms bs

  pub node-none : 32768 ≤ r → NodeTo N v d w 65535
  node-none h = record { goes = λ z. absurd (omega (arith, z)); stays = λ z. rw (← at) (moves.exceeds h) }

  pub node-some : Places x l ms bs w → r < 32768 → NodeTo N v d w (get_or bs w 0 + r)
  node-some p h =
      let m = moves.fits h in
      record { goes = λ z. (rw (← at) m.0, ap (λ (y : ℕ). get_or bs w 0 + y) (m.1 ∙ ap (λ (y : ℕ). moved (counts_of l) (get_or ms v 0) (get_or ms w 0) y d) at)); stays = λ z. absurd (omega (arith, z, m.2, p.room)) }

module _ (N : Numbering) (v d w r : ℕ) (node : NodeTo N v d w r) where
  pub led-itself : (y : ℕ) → y ≡ N.base v + d → N.base v + size N.counts (N.mask v) ≤ 32768 → d < size N.counts (N.mask v) → 32768 ≤ r → (y ≡ led_to N v d w) × (y < 32768)
  led-itself y e room h z = (rw (node.stays z) e, omega (arith, e, room, h))

  pub led-there : r < 32768 → (r ≡ led_to N v d w) × (r < 32768)
  led-there z = let g = node.goes z in (rw g.0 g.1, z)

-- of a routine's first row
module _ (x l ms bs : List ℕ) (w a r : ℕ) (at : a ≡ (nodes_in x w).address) (given : Given (counts_of l)) (places : Places x l ms bs w) (moves : Moves (counts_of l) 0 (get_or ms w 0) a 0 r) where
  pub first_small : r < 32768
  first_small = go (dec_lt r 32768)
    where
      go : Dec (r < 32768) → r < 32768
      go (yes h) = h
      go (no h) = absurd (true→T (sym (moves.exceeds (omega (arith, h))) ∙ first_fits given a))

  pub first-is : (get_or bs w 0 + r ≡ first_node (numbering_of x l ms bs) w) × (get_or bs w 0 + r < 32768)
  first-is =
      let m = moves.fits first_small in
      (ap (λ (y : ℕ). get_or bs w 0 + y) (m.1 ∙ ap (λ (y : ℕ). moved (counts_of l) 0 (get_or ms w 0) y 0) at), omega (arith, m.2, places.room))

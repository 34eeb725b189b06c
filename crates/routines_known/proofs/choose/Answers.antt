-- `routines_known::choose` meets its contract.
use mathlib.Core.Path.{ap}
use Prim.Native.Nat.{ℕ}
use native.Mathlib.Omega.{arith}
use Rattle.routines_numbered.specs.Packed.{into_in, node_in, nodes_in}
use Rattle.routines_known.proofs.choose.Goals as goal

pub chosen-requires : goal.chosen-requires
unfolding nodes_in node_in
chosen-requires c = omega (arith, ap (λ (w : ℕ). into_in w) (c.loop-v.invariant.rest c.loop-v.v (omega arith)), (c.requires.links c.loop-v.v c.loop-v-test.true).into)

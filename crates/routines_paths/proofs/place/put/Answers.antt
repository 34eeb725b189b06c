-- `routines_paths::place::put` meets its contract.
use mathlib.Core.Path.{refl}
use native.Mathlib.Omega.{arith}
use lib.ListN.{length-set}
use Rattle.routines_numbered.specs.Packed.{node_in, nodes_in}
use Rattle.routines_paths.proofs.place.put.Goals as goal

pub bounds-path-at-2 : goal.bounds-path-at-2
bounds-path-at-2 c = simp length-set (omega arith)

pub returns : goal.returns
unfolding nodes_in node_in
returns c = rw c.place_of-address.ensures refl

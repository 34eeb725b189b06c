-- `row_dispatch::groups::group_of` meets its contract.
use Prim.Native.Nat.{◌+◌, ◌*◌, ◌/◌, ◌%◌}
use mathlib.Core.Path.{◌≡◌}
use native.Mathlib.Omega.{arith}
use Rattle.row_dispatch.proofs.Sorting.{sorted}
use Rattle.row_dispatch.proofs.groups.group_of.Goals as goal

pub returns : goal.returns
returns c =
    let row : 8 * (c.args.i.row / 8) + c.args.i.row % 8 ≡ c.args.i.row = omega arith in
    let same = c.groups_from-eight.ensures.same (c.args.i.row % 8) (omega arith) (omega arith) (omega arith) in
    sorted _ c.args.i c.requires (rw c.group_at.ensures (rw row at same))

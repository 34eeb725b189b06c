-- `frame::are_frames` meets its contract. The invariant: the whole is frames exactly where what is left is, and the frame before it is one.
use Prim.Native.Nat.{◌-◌}
use lib.ListN.{length}
use Rattle.frame.proofs.Judging.{Good}
use Rattle.frame.proofs.are_frames.Given as goal

abbrev pub invariant-loop-at : goal.invariant-loop-at
invariant-loop-at l = Good l.d l.s l.at

abbrev pub decreases-loop-at : goal.decreases-loop-at
decreases-loop-at l = length l.s - l.at

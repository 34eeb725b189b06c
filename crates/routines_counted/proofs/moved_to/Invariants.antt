-- `routines_counted::moved_to` meets its contract.
use Prim.Native.Nat.{◌≤◌}
use lib.ListN.{length}
use Rattle.routines_counted.proofs.Counting.{MovesTo}
use Rattle.routines_counted.proofs.moved_to.Given as goal

abbrev pub invariant-loop-count : goal.invariant-loop-count
invariant-loop-count l = (l.count-index ≤ length l.counts) × MovesTo l.counts l.mask l.there l.address l.d l.count-index l.m l.t l.left l.r l.scale

-- `routines_counted::size_of` meets its contract.
use Prim.Native.Nat.{◌≤◌}
use lib.ListN.{length}
use Rattle.routines_counted.proofs.Counting.{SizesTo}
use Rattle.routines_counted.proofs.size_of.Given as goal

abbrev pub invariant-loop-count : goal.invariant-loop-count
invariant-loop-count l = (l.count-index ≤ length l.counts) × SizesTo l.counts l.mask l.count-index l.m l.s

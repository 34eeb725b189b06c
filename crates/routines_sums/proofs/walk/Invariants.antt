-- The sums and depths are right, and the walk is at a number.
use mathlib.Core.Path.{◌≡◌}
use Prim.Native.Nat.{◌<◌}
use lib.ListN.{length}
use Rattle.graph_search.specs.Marks.{Within}
use Rattle.routines_sums.specs.Dist.{Dist}
use Rattle.routines_sums.specs.Ways.{ways_in, costs_in}
use Rattle.routines_sums.proofs.walk.Given as goal

abbrev pub invariant-loop : goal.invariant-loop
invariant-loop l = (length l.d ≡ length l.initial.d) × (length l.dep ≡ length l.initial.dep) × (length l.stage ≡ length l.initial.stage) × (length l.back ≡ length l.initial.back) × (l.v < length l.d) × Dist (ways_in l.words) (costs_in l.words) l.d l.dep × Within l.back (length l.d)

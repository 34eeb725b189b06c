-- A sweep that changes nothing leaves all idle, and any other gives more numbers their sums.
use mathlib.Core.Path.{◌≡◌}
use mathlib.Core.Bool.{Bool, true, false}
use Prim.Native.Nat.{ℕ, ◌+◌}
use lib.ListN.{length}
use Rattle.graph_search.specs.Marks.{zeros}
use Rattle.routines_sums.specs.Dist.{Dist}
use Rattle.routines_sums.specs.Ways.{ways_in, costs_in, IdleTo}
use Rattle.routines_sums.proofs.sums.Given as goal

abbrev bit : Bool → ℕ
bit true = 1
bit false = 0

abbrev pub invariant-loop-changed : goal.invariant-loop-changed
invariant-loop-changed l = (length l.d ≡ length l.initial.d) × (length l.dep ≡ length l.initial.dep) × Dist (ways_in l.words) (costs_in l.words) l.d l.dep × (l.changed ≡ false → IdleTo (ways_in l.words) (costs_in l.words) l.d (length l.d))

abbrev pub decreases-loop-changed : goal.decreases-loop-changed
decreases-loop-changed l = zeros l.d + bit l.changed

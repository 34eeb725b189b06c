-- The numbers that are passed are settled.
use mathlib.Core.Path.{◌≡◌}
use lib.ListN.{length}
use Rattle.routines_sums.specs.Ways.{ways_in, costs_in, Swept}
use Rattle.routines_sums.proofs.sweep.Given as goal

abbrev pub invariant-loop-v : goal.invariant-loop-v
invariant-loop-v l = (length l.d ≡ length l.initial.d) × (length l.dep ≡ length l.initial.dep) × Swept (ways_in l.words) (costs_in l.words) l.initial.d l.v l.d l.dep l.changed

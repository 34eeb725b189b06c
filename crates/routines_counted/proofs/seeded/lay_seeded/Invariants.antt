-- The words that are passed are laid.
use mathlib.Core.Path.{◌≡◌}
use lib.ListN.{length}
use Rattle.routines_counted.specs.Seeds.{SeededTo}
use Rattle.routines_counted.proofs.seeded.lay_seeded.Given as goal

abbrev pub invariant-loop-v : goal.invariant-loop-v
invariant-loop-v l = (length l.seeded ≡ length l.initial.seeded) × SeededTo l.steps.words.now l.at l.v l.seeded

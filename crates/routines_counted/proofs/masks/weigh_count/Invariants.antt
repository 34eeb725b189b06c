-- The masks that are passed have their bit.
use mathlib.Core.Path.{◌≡◌}
use lib.ListN.{length}
use Rattle.routines_counted.specs.Overs.{steps_in}
use Rattle.routines_counted.specs.Masking.{WeighsBy, BitsTo}
use Rattle.routines_counted.proofs.masks.weigh_count.Given as goal

abbrev pub invariant-loop-v : goal.invariant-loop-v
invariant-loop-v l = (length l.masks ≡ length l.initial.masks) × BitsTo (WeighsBy (steps_in l.steps.words.now) l.behind l.ahead) l.initial.masks l.v l.masks

-- `routines_paths::deepest::deep_len` meets its contract: the places that are passed and the way from the present one make up the way.
use mathlib.Core.Path.{◌≡◌}
use Prim.Native.Nat.{◌-◌, ◌*◌, ◌<◌}
use lib.ListN.{length}
use Rattle.routines_sums.specs.Ways.{ways_in}
use Rattle.routines_paths.specs.Open.{open_of}
use Rattle.routines_paths.specs.Deep.{Working, Along}
use Rattle.routines_paths.proofs.deepest.deep_len.Given as goal

abbrev pub invariant-loop-here : goal.invariant-loop-here
invariant-loop-here l = (length l.stack ≡ length l.initial.stack) × (length l.pend ≡ length l.initial.pend) × Working l.dep l.stack l.pend l.here.top × (l.here.v < length l.dep)
    × Along (ways_in l.words) l.dep l.goal 0 (length l.initial.stack) l.here.reached (open_of l.stack l.here.top) l.here.v l.n

abbrev pub decreases-loop-here : goal.decreases-loop-here
decreases-loop-here l = 2 * length l.initial.stack - l.n

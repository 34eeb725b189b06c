-- `routines_paths::deepest::write_deepest` meets its contract: the bytes of the places that are passed stand in the buffer.
use mathlib.Core.Path.{◌≡◌}
use Prim.Native.Nat.{◌-◌, ◌<◌}
use lib.ListN.{length}
use Rattle.routines_joined.specs.Refused.{address_in}
use Rattle.routines_sums.specs.Ways.{ways_in}
use Rattle.routines_paths.specs.Open.{open_of}
use Rattle.routines_paths.specs.Deep.{Working, Writing}
use Rattle.routines_paths.proofs.deepest.write_deepest.Given as goal

abbrev pub invariant-loop-path : goal.invariant-loop-path
invariant-loop-path l = (length l.path ≡ length l.initial.path) × (length l.stack ≡ length l.initial.stack) × (length l.pend ≡ length l.initial.pend) × Working l.dep l.stack l.pend l.here.top × (l.here.v < length l.dep)
    × Writing (ways_in l.words) (address_in l.words) l.dep l.goal 0 l.initial.path (length l.initial.stack) l.path l.here.reached (open_of l.stack l.here.top) l.here.v l.at

abbrev pub decreases-loop-path : goal.decreases-loop-path
decreases-loop-path l = length l.initial.path - l.at

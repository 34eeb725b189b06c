-- `routines_paths::route::write_path` meets its contract: the bytes of the places that are passed stand in the buffer, and what is left to spend falls.
use mathlib.Core.Path.{◌≡◌}
use Prim.Native.Nat.{◌+◌}
use lib.ListN.{length, get_or}
use Rattle.graph_search.specs.Marks.{Within}
use Rattle.routines_joined.specs.Refused.{address_in}
use Rattle.routines_sums.specs.Ways.{ways_in}
use Rattle.routines_paths.specs.Open.{open_of}
use Rattle.routines_paths.specs.Way.{pending, Writing}
use Rattle.routines_paths.proofs.route.write_path.Given as goal

abbrev pub invariant-loop-path : goal.invariant-loop-path
invariant-loop-path l = (length l.path ≡ length l.initial.path) × (length l.stack ≡ length l.initial.stack) × Within l.stack (length l.d)
    × Writing (ways_in l.words) (address_in l.words) l.d 0 l.initial.path (length l.initial.stack) l.path (open_of l.stack l.here.top) l.here.v l.at

abbrev pub decreases-loop-path : goal.decreases-loop-path
decreases-loop-path l = get_or l.d l.here.v 0 + pending l.d (open_of l.stack l.here.top)

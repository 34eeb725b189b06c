-- `routines_paths::route::path_len` meets its contract: the places that are passed and the way from the present one make up the way; what is left to spend falls, so that it ends.
use mathlib.Core.Path.{◌≡◌}
use Prim.Native.Nat.{◌+◌}
use lib.ListN.{length, get_or}
use Rattle.graph_search.specs.Marks.{Within}
use Rattle.routines_sums.specs.Ways.{ways_in}
use Rattle.routines_paths.specs.Open.{open_of}
use Rattle.routines_paths.specs.Way.{pending, Along}
use Rattle.routines_paths.proofs.route.path_len.Given as goal

abbrev pub invariant-loop-here : goal.invariant-loop-here
invariant-loop-here l = (length l.stack ≡ length l.initial.stack) × Within l.stack (length l.d) × Along (ways_in l.words) l.d 0 (open_of l.stack l.here.top) l.here.v l.n

abbrev pub decreases-loop-here : goal.decreases-loop-here
decreases-loop-here l = get_or l.d l.here.v 0 + pending l.d (open_of l.stack l.here.top)

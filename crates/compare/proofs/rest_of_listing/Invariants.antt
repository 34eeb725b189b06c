-- `compare::rest_of_listing` meets its contract.
use lib.ListN.{length}
use Rattle.compare_lines.specs.Left.{Placed}
use Rattle.compare.proofs.rest_of_listing.Given as goal

abbrev pub invariant-loop : goal.invariant-loop
invariant-loop l = Placed l.phase (length l.ours)

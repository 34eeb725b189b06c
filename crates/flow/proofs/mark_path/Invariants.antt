-- `flow::mark_path` meets its contract.
use Rattle.std.proofs.Common.{◌*◌, ◌≤◌}
use Rattle.flow.proofs.mark_path.Given as goal

abbrev pub invariant-loop-i : goal.invariant-loop-i
invariant-loop-i l = l.total ≤ 3 * l.i

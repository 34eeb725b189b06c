-- `bounder::list_deep` meets its contract.
use Rattle.std.proofs.Common.{◌≤◌}
use Rattle.bounder.proofs.list_deep.Given as goal

abbrev pub invariant-loop-i : goal.invariant-loop-i
invariant-loop-i l = l.calls ≤ l.i

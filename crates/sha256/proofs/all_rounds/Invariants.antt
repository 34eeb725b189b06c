-- `sha256::all_rounds` meets its contract.
use Rattle.std.proofs.Common.{◌≡◌}
use Rattle.sha256.specs.Sha256.{rounds}
use Rattle.sha256.proofs.all_rounds.Given as goal

abbrev pub invariant-loop-t : goal.invariant-loop-t
invariant-loop-t l = l.s ≡ rounds l.w l.initial.s l.t

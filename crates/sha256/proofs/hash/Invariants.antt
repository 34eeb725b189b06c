-- `sha256::hash` meets its contract.
use Rattle.std.proofs.Common.{◌≡◌}
use Rattle.sha256.specs.Sha256.{padded, after_blocks}
use Rattle.sha256.proofs.hash.Given as goal

abbrev pub invariant-loop-i : goal.invariant-loop-i
invariant-loop-i l = l.s ≡ after_blocks (padded l.message) l.i

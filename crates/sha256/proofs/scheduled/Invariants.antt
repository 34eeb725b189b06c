-- `sha256::scheduled` meets its contract.
use Rattle.std.proofs.Common.{◌≡◌, length, take}
use Rattle.sha256.specs.Sha256.{padded, schedule}
use Rattle.sha256.proofs.scheduled.Given as goal

abbrev pub invariant-loop-t : goal.invariant-loop-t
invariant-loop-t l = (length l.w ≡ 64) × (take l.t l.w ≡ schedule (padded l.message) l.from l.t)

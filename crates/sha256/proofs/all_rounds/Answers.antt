-- `sha256::all_rounds` meets its contract.
use Rattle.std.proofs.Common.{sym}
use Rattle.sha256.specs.Sha256.{constants}
use Rattle.sha256.proofs.Steps.{one_more_round, no_round}
use Rattle.sha256.proofs.all_rounds.Goals as goal

pub loop-t-init : goal.loop-t-init
loop-t-init c = sym (no_round _ _)

pub loop-t-preserved : goal.loop-t-preserved
unfolding constants
loop-t-preserved c = cc (one_more_round c.args.w.now c.args.before c.loop-t.t)

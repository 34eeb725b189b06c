-- `step::apart::act` meets its contract.
use Rattle.step.proofs.apart.Answering.{act-made}
use Rattle.step.proofs.apart.act.Goals as goal

pub returns : goal.returns
returns c = act-made _ _ _ _ _ c.in_ok-judged.ensures.0 c.in_ok-judged.ensures.1 c.act_on-stop.ensures

-- `step_act::turn` meets its contract.
use Rattle.step_act.proofs.Acting.{turn-accepts, turn-runs}
use Rattle.step_act.proofs.turn.Goals as goal

pub returns-in-Some : goal.returns-in-Some
returns-in-Some c = turn-accepts _ _ _ _ _ _ _ c.in-Some.ensures.0 c.in-Some.ensures.1 c.accept.ensures

pub returns-in-None : goal.returns-in-None
returns-in-None c = turn-runs _ _ _ _ _ _ c.in-None.ensures c.run_one.ensures

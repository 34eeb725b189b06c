-- What follows a place is a place.
use Rattle.routines_counted.proofs.Stepping.{follows}
use Rattle.routines_counted.proofs.reached.StepsSuccessors.after.Goals as goal

pub returns : goal.returns
returns c = follows _ _ c.args.self.now.sized c.requires _ c.step_over.ensures

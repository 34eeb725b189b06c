-- What follows a node of the joined graph is a node.
use Rattle.routines_joined.proofs.Nodes.{goes_to}
use Rattle.routines_joined.proofs.node.JoinedSuccessors.after.Goals as goal

pub returns-in-GoesOn : goal.returns-in-GoesOn
returns-in-GoesOn c = goes_to c.args.self.now.laid c.requires c.in-GoesOn.ensures

-- `Joined::suspect` meets its contract.
use Rattle.std.proofs.Common.{le-leb}
use Rattle.routines_joined.proofs.Ranks.{comes_back}
use Rattle.routines_joined.proofs.joined.Joined.suspect.Goals as goal

pub returns-else-not-steady : goal.returns-else-not-steady
returns-else-not-steady c = λ p. let ruled = c.requires.2 c.if-not-steady.false in le-leb _ _ (comes_back ruled.steady ruled.marked c.highest_after.ensures p)

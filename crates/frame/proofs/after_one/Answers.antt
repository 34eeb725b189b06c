-- `frame::after_one` meets its contract.
use Rattle.frame.proofs.Alike.{all-again}
use Rattle.frame.proofs.after_one.Goals as goal

pub returns-then-again : goal.returns-then-again
returns-then-again c = rw c.if-again.true (all-again _ _ _ c.requires.0 c.requires.1 (rw c.frame_size-n.ensures at (c.again.ensures.same c.if-again.true)))

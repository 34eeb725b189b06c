-- `frame::judged` meets its contract.
use Rattle.std.proofs.Common.{arith}
use Rattle.frame.proofs.Judging.{along-next, along_end}
use Rattle.frame.proofs.judged.Goals as goal

pub loop-at-preserved : goal.loop-at-preserved
loop-at-preserved c =
    (rw c.frame_size-at-step.ensures (along-next _ _ _ _ _ _ c.loop-at.invariant.0 _ c.requires.1 c.loop-at-test.true c.is_frame_at-ok.ensures), c.frame_size-at-step.ensures)

pub returns-2 : goal.returns-2
returns-2 c = along_end _ _ _ _ _ _ (along-next _ _ _ _ _ _ c.loop-at.invariant.0 _ c.requires.1 c.loop-at-test.true c.is_frame_at-ok.ensures) (omega arith)

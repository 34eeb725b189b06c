-- `frame::judged` meets its contract. The invariant: what was judged lies between the first place and this one.
use Rattle.std.proofs.Common.{◌-◌, ◌≡◌}
use Rattle.device.specs.Device.{frame_size}
use Rattle.frame.proofs.Judging.{Along}
use Rattle.frame.proofs.judged.Given as goal

abbrev pub invariant-loop-at : goal.invariant-loop-at
invariant-loop-at l = Along l.d l.s l.from l.to l.at l.ok × (l.at-step ≡ frame_size l.d)

abbrev pub decreases-loop-at : goal.decreases-loop-at
decreases-loop-at l = l.to - l.at

-- `step_look::seen` meets its contract.
use Rattle.record.proofs.Interrupting.{made_same}
use Rattle.step_look.proofs.Looking.{counted_still}
use Rattle.step_look.proofs.seen.Goals as goal
use Rattle.step_look.proofs.seen.Goals.{then-new-eq0+then-new-m, else-new-eq0}

pub returns : goal.returns
returns c =
    elim c.if-new-eq0.branch [
      | then-new-eq0+then-new-m w ↦ rw (w.timed-is, counted_still c.args.d c.args.m c.args.new w.if-new-m.true w.if-new-eq0.true, made_same c.args.m.ints c.requires.0)
      | else-new-eq0 w ↦ rw (w.timed-is, w.with_time-timed.ensures, w.counted.ensures)
    ]

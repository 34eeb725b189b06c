-- `why::session` meets its contract: the record stays valid, whether or not a line was told.
use Rattle.why.proofs.session.Goals as goal
use Rattle.why.proofs.session.Goals.{in-Some+in_ok-show+else-told, in_default}

pub tell_last-requires : goal.tell_last-requires
tell_last-requires c =
    elim c.match-whole_line.branch [
      | in-Some+in_ok-show+else-told w ↦ (rw w.core-is w.tell-told.ensures.valid.core, rw w.ram-is w.tell-told.ensures.valid.ram)
      | in_default w ↦ (rw w.core-is c.loop.invariant.0, rw w.ram-is c.loop.invariant.1)
    ]

pub loop-preserved : goal.loop-preserved
loop-preserved c =
    elim c.match-whole_line.branch [
      | in-Some+in_ok-show+else-told w ↦ (rw w.core-is w.tell-told.ensures.valid.core, rw w.ram-is w.tell-told.ensures.valid.ram)
      | in_default w ↦ (rw w.core-is c.loop.invariant.0, rw w.ram-is c.loop.invariant.1)
    ]

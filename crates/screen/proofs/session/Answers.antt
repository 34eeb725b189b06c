-- `screen::session` meets its contract: the record stays valid, whether or not a line was told.
use Rattle.screen.proofs.session.Goals as goal
use Rattle.screen.proofs.session.Goals.{in-Some+in_ok-told+else-told+else-eq, in_default}

pub last_line-requires : goal.last_line-requires
last_line-requires c =
    elim c.match-whole_line.branch [
      | in-Some+in_ok-told+else-told+else-eq w ↦ (rw w.core-is w.in_ok-told.ensures.0, rw w.ram-is w.in_ok-told.ensures.1)
      | in_default w ↦ (rw w.core-is c.loop.invariant.0, rw w.ram-is c.loop.invariant.1)
    ]

pub loop-preserved : goal.loop-preserved
loop-preserved c =
    elim c.match-whole_line.branch [
      | in-Some+in_ok-told+else-told+else-eq w ↦ (rw w.core-is w.in_ok-told.ensures.0, rw w.ram-is w.in_ok-told.ensures.1)
      | in_default w ↦ (rw w.core-is c.loop.invariant.0, rw w.ram-is c.loop.invariant.1)
    ]

-- `graph_search::mark` meets its contract: a marked place changes nothing, and another is marked and queued.
use native.Mathlib.Omega.{arith}
use Rattle.graph_search.proofs.Grown.{grown_none, grown-one, room-lt}
use Rattle.graph_search.proofs.mark.Goals as goal

pub returns-then-marks-w-ne0 : goal.returns-then-marks-w-ne0
returns-then-marks-w-ne0 c = (grown_none _ _ _, omega (arith, c.if-marks-w-ne0.true))

pub bounds-queue-count : goal.bounds-queue-count
bounds-queue-count c = room-lt _ _ _ _ c.requires.0 c.requires.1 c.if-marks-w-ne0.false

pub returns : goal.returns
returns c = grown-one _ _ _ _ c.requires.0 c.requires.1 c.if-marks-w-ne0.false

-- `routines_known::settle` meets its contract.
use Rattle.routines_known.proofs.Settling.{settle_new}
use Rattle.routines_known.proofs.settle.Goals as goal

pub returns : goal.returns
returns c = settle_new c.requires.1 c.if-marks-v-ne0.false c.requires.2 (c.loses.ensures.so c.if-not-loses.false)

-- `hex_chunks::held::HeldLine::extend` meets its contract: up to an index the part is held.
use mathlib.Core.List.{◌++◌}
use lib.ListN.{take}
use Rattle.hex_chunks.proofs.held.Holding.{part_none, part_more, part_all}
use native.Mathlib.Omega.{arith}
use Rattle.hex_chunks.proofs.held.HeldLine.extend.Goals as goal

pub loop-c-init : goal.loop-c-init
loop-c-init c = λ line k. part_none line c.args.part.now k

pub loop-c-preserved : goal.loop-c-preserved
loop-c-preserved c = λ line k. part_more line c.args.part.now c.loop-c.c-index (omega arith) (c.push.ensures (line ++ take c.loop-c.c-index c.args.part.now) (c.loop-c.invariant line k))

pub returns : goal.returns
returns c = λ line k. part_all line c.args.part.now c.loop-c.c-index (omega arith) (c.loop-c.invariant line k)

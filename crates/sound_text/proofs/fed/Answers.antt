-- `sound_text::fed` meets its contract.
use Rattle.sound_text.proofs.Feeding.{entered, answered}
use native.Mathlib.Omega.{arith}
use Rattle.sound_text.proofs.fed.Goals as goal

pub returns-then-c-ne10-clause-feeds : goal.returns-then-c-ne10-clause-feeds
returns-then-c-ne10-clause-feeds g c = entered c.args.out.now c.if-c-ne10.true c.enter.ensures

pub returns-clause-feeds : goal.returns-clause-feeds
returns-clause-feeds g c = answered (omega arith) c.nothing_entered.ensures.0 c.nothing_entered.ensures.1 c.command_of.ensures c.perform-p.ensures c.tell.ensures.text c.state_left.ensures

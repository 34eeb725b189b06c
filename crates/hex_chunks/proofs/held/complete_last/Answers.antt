-- `hex_chunks::held::complete_last` meets its contract.
use Rattle.hex_chunks.proofs.held.Completing.{shorter}
use Rattle.hex_chunks.proofs.held.complete_last.Goals as goal

pub returns-clause-by_index : goal.returns-clause-by_index
returns-clause-by_index c = λ line k. c.complete.ensures.by_index line (shorter c.characters.result line (c.characters.ensures line k))

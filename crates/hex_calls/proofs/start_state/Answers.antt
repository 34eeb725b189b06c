-- `hex_calls::start_state` meets its contract.
use Rattle.hex_calls.proofs.Chunks.{start_new}
use Rattle.hex_calls.proofs.start_state.Goals as goal

pub returns-clause-start_call : goal.returns-clause-start_call
returns-clause-start_call c = start_new _ _ _ _ c.if-state-ne-STATE_SIZE.false c.pack.ensures (c.start.ensures _)

pub returns-clause-start_call_2 : goal.returns-clause-start_call_2
returns-clause-start_call_2 c = start_new _ _ _ _ c.if-state-ne-STATE_SIZE.false c.pack.ensures (c.start.ensures _)

-- `hex_calls::declare_end` meets its contract.
use Rattle.hex_calls.proofs.state.Ranges.{state_length}
use Rattle.hex_calls.proofs.declare_end.Goals as goal

pub pack-requires : goal.pack-requires
pack-requires c = state_length c.args.state.now c.in-Some.ensures.0

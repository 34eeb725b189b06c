-- `hex_calls::state::stage_at` meets its contract.
use native.Mathlib.Omega.{arith}
use Rattle.hex_calls.proofs.state.Ranges.{fault-bounds}
use Rattle.hex_calls.proofs.state.stage_at.Goals as goal

pub fault_of-requires : goal.fault_of-requires
fault_of-requires c = fault-bounds c.args.numbers.now c.requires.1 (λ e. omega arith) (λ e. omega arith)

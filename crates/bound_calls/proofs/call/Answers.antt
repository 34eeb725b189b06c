-- `bound_calls::call` meets its contract.
use Prim.Native.Nat.{◌*◌}
use native.Mathlib.Nat.{add-zero}
use Rattle.bound_calls.proofs.call.Goals as goal

pub returns : goal.returns
returns c = rw (add-zero (2 * c.args.on))

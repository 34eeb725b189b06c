-- `due::due_source` meets its contract.
use Prim.Native.Nat.{◌%◌}
use native.Mathlib.Omega.{arith}
use native.Mathlib.Nat.{lt_of_le_of_lt}
use lib.Bits.{and_le_l}
use Rattle.due.proofs.Sources.{by_pattern}
use Rattle.due.proofs.due_source.Goals as goal

pub highest_bit-requires : goal.highest_bit-requires
highest_bit-requires c = lt_of_le_of_lt {m = c.args.il % 64} (and_le_l _ _) (omega arith)

pub returns : goal.returns
returns c = rw (← by_pattern c.args.il c.args.mask) c.highest_bit.ensures

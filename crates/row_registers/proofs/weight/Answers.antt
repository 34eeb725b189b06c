-- `row_registers::weight` meets its contract.
use Prim.Native.Nat.{ℕ, ◌%◌, ◌^◌, ◌<◌}
use native.Mathlib.Omega.{arith}
use lib.Dec.{ltb, ltb→lt}
use lib.Pow.{pow_pos}
use Rattle.laws.proofs.Computed.{at}
use Rattle.row_registers.proofs.weight.Goals as goal

small : (n : ℕ) → 2 ^ (n % 4) < 9
small n = ltb→lt (2 ^ (n % 4)) 9 (at (λ k. ltb (2 ^ k) 9) 4 tt (n % 4) (omega arith))

pub returns : goal.returns
returns c =
    let n = c.args.number in
    record {
      value = c.weight.ensures;
      some = rw c.weight.ensures (pow_pos (n % 4));
      small = rw c.weight.ensures (small n);
    }

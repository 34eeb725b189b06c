-- `record::pack::kept_top` meets its contract.
use Prim.Native.Nat.{ℕ, ◌/◌, ◌%◌}
use mathlib.Core.Path.{ap, ◌∙◌}
use native.Mathlib.Omega.{arith}
use lib.Bits.{bit_or, and_high, or_shifted}
use Rattle.record.proofs.pack.kept_top.Goals as goal

pub returns : goal.returns
returns c =
    let o = c.args.old in
    ap (λ (n : ℕ). bit_or n c.nibble_at.result) (and_high o 3 1) ∙ or_shifted (o / 2 % 8) 1 c.nibble_at.result (omega arith)
    ∙ omega arith

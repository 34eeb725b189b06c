-- `image_calls::target` meets its contract.
use mathlib.Core.Path.{◌≡◌, ap, ◌∙◌}
use Prim.Native.Nat.{ℕ}
use native.Mathlib.Omega.{arith}
use Rattle.std.specs.Prelude.{Option}
use Rattle.std.specs.Option.{unwrap_or}
use Rattle.sheet.specs.Flow.{goes_to}
use Rattle.image_calls.specs.Operands.{goes_from}
use Rattle.image_calls.proofs.Goes.{goes_lt}
use Rattle.image_calls.proofs.target.Goals as goal

pub overflow_cast-result : goal.overflow_cast-result
overflow_cast-result c =
    let e : c.unwrap_or.result ≡ unwrap_or (goes_to c.args.at c.args.insn) 8192 = c.unwrap_or.ensures ∙ ap (λ (o : Option ℕ). unwrap_or o 8192) c.goes_to.ensures in
    omega (arith, goes_lt c.args.at c.args.insn c.requires.0 c.requires.1)

pub returns : goal.returns
unfolding goes_from
returns c = c.unwrap_or.ensures ∙ ap (λ (o : Option ℕ). unwrap_or o 8192) c.goes_to.ensures

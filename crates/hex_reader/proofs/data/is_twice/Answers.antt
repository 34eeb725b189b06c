-- `hex_reader::data::is_twice` meets its contract: up to k no address was given.
use mathlib.Core.Path.{sym, ◌∙◌}
use Prim.Native.Nat.{◌+◌}
use Rattle.hex_reader.specs.Work.{bit_of}
use Rattle.hex_reader.proofs.data.Some.{some_true, some_false}
use native.Mathlib.Omega.{arith}
use Rattle.hex_reader.proofs.data.is_twice.Goals as goal

pub returns-then-is_given : goal.returns-then-is_given
returns-then-is_given c =
    let a = c.args in
    sym (some_true (λ k. bit_of a.size a.work.now (a.address + k)) a.count c.loop-k.k (omega arith) (sym c.is_given.ensures ∙ c.if-is_given.true))

pub returns : goal.returns
returns c = sym (some_false (λ k. bit_of c.args.size c.args.work.now (c.args.address + k)) c.args.count (λ k h. c.loop-k.invariant k (omega arith)))

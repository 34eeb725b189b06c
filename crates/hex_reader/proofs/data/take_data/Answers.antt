-- `hex_reader::data::take_data` meets its contract.
use mathlib.Core.Path.{sym, ◌∙◌}
use Prim.Native.Nat.{◌+◌, ◌/◌}
use lib.ListN.{length}
use Rattle.hex_reader.specs.Work.{bit_of}
use Rattle.hex_reader.proofs.data.Some.{none-past, none_true}
use Rattle.hex_reader.proofs.data.Taking.{takes-past, takes-twice, takes-it}
use native.Mathlib.Omega.{arith}
use Rattle.hex_reader.proofs.data.take_data.Goals as goal

pub returns-then-is_past : goal.returns-then-is_past
returns-then-is_past c =
    let p = c.requires.0.pairs in
    takes-past _ _ _ (length c.args.digits.now / 2) (omega arith) (sym c.is_past.ensures ∙ c.if-is_past.true)

pub is_twice-requires : goal.is_twice-requires
is_twice-requires c = (c.requires.1, none-past _ c.args.address _ (sym c.is_past.ensures ∙ c.if-is_past.false))

pub returns-then-is_twice : goal.returns-then-is_twice
returns-then-is_twice c =
    let p = c.requires.0.pairs in
    takes-twice _ _ _ (length c.args.digits.now / 2) (omega arith) (sym c.is_past.ensures ∙ c.if-is_past.false) (sym c.is_twice.ensures ∙ c.if-is_twice.true)

pub store-requires-clause-work_len : goal.store-requires-clause-work_len
store-requires-clause-work_len c =
    let a = c.args in
    let p = c.requires.0.pairs in
    let within = none-past a.size a.address (length a.digits.now / 2) (sym c.is_past.ensures ∙ c.if-is_past.false) in
    let clear = none_true (λ k. bit_of a.size a.work.now (a.address + k)) (length a.digits.now / 2) (sym c.is_twice.ensures ∙ c.if-is_twice.false) in
    (c.requires.1, λ k h. within k (omega arith), λ k h. clear k (omega arith))

pub returns : goal.returns
returns c =
    let p = c.requires.0.pairs in
    let held = c.store.ensures in
    takes-it _ _ _ (length c.args.digits.now / 2) (omega arith) _ (sym c.is_past.ensures ∙ c.if-is_past.false) (sym c.is_twice.ensures ∙ c.if-is_twice.false) held.work_len_unchanged held.holds

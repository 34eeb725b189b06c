-- `sha256::message::padded_byte` meets its contract.
use Rattle.std.proofs.Common.{sym, arith}
use Rattle.sha256.proofs.Padding.{message_at, one_at, zero_at, length_at, padded_length}
use Rattle.sha256.proofs.message.padded_byte.Goals as goal

pub returns-then-at-length : goal.returns-then-at-length
returns-then-at-length c = sym (message_at c.args.message.now c.args.at c.if-at-length.true)

pub returns-then-at-length-2 : goal.returns-then-at-length-2
returns-then-at-length-2 c = sym (one_at c.args.message.now c.args.at c.if-at-length-2.true)

pub returns-then-at-end : goal.returns-then-at-end
returns-then-at-end c = sym (zero_at c.args.message.now c.args.at (omega arith) (omega arith))

pub overflow_sub-end-3 : goal.overflow_sub-end-3
overflow_sub-end-3 c = omega (arith, padded_length c.args.message.now)

pub length_byte-requires : goal.length_byte-requires
length_byte-requires c = omega (arith, padded_length c.args.message.now)

pub returns : goal.returns
returns c =
    let m = c.args.message.now in
    let n = c.blocks-end.ensures in
    let last = length_at m c.args.at (omega arith) (omega (arith, padded_length m)) in
    cc

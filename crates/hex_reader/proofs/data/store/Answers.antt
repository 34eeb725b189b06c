-- `hex_reader::data::store` meets its contract: the buffer holds the record's bytes up to k, and the bits of the others are clear.
use mathlib.Core.Path.{sym, ◌∙◌}
use Prim.Native.Nat.{◌+◌, ◌*◌, ◌<◌}
use lib.ListN.{length}
use Rattle.hex_reader.specs.Record.{bytes_of}
use Rattle.hex_reader.proofs.line.Pairs.{byte_of_pair, digit-in}
use Rattle.hex_reader.proofs.data.Holding.{holds_none, holds_more, holds_all, still_clear}
use native.Mathlib.Omega.{arith}
use Rattle.hex_reader.proofs.data.store.Goals as goal

pub loop-k-init : goal.loop-k-init
loop-k-init c = record { size = c.requires.work_len.0; clear = λ k g h. c.requires.work_len.2 k h; held = λ ds h. holds_none c.args.address (bytes_of c.args.digits.now) h }

pub overflow_add-address : goal.overflow_add-address
overflow_add-address c = let p = c.requires.stands.pairs in omega (arith, c.requires.work_len.1 c.loop-k.k (omega arith))

pub byte_at-requires : goal.byte_at-requires
byte_at-requires c =
    let p = c.requires.stands.pairs in
    let d = c.requires.stands.are_digits in
    (omega arith, digit-in c.args.digits.now (2 * c.loop-k.k) d (omega arith), digit-in c.args.digits.now (2 * c.loop-k.k + 1) d (omega arith))

pub put-requires : goal.put-requires
put-requires c = let p = c.requires.stands.pairs in let l : c.loop-k.k < length (bytes_of c.args.digits.now) = omega arith in (c.loop-k.invariant.size, c.requires.work_len.1 c.loop-k.k l, c.loop-k.invariant.clear c.loop-k.k (omega arith) l)

pub loop-k-preserved : goal.loop-k-preserved
loop-k-preserved c =
    let p = c.requires.stands.pairs in
    let l : c.loop-k.k < length (bytes_of c.args.digits.now) = omega arith in
    let b = c.byte_at.ensures ∙ sym (byte_of_pair c.loop-k.k c.args.digits.now (omega arith)) in
    record {
      size = c.put.ensures.size ∙ c.loop-k.invariant.size;
      clear = still_clear c.args.address (length (bytes_of c.args.digits.now)) c.loop-k.k c.requires.work_len.1 c.put.ensures c.loop-k.invariant.clear;
      held = λ ds h. holds_more c.args.address (bytes_of c.args.digits.now) c.loop-k.k l _ _ ds (c.loop-k.invariant.held ds h) (rw b at c.put.ensures);
    }

pub returns : goal.returns
returns c =
    let p = c.requires.stands.pairs in
    record {
      work_len_unchanged = c.loop-k.invariant.size ∙ sym c.requires.work_len.0;
      holds = λ ds h. holds_all c.args.address (bytes_of c.args.digits.now) c.loop-k.k (omega arith) (c.loop-k.invariant.held ds h);
    }

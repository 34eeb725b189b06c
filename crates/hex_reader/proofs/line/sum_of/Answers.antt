-- `hex_reader::line::sum_of` meets its contract: the pairs that are left are still to be added.
use Rattle.std.specs.Slice.Iter.{chunks_exact_rest}
use Rattle.hex_reader.proofs.line.Pairs.{digits-after, pair-digits}
use Rattle.hex_reader.proofs.line.Characters.{pair_in, no_pair}
use native.Mathlib.Omega.{arith}
use Rattle.hex_reader.proofs.line.sum_of.Goals as goal

pub byte_at-sum-requires : goal.byte_at-sum-requires
byte_at-sum-requires c =
    let s = c.in-Some.ensures.steps in
    let d = pair-digits c.in-Some.pair.now (chunks_exact_rest c.next.new.self) (rw s.1.0 at c.loop-pair.invariant.are_digits) (omega arith) in
    (omega arith, d.0, d.1)

pub loop-pair-preserved : goal.loop-pair-preserved
loop-pair-preserved c =
    let s = c.in-Some.ensures.steps in
    let i = c.loop-pair.invariant in
    let p = rw (← s.1.0) at (pair_in c.in-Some.pair.now (chunks_exact_rest c.next.new.self) (omega arith)) in
    record {
      left = omega (arith, c.byte_at-sum.ensures, p);
      are_digits = digits-after c.in-Some.pair.now (chunks_exact_rest c.next.new.self) (rw s.1.0 at i.are_digits);
      two = omega arith;
    }

pub returns : goal.returns
returns c = let s = c.in-None.ensures.steps in omega (arith, no_pair (chunks_exact_rest c.loop-pair.pair-iterator) (omega arith))

-- `hex_reader::line::sum_of` meets its contract: the pairs that are left are still to be added.
use mathlib.Core.Path.{◌≡◌}
use mathlib.Core.Bool.{true}
use Prim.Native.Nat.{◌+◌, ◌%◌}
use Rattle.std.specs.Slice.Iter.{chunks_exact_rest, chunks_exact_size}
use Rattle.text.specs.Words.{all_digits}
use Rattle.hex_reader.specs.Record.{bytes_of, total}
use Rattle.hex_reader.proofs.line.sum_of.Given as goal

abbrev pub invariant-loop-pair : goal.invariant-loop-pair
invariant-loop-pair l = record {
  left : (l.sum + total (bytes_of (chunks_exact_rest l.pair-iterator))) % 256 ≡ total (bytes_of l.digits) % 256;
  are_digits : all_digits 16 (chunks_exact_rest l.pair-iterator) ≡ true;
  two : chunks_exact_size l.pair-iterator ≡ 2;
}

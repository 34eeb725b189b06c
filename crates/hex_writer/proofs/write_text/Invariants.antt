-- `hex_writer::write_text` meets its contract: the records so far are written.
use mathlib.Core.Path.{◌≡◌}
use Prim.Native.Nat.{◌*◌}
use lib.ListN.{length, take, drop}
use Rattle.hex_writer.specs.Writer.{records_from, records_of}
use Rattle.hex_writer.proofs.write_text.Given as goal

abbrev pub invariant-loop-k : goal.invariant-loop-k
invariant-loop-k l = record {
  written : take (44 * l.k) l.out ≡ records_from l.image 0 l.k;
  rest : drop (44 * l.k) l.out ≡ drop (44 * l.k) l.initial.out;
  all : l.records ≡ records_of (length l.image);
}

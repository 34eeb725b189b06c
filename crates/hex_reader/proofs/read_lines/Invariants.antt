-- `hex_reader::read_lines` meets its contract: between two lines the rest of the text leads to what the whole text is.
use mathlib.Core.Path.{◌≡◌}
use Prim.Native.Nat.{◌-◌}
use lib.ListN.{length}
use Rattle.hex_reader.proofs.Midway.{Midway}
use Rattle.hex_reader.proofs.read_lines.Given as goal

abbrev pub invariant-loop-line : goal.invariant-loop-line
invariant-loop-line l = record {
  midway : Midway l.size l.text l.work l.stage l.reader.at l.n;
  same : l.reader.text.now ≡ l.text;
}

abbrev pub decreases-loop-line : goal.decreases-loop-line
decreases-loop-line l = length l.text - l.reader.at

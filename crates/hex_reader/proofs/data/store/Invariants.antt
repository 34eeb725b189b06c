-- `hex_reader::data::store` meets its contract: the buffer holds the record's bytes up to k, and the bits of the others are clear.
use mathlib.Core.Path.{◌≡◌}
use mathlib.Core.Bool.{false}
use mathlib.Core.List.{List, ◌∷◌}
use Prim.Native.Nat.{ℕ, ◌+◌, ◌<◌, ◌≤◌}
use lib.ListN.{length}
use Rattle.hex_reader.specs.Record.{bytes_of}
use Rattle.hex_reader.specs.Given.{Given}
use Rattle.hex_reader.specs.Work.{work_size, bit_of, Holds}
use Rattle.hex_reader.proofs.data.Holding.{front}
use Rattle.hex_reader.proofs.data.store.Given as goal

abbrev pub invariant-loop-k : goal.invariant-loop-k
invariant-loop-k l = record {
  size : length l.work ≡ work_size l.size;
  clear : (j : ℕ) → l.k ≤ j → j < length (bytes_of l.digits) → bit_of l.size l.work (l.address + j) ≡ false;
  held : (ds : List Given) → Holds l.size l.initial.work ds → Holds l.size l.work (front l.address (bytes_of l.digits) l.k ∷ ds);
}

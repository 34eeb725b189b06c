-- `hex_writer::sum_of` meets its contract: the bytes so far are added.
use mathlib.Core.Path.{◌≡◌}
use Prim.Native.Nat.{◌+◌, ◌%◌}
use lib.ListN.{take}
use Rattle.hex_reader.specs.Record.{total}
use Rattle.hex_writer.proofs.sum_of.Given as goal

abbrev pub invariant-loop-byte : goal.invariant-loop-byte
invariant-loop-byte l = l.sum ≡ (l.before + total (take l.byte-index l.bytes)) % 256

-- `hex_writer::put_bytes` meets its contract: the bytes so far are written.
use mathlib.Core.Path.{◌≡◌}
use mathlib.Core.List.{◌++◌}
use lib.ListN.{take}
use Rattle.hex_writer.specs.Writer.{hex_bytes}
use Rattle.hex_writer.proofs.put_bytes.Given as goal

abbrev pub invariant-loop-byte : goal.invariant-loop-byte
invariant-loop-byte l = l.line ≡ l.initial.line ++ hex_bytes (take l.byte-index l.bytes)

-- `hex_writer::sum_of` meets its contract: the bytes so far are added.
use Rattle.hex_writer.proofs.Texts.{total_more}
use native.Mathlib.Omega.{arith}
use Rattle.hex_writer.proofs.sum_of.Goals as goal

pub loop-byte-preserved : goal.loop-byte-preserved
loop-byte-preserved c = omega (arith, total_more c.args.bytes.now c.loop-byte.byte-index (omega arith))

-- `hex_writer::put_bytes` meets its contract: the bytes so far are written.
use mathlib.Core.Path.{◌≡◌}
use mathlib.Core.List.{append_assoc}
use lib.ListN.{length, take, length-append, length-take}
use lib.Seq.{take_all}
use Rattle.hex_writer.specs.Writer.{hex_bytes}
use Rattle.hex_writer.proofs.Texts.{hex_more, hex_length}
use native.Mathlib.Omega.{arith}
use Rattle.hex_writer.proofs.put_bytes.Goals as goal

pub number-requires : goal.number-requires
number-requires c =
    let n = length-append c.args.line.now (hex_bytes (take c.loop-byte.byte-index c.args.bytes.now)) in
    let m = hex_length (take c.loop-byte.byte-index c.args.bytes.now) in
    let k = length-take c.loop-byte.byte-index c.args.bytes.now in
    (omega arith, (omega arith, omega arith, rw c.loop-byte.invariant (omega arith)))

pub loop-byte-preserved : goal.loop-byte-preserved
loop-byte-preserved c =
    rw (c.number.ensures.text, c.loop-byte.invariant, c.from.ensures, hex_more c.args.bytes.now c.loop-byte.byte-index (omega arith)) (append_assoc c.args.line.now (hex_bytes (take c.loop-byte.byte-index c.args.bytes.now)) _)

pub returns-clause-size : goal.returns-clause-size
returns-clause-size c =
    let e : c.loop-byte.byte-index ≡ length c.args.bytes.now = omega arith in
    let n = length-append c.args.line.now (hex_bytes c.args.bytes.now) in
    let m = hex_length c.args.bytes.now in
    rw (c.loop-byte.invariant, take_all c.loop-byte.byte-index c.args.bytes.now (omega arith)) (omega arith)

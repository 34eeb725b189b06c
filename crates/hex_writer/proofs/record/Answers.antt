-- `hex_writer::record` meets its contract.
use mathlib.Core.Path.{◌≡◌}
use mathlib.Core.List.{◌++◌}
use Prim.Native.Nat.{◌%◌}
use Rattle.hex_reader.specs.Record.{total}
use Rattle.hex_writer.proofs.Texts.{total_append, record_parts}
use native.Mathlib.Omega.{arith}
use Rattle.hex_writer.proofs.record.Goals as goal

pub returns : goal.returns
returns c =
    let h = c.args.head.now in
    let b = c.args.bytes.now in
    let s : c.sum_of-sum.result ≡ total (h ++ b) % 256 = omega (arith, c.sum_of.ensures, c.sum_of-sum.ensures, total_append h b) in
    rw (c.put-2.ensures.text, c.number.ensures.text, c.put_bytes-2.ensures.text, c.put_bytes.ensures.text, c.put.ensures.text, c.new-line.ensures) (record_parts h b c.sum_of-sum.result s)

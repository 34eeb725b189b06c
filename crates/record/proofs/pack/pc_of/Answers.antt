-- `record::pack::pc_of` meets its contract.
use Prim.Native.Nat.{◌+◌, ◌*◌, ◌%◌}
use native.Mathlib.Omega.{arith}
use lib.Bits.{and_mask}
use Rattle.bits.proofs.Laws.{joined}
use Rattle.record.proofs.pack.pc_of.Goals as goal

pub returns : goal.returns
returns c =
    let t = c.args in
    let d = t.d % 2 in
    rw (and_mask t.d 1, joined 16 4 d t.c (omega arith) (omega arith), joined 16 4 (d * 16 + t.c) t.b (omega arith) (omega arith), joined 16 4 ((d * 16 + t.c) * 16 + t.b) t.a (omega arith) (omega arith))
    (omega arith)

-- `record::pack::top_of` meets its contract.
use Prim.Native.Nat.{◌+◌, ◌*◌, ◌/◌}
use native.Mathlib.Omega.{arith}
use mathlib.Core.Path.{◌≡◌}
use Rattle.bits.specs.Bits.{bit_of}
use Rattle.bits.proofs.Laws.{joined, bit_of_lt, from_bool_is}
use Rattle.record.proofs.pack.top_of.Goals as goal

pub returns : goal.returns
returns c =
    let r = c.args.r in
    let s = bit_of r.sf in
    let z = bit_of r.zf in
    let f = bit_of r.cf in
    let hs = bit_of_lt r.sf in
    let hz = bit_of_lt r.zf in
    let hf = bit_of_lt r.cf in
    let p : c.nibble_at.result ≡ c.args.pc / 4096 = omega arith in
    rw (c.from.ensures, c.from-2.ensures, c.from-3.ensures, from_bool_is r.sf, from_bool_is r.zf, from_bool_is r.cf, p, joined 8 1 s z (omega arith) (omega arith), joined 8 1 (s * 2 + z) f (omega arith) (omega arith), joined 8 1 ((s * 2 + z) * 2 + f) (c.args.pc / 4096) (omega arith) (omega arith))
    (omega arith)

-- `record_bytes::others_of` meets its contract.
use Rattle.std.proofs.Common.{rules}
use Rattle.bits.proofs.Laws.{from_bool_is}
use Rattle.record_bytes.specs.Layout.{others_of}
use Rattle.record_bytes.proofs.Numbers.{two_bytes, four_bytes}
use Rattle.record_bytes.proofs.others_of.Goals as goal

pub returns : goal.returns
unfolding others_of
returns c =
    let m = c.args.m in
    rw (
      ← two_bytes m.pc (search rules),
      ← two_bytes m.ptrs.dp (search rules),
      ← two_bytes m.timers.ta (search rules),
      ← two_bytes m.timers.tb (search rules),
      ← four_bytes m.timers.base (search rules),
      c.to_le_bytes.ensures,
      c.to_le_bytes-2.ensures,
      c.to_le_bytes-3.ensures,
      c.to_le_bytes-4.ensures,
      c.to_le_bytes-5.ensures,
      c.mode_number.ensures,
      c.from.ensures,
      c.from-2.ensures,
      c.from-3.ensures,
      c.from-4.ensures,
      c.from-5.ensures,
      from_bool_is m.regs.cf,
      from_bool_is m.regs.zf,
      from_bool_is m.regs.sf,
      from_bool_is m.ints.ei,
      from_bool_is m.mark,
    )

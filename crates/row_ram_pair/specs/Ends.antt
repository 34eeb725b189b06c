-- The end of both rows: HL anew, and the flags by the three marks. Each has two bytes and two cycles.
use Rattle.std.specs.Prelude.{ℕ, true}
use Rattle.record.specs.declared.Core.{Core}
use Rattle.row_ends.specs.declared.Act.{Act}
use Rattle.row_ends.specs.Ends.{goes_past}

-- - - 1
abbrev pub hl_loaded : Core → ℕ → ℕ → Act
hl_loaded m hr lr = goes_past m (record { acc = m.regs.acc; hr = hr; lr = lr; cf = m.regs.cf; zf = m.regs.zf; sf = true }) 2 2

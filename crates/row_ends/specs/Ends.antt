-- The ends of rows by what they change: a register or none, and the flags by the three marks. n and t are the row's bytes and cycles.
use Rattle.std.specs.Prelude.{ℕ, ◌+◌, ◌%◌, Bool, true, not, Option, Some, None, eqb}
use Rattle.numbers.specs.Sizes.{addresses}
use Rattle.alu.specs.declared.Made.{Made}
use Rattle.record.specs.declared.Registers.{Registers}
use Rattle.record.specs.declared.Core.{Core}
use Rattle.row_ends.specs.declared.Act.{Act}
use Rattle.row_ends.specs.declared.Register.{Register}

abbrev pub held : Registers → Register → ℕ
held r Register.Acc = r.acc
held r Register.Hr = r.hr
held r Register.Lr = r.lr

abbrev pub loaded_with : Registers → Register → ℕ → Registers
loaded_with r Register.Acc v = record { acc = v; hr = r.hr; lr = r.lr; cf = r.cf; zf = r.zf; sf = r.sf }
loaded_with r Register.Hr v = record { acc = r.acc; hr = v; lr = r.lr; cf = r.cf; zf = r.zf; sf = r.sf }
loaded_with r Register.Lr v = record { acc = r.acc; hr = r.hr; lr = v; cf = r.cf; zf = r.zf; sf = r.sf }

-- the registers where one of them is given v, or none is
abbrev pub given : Registers → Option Register → ℕ → Registers
given r (Some to) v = loaded_with r to v
given r None v = r

abbrev pub flagged : Registers → Bool → Bool → Bool → Registers
flagged r cf zf sf = record { acc = r.acc; hr = r.hr; lr = r.lr; cf = cf; zf = zf; sf = sf }

abbrev pub goes_past : Core → Registers → ℕ → ℕ → Act
goes_past m r n t = record { cycles = t; pc = (m.pc + n) % addresses; regs = r }

-- - - 1
abbrev pub loaded : Core → Register → ℕ → ℕ → ℕ → Act
loaded m to v n t = goes_past m (flagged (loaded_with m.regs to v) m.regs.cf m.regs.zf true) n t

-- - Z 1
abbrev pub acc_loaded : Core → ℕ → ℕ → ℕ → Act
acc_loaded m v n t = goes_past m (flagged (loaded_with m.regs Register.Acc v) m.regs.cf (eqb v 0) true) n t

-- - Z 1: ACC and another register change places, and Z speaks of what ACC receives
abbrev pub exchanged : Core → Register → ℕ → ℕ → Act
exchanged m with n t = goes_past m (flagged (loaded_with (loaded_with m.regs with m.regs.acc) Register.Acc (held m.regs with)) m.regs.cf (eqb (held m.regs with) 0) true) n t

-- - Z C'
abbrev pub summed : Core → Option Register → Made → ℕ → ℕ → Act
summed m to x n t = goes_past m (flagged (given m.regs to x.value) m.regs.cf (eqb x.value 0) (not x.carry)) n t

-- - Z C
abbrev pub lessened : Core → Option Register → Made → ℕ → ℕ → Act
lessened m to x n t = goes_past m (flagged (given m.regs to x.value) m.regs.cf (eqb x.value 0) x.carry) n t

-- - Z Z'
abbrev pub logical : Core → Option Register → Made → ℕ → ℕ → Act
logical m to x n t = goes_past m (flagged (given m.regs to x.value) m.regs.cf (eqb x.value 0) (not (eqb x.value 0))) n t

-- C Z C'
abbrev pub acc_carried : Core → Made → ℕ → ℕ → Act
acc_carried m x n t = goes_past m (record { acc = x.value; hr = m.regs.hr; lr = m.regs.lr; cf = x.carry; zf = eqb x.value 0; sf = not x.carry }) n t

-- C Z C
abbrev pub acc_borrowed : Core → Made → ℕ → ℕ → Act
acc_borrowed m x n t = goes_past m (record { acc = x.value; hr = m.regs.hr; lr = m.regs.lr; cf = x.carry; zf = eqb x.value 0; sf = x.carry }) n t

-- C Z Z'
abbrev pub compared : Core → Made → ℕ → ℕ → Act
compared m x n t = goes_past m (flagged m.regs x.carry (eqb x.value 0) (not (eqb x.value 0))) n t

-- - - *
abbrev pub tested : Core → Bool → ℕ → ℕ → Act
tested m answer n t = goes_past m (flagged m.regs m.regs.cf m.regs.zf answer) n t

-- 0 - * and 1 - *
abbrev pub cf_tested : Core → Bool → Bool → ℕ → ℕ → Act
cf_tested m cf answer n t = goes_past m (flagged m.regs cf m.regs.zf answer) n t

-- - - 1
abbrev pub went_on : Core → ℕ → ℕ → Act
went_on m n t = tested m true n t

-- - - -
abbrev pub nothing : Core → ℕ → ℕ → Act
nothing m n t = goes_past m m.regs n t

-- a branch that is taken
abbrev pub jumped : Core → ℕ → ℕ → Act
jumped m pc t = record { cycles = t; pc = pc; regs = flagged m.regs m.regs.cf m.regs.zf true }

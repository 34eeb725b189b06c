-- Document 01, "Instructions" and "One step": the stack's levels, and what a call, an acceptance, RET and RTI make of the record.
use Rattle.std.specs.Prelude.{ℕ, ◌+◌, ◌-◌, ◌*◌, ◌/◌, ◌%◌, ◌^◌, ◌≤◌, Bool, true, false, List, [], ◌∷◌, leb, get_or, set}
use Rattle.laws.specs.Choice.{both}
use Rattle.bits.specs.Bits.{has_bit, without_bit, bit_of}
use Rattle.record.specs.With.{core_with_regs, core_with_pc, core_with_ptrs, core_with_ints, interrupts_of}
use Rattle.record.specs.declared.Registers.{Registers}
use Rattle.record.specs.declared.Interrupts.{Interrupts}
use Rattle.record.specs.declared.Core.{Core}
use Rattle.record.specs.declared.Machine.{Machine}

-- "Stack level n is the four nibbles at 0C0h + 4n": up to 0F3h a place is its address
abbrev pub level : ℕ → ℕ
level n = 0x0C0 + 4 * n

-- "PC3..0, PC7..4, PC11..8, then PC12, CF, ZF, SF from bit 0 up": the fourth nibble is top
abbrev pub stored : List ℕ → ℕ → ℕ → ℕ → List ℕ
stored ram n pc top =
    set (set (set (set ram (level n) (pc % 16)) (level n + 1) (pc / 16 % 16)) (level n + 2) (pc / 256 % 16)) (level n + 3) top

abbrev pub top_of : ℕ → Registers → ℕ
top_of pc r = pc / 4096 + 2 * bit_of r.cf + 4 * bit_of r.zf + 8 * bit_of r.sf

abbrev pub top_at : List ℕ → ℕ → ℕ
top_at ram n = get_or ram (level n + 3) 0

abbrev pub pc_at : List ℕ → ℕ → ℕ
pc_at ram n = get_or ram (level n) 0 + 16 * get_or ram (level n + 1) 0 + 256 * get_or ram (level n + 2) 0 + 4096 * (top_at ram n % 2)

-- "A call keeps the three flag bits of its nibble."
abbrev pub kept_top : ℕ → ℕ → ℕ
kept_top pc old = pc / 4096 + 2 * (old / 2)

-- "A call or acceptance lowers SP first, so SP must be 1 to 13. RET and RTI read level SP, then raise it: 0 to 12."
abbrev pub can_push : Core → Bool
can_push m = both (leb 1 m.ptrs.sp) (leb m.ptrs.sp 13)

abbrev pub can_pop : Core → Bool
can_pop m = leb m.ptrs.sp 12

-- the same as numbers
pub record CanPush (m : Core) : Type 0 where
  pub above : 1 ≤ m.ptrs.sp
  pub below : m.ptrs.sp ≤ 13

pub record CanPop (m : Core) : Type 0 where
  pub below : m.ptrs.sp ≤ 12

-- the scalars with other registers, PC, SP and interrupt bits
abbrev pub moved : Core → Registers → ℕ → ℕ → Interrupts → Core
moved m regs pc sp ints =
    core_with_ints (core_with_ptrs (core_with_pc (core_with_regs m regs) pc) (record { sp = sp; dp = m.ptrs.dp })) ints

abbrev pub pushed : Machine → ℕ → ℕ → Machine
pushed m ret top =
    let sp = m.core.ptrs.sp - 1 in
    record { core = moved m.core m.core.regs m.core.pc sp m.core.ints; ram = stored m.ram sp ret top }

abbrev pub popped : Machine → Machine
popped m =
    let sp = m.core.ptrs.sp in
    record { core = moved m.core m.core.regs (pc_at m.ram sp) (sp + 1) m.core.ints; ram = m.ram }

-- a call: ret is where it returns to
unfoldable pub called : Machine → ℕ → ℕ → Machine
called m ret target =
    let n = pushed m ret (kept_top ret (top_at m.ram (m.core.ptrs.sp - 1))) in
    record { core = moved n.core n.core.regs target n.core.ptrs.sp n.core.ints; ram = n.ram }

-- "IL5, IL3, IL2, IL1, IL0; entries 002h, 006h, 008h, 00Ah, 00Ch": by the latch's number from 0 up. IL4 is always clear
abbrev pub interrupt_entry : ℕ → ℕ
interrupt_entry latch = get_or (0x00C ∷ 0x00A ∷ 0x008 ∷ 0x006 ∷ 0x004 ∷ 0x002 ∷ []) latch 0

abbrev pub with_flags : Registers → Bool → Bool → Bool → Registers
with_flags r cf zf sf = record { acc = r.acc; hr = r.hr; lr = r.lr; cf = cf; zf = zf; sf = sf }

-- "Acceptance pushes PC and flags, sets SF, clears EI and that latch"
unfoldable pub accepted : Machine → ℕ → Machine
accepted m latch =
    let r = m.core.regs in
    let i = m.core.ints in
    let n = pushed m m.core.pc (top_of m.core.pc r) in
    record {
      core =
          moved n.core (with_flags r r.cf r.zf true) (interrupt_entry latch) n.core.ptrs.sp
          (interrupts_of false (without_bit i.il (2 ^ latch)) i.mask);
      ram = n.ram;
    }

-- RTI: PC and SP as RET, and the flags and EI
unfoldable pub flags_returned : Machine → Machine
flags_returned m =
    let n = popped m in
    let top = top_at m.ram m.core.ptrs.sp in
    let i = m.core.ints in
    record {
      core =
          moved n.core (with_flags m.core.regs (has_bit top 2) (has_bit top 4) (has_bit top 8)) n.core.pc n.core.ptrs.sp
          (interrupts_of true i.il i.mask);
      ram = n.ram;
    }

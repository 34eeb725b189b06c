-- Each use of the stack makes a valid record of a valid one.
use Prim.Native.Nat.{ℕ, ◌+◌, ◌-◌, ◌/◌, ◌%◌, ◌^◌, ◌<◌}
use mathlib.Core.Path.{◌≡◌}
use native.Mathlib.Omega.{arith}
use lib.Dec.{eqb, eqb→eq, ltb, ltb→lt}
use borrow.Author.Tests.{eq-eqb}
use Rattle.bits.specs.Bits.{without_bit}
use Rattle.bits.proofs.Laws.{without_le}
use Rattle.laws.proofs.Computed.{below, implies, at, modus, true→T}
use Rattle.device.specs.declared.Device.{Device}
use Rattle.record.specs.Valid.{ValidRegisters, ValidInterrupts, ValidCore, Valid}
use Rattle.record.specs.Stack.{CanPush, CanPop, level, top_of, top_at, kept_top, moved, pushed, popped, called, accepted, interrupt_entry, flags_returned}
use Rattle.record.specs.declared.Registers.{Registers}
use Rattle.record.specs.declared.Interrupts.{Interrupts}
use Rattle.record.specs.declared.Core.{Core}
use Rattle.record.specs.declared.Machine.{Machine}
use Rattle.record.proofs.Interrupting.{made_valid}
use Rattle.record.proofs.WithValid.{with_regs, with-pc, with-ptrs, with-ints}
use Rattle.record.proofs.Levels.{stored_nibbles, pc_at_lt, top_lt, kept_lt}

-- other registers, PC, SP and interrupt bits in a valid record
pub moved_valid : {d : Device} {m : Core} {r : Registers} {pc sp : ℕ} {i : Interrupts} → ValidCore d m → ValidRegisters r → pc < 8192 → sp < 16 → ValidInterrupts i → ValidCore d (moved m r pc sp i)
moved_valid v hr hp hs hi = with-ints (with-ptrs (with-pc (with_regs v hr) hp) (record { sp = hs; dp = v.ptrs.dp })) hi

pub pushed_valid : {d : Device} (m : Machine) (ret top : ℕ) → Valid d m → CanPush m.core → top < 16 → Valid d (pushed m ret top)
pushed_valid m ret top v c h = record {
  core = moved_valid v.core v.core.regs v.core.pc (omega arith) v.core.ints;
  ram = stored_nibbles m.ram (m.core.ptrs.sp - 1) ret top v.ram h;
}

pub popped_valid : {d : Device} (m : Machine) → Valid d m → CanPop m.core → Valid d (popped m)
popped_valid m v c = record {
  core = moved_valid v.core v.core.regs (pc_at_lt m.ram m.core.ptrs.sp v.ram c.below) (omega arith) v.core.ints;
  ram = v.ram;
}

pub called_valid : {d : Device} (m : Machine) (ret target : ℕ) → Valid d m → CanPush m.core → ret < 8192 → target < 8192 → Valid d (called m ret target)
unfolding called
called_valid m ret target v c hr ht =
    let old = v.ram.each (level (m.core.ptrs.sp - 1) + 3) (omega arith) in
    let n = pushed_valid m ret (kept_top ret (top_at m.ram (m.core.ptrs.sp - 1))) v c (kept_lt ret (top_at m.ram (m.core.ptrs.sp - 1)) hr old) in
    record {
      core = moved_valid n.core n.core.regs ht n.core.ptrs.sp n.core.ints;
      ram = n.ram;
    }

entry_lt : (latch : ℕ) → latch < 6 → interrupt_entry latch < 8192
entry_lt latch h = ltb→lt (interrupt_entry latch) 8192 (at (λ l. ltb (interrupt_entry l) 8192) 6 tt latch h)

still_clear : (il latch : ℕ) → il < 64 → il / 16 % 2 ≡ 0 → latch < 6 → without_bit il (2 ^ latch) / 16 % 2 ≡ 0
still_clear il latch h e l =
    eqb→eq (without_bit il (2 ^ latch) / 16 % 2) 0
    (modus (eqb (il / 16 % 2) 0) (eqb (without_bit il (2 ^ latch) / 16 % 2) 0)
    (at (λ l. implies (eqb (il / 16 % 2) 0) (eqb (without_bit il (2 ^ l) / 16 % 2) 0)) 6
    (at (λ n. below 6 (λ l. implies (eqb (n / 16 % 2) 0) (eqb (without_bit n (2 ^ l) / 16 % 2) 0))) 64 tt il h) latch l)
    (true→T (eq-eqb (il / 16 % 2) 0 e)))

pub accepted_valid : {d : Device} (m : Machine) (latch : ℕ) → Valid d m → CanPush m.core → latch < 6 → Valid d (accepted m latch)
unfolding accepted
accepted_valid m latch v c h =
    let i = v.core.ints in
    let n = pushed_valid m m.core.pc (top_of m.core.pc m.core.regs) v c (top_lt m.core.pc m.core.regs v.core.pc) in
    let r = v.core.regs in
    record {
      core =
          moved_valid n.core (record { acc = r.acc; hr = r.hr; lr = r.lr }) (entry_lt latch h) n.core.ptrs.sp
          (made_valid (omega (arith, without_le m.core.ints.il (2 ^ latch), i.il)) (still_clear m.core.ints.il latch i.il i.il4 h) i.mask);
      ram = n.ram;
    }

pub flags_returned_valid : {d : Device} (m : Machine) → Valid d m → CanPop m.core → Valid d (flags_returned m)
unfolding flags_returned
flags_returned_valid m v c =
    let n = popped_valid m v c in
    let i = v.core.ints in
    let r = v.core.regs in
    record {
      core =
          moved_valid n.core (record { acc = r.acc; hr = r.hr; lr = r.lr }) n.core.pc n.core.ptrs.sp
          (made_valid i.il i.il4 i.mask);
      ram = n.ram;
    }

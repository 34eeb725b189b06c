-- What a call or an acceptance pushed comes back.
use Prim.Native.Nat.{ℕ, ◌-◌, ◌/◌, ◌%◌, ◌<◌}
use mathlib.Core.Path.{◌≡◌}
use native.Mathlib.Omega.{arith}
use lib.Dec.{T}
use Rattle.record.specs.Valid.{Nibbles}
use Rattle.record.specs.Stack.{CanPush, top_of, top_at, kept_top, pushed, popped, called, accepted, flags_returned}
use Rattle.record.specs.declared.Machine.{Machine}
use Rattle.record.proofs.Levels.{top-cf, top-zf, top-sf, top-pc, top_back, pc-back}

-- RET after a push gives PC and SP back
pub push_pop_pc : (m : Machine) (ret top : ℕ) → Nibbles m.ram → CanPush m.core → ret < 8192 → top % 2 ≡ ret / 4096 → (popped (pushed m ret top)).core.pc ≡ ret
push_pop_pc m ret top n c h e = pc-back m.ram (m.core.ptrs.sp - 1) ret top (omega (arith, n.size)) h e

pub push_pop_sp : (m : Machine) (ret top : ℕ) → CanPush m.core → (popped (pushed m ret top)).core.ptrs.sp ≡ m.core.ptrs.sp
push_pop_sp m ret top c = omega (arith, c.above)

-- RET after a call goes where the call returns to
pub call_return : (m : Machine) (ret target : ℕ) → Nibbles m.ram → CanPush m.core → ret < 8192 → (popped (called m ret target)).core.pc ≡ ret
unfolding called
call_return m ret target n c h =
    push_pop_pc m ret (kept_top ret (top_at m.ram (m.core.ptrs.sp - 1))) n c h (omega arith)

-- RTI after an acceptance: PC, SP and all registers, the flags among them, are as they were
pub record Resumed (m n : Machine) : Type 0 where
  pub pc : n.core.pc ≡ m.core.pc
  pub sp : n.core.ptrs.sp ≡ m.core.ptrs.sp
  pub regs : n.core.regs ≡ m.core.regs
  pub ei : T n.core.ints.ei

pub accept_return : (m : Machine) (latch : ℕ) → Nibbles m.ram → CanPush m.core → m.core.pc < 8192 → Resumed m (flags_returned (accepted m latch))
unfolding accepted flags_returned
accept_return m latch n c h =
    let pc = m.core.pc in
    let r = m.core.regs in
    let sp = m.core.ptrs.sp - 1 in
    record {
      pc = push_pop_pc m pc (top_of pc r) n c h (top-pc pc r h);
      sp = push_pop_sp m pc (top_of pc r) c;
      regs = rw (top_back m.ram sp pc (top_of pc r) (omega (arith, n.size)), top-cf pc r h, top-zf pc r h, top-sf pc r h);
      ei = tt;
    }

-- Executing any row of the sheet on a valid, running record gives a valid record.
use Prim.Native.Nat.{ℕ, ◌+◌, ◌*◌, ◌/◌, ◌%◌, ◌<◌}
use mathlib.Core.Bool.{Bool, true, false}
use mathlib.Core.Path.{◌≡◌}
use native.Mathlib.Omega.{arith}
use lib.Dec.{T, eqb, eqb→eq, leb, leb→le, ltb, ltb→lt}
use lib.Bits.{bit_and}
use borrow.Author.Tests.{eq-eqb}
use Rattle.numbers.specs.ComesBack.{stack_level}
use Rattle.laws.specs.Choice.{pick, both}
use Rattle.laws.proofs.Computed.{below, implies, at, modus, true→T, both_left, both_right}
use Rattle.device.specs.declared.Device.{Device}
use Rattle.sheet.specs.Operation.{Step, After, Target, Entry, Enable, Operation}
use Rattle.sheet.specs.Table.{Line, line_at}
use Rattle.sheet.specs.Fields.{field_a}
use Rattle.sheet.specs.Flow.{target_of, call_entry}
use Rattle.alu.specs.Making.{value_and_carry}
use Rattle.alu.specs.declared.Made.{Made}
use Rattle.ports.specs.declared.Mode.TheVariants.{Running}
use Rattle.record.specs.Valid.{Valid}
use Rattle.record.specs.Stack.{CanPop, popped, flags_returned}
use Rattle.record.specs.declared.Machine.{Machine}
use Rattle.record.proofs.Interrupting.{made_valid}
use Rattle.record.proofs.StackValid.{called_valid, popped_valid, flags_returned_valid}
use Rattle.row.specs.Places.{Around, with_pc}
use Rattle.row.specs.Rows.{spent, stops, pc_past, with_marks, worked, work_of, branch_of, call_of, returned, latches_of, performed, executed}
use Rattle.row.proofs.PortsValid.{chosen_lt}
use Rattle.row.proofs.PutValid.{regs_valid, pc_valid}
use Rattle.row.proofs.StepsValid.{fits_step, fits_after, worked-valid}

-- the field of a branch, of a call and of the r of IL←IL & r holds no more than its target or its latches do
abbrev pub fits_target : ℕ → Target → Bool
fits_target n Target.page = leb n 64
fits_target n Target.half = leb n 4096
fits_target n Target.whole = leb n 8192

abbrev pub fits_entry : ℕ → Entry → Bool
fits_entry n Entry.long = leb n 8192
fits_entry n Entry.short = leb n 1023

abbrev pub fits_operation : ℕ → Operation → Bool
fits_operation n (Operation.work s a) = both (fits_step n s) (fits_after n a)
fits_operation n (Operation.branch t) = fits_target n t
fits_operation n (Operation.call e) = fits_entry n e
fits_operation n Operation.return = true
fits_operation n Operation.return_flag = true
fits_operation n (Operation.IL⟵IL-and-r e) = leb n 64
fits_operation n Operation.no_operation = true

-- one computation over the sheet's lines
pub line_fits : (k : ℕ) → k < 108 → T (fits_operation (field_a (line_at k).codes) (line_at k).operation)
unfolding line_at
line_fits k h = at (λ k. fits_operation (field_a (line_at k).codes) (line_at k).operation) 108 tt k h

pub target_lt : (n : ℕ) (t : Target) (pc a : ℕ) → pc < 8192 → a < n → T (fits_target n t) → target_of t pc a < 8192
target_lt n Target.page pc a h k t = omega (arith, leb→le n 64 t)
target_lt n Target.half pc a h k t = omega (arith, leb→le n 4096 t)
target_lt n Target.whole pc a h k t = omega (arith, leb→le n 8192 t)

entry_lt : (n : ℕ) (e : Entry) (a : ℕ) → a < n → T (fits_entry n e) → call_entry e a < 8192
entry_lt n Entry.long a k t = omega (arith, leb→le n 8192 t)
entry_lt n Entry.short a k t = chosen_lt (eqb a 0) 0x86 (8 * a + 6) (omega arith) (omega (arith, leb→le n 1023 t))

-- IL & r: no more latches than there were, IL4 clear
latches_lt : (il r : ℕ) → il < 64 → r < 64 → bit_and il r < 64
latches_lt il r h k = ltb→lt (bit_and il r) 64 (at (λ r. ltb (bit_and il r) 64) 64 (at (λ il. below 64 (λ r. ltb (bit_and il r) 64)) 64 tt il h) r k)

latches_clear : (il r : ℕ) → il < 64 → r < 64 → il / 16 % 2 ≡ 0 → bit_and il r / 16 % 2 ≡ 0
latches_clear il r h k e =
    eqb→eq (bit_and il r / 16 % 2) 0
    (modus (eqb (il / 16 % 2) 0) (eqb (bit_and il r / 16 % 2) 0)
    (at (λ r. implies (eqb (il / 16 % 2) 0) (eqb (bit_and il r / 16 % 2) 0)) 64
    (at (λ il. below 64 (λ r. implies (eqb (il / 16 % 2) 0) (eqb (bit_and il r / 16 % 2) 0))) 64 tt il h) r k)
    (true→T (eq-eqb (il / 16 % 2) 0 e)))

flags_valid : {d : Device} (m : Machine) (l : Line) (x : Made) → Valid d m → Valid d (with_marks m l x)
flags_valid m l x h = regs_valid h (record { acc = h.core.regs.acc; hr = h.core.regs.hr; lr = h.core.regs.lr })

picked_valid : {d : Device} (t : Bool) (c s : ℕ) (n m : Machine) → (T t → Valid d n) → Valid d m → Valid d (pick t (spent c n) (stops s m)).machine
picked_valid true c s n m h k = h tt
picked_valid false c s n m h k = k

module _ (w : Around) (m : Machine) (valid : Valid w.options.device m) (running : m.core.mode ≡ Running) (bytes : (at : ℕ) → w.rom at < 256) where
  past-valid : (l : Line) (x : Machine) (y : Made) → Valid w.options.device x → Valid w.options.device (with_pc (with_marks x l y) (pc_past m l))
  past-valid l x y h = pc_valid (flags_valid x l y h) (omega arith)

  latches-valid : (l : Line) (e : Enable) → w.insn.a < 64 → Valid w.options.device (latches_of m w l e).machine
  unfolding latches_of
  latches-valid l e h =
      let i = valid.core.ints in
      let f = past-valid l m (value_and_carry 0 false) valid in
      record {
        core = record {
          regs = f.core.regs;
          pc = f.core.pc;
          ptrs = f.core.ptrs;
          ints = made_valid (latches_lt m.core.ints.il w.insn.a i.il h) (latches_clear m.core.ints.il w.insn.a i.il h i.il4) i.mask;
          timers = f.core.timers;
          ports = f.core.ports;
          pins = f.core.pins;
          mode = f.core.mode;
        };
        ram = f.ram;
      }

  work-valid : (n : ℕ) (l : Line) (s : Step) (a : After) → w.insn.a < n → T (both (fits_step n s) (fits_after n a)) → Valid w.options.device (work_of m w l s a).machine
  unfolding work_of
  work-valid n l s a h t =
      picked_valid (eqb (worked m w s a).stop 0) l.cycles (worked m w s a).stop _ m
      (λ q. past-valid l (worked m w s a).machine (worked m w s a).made (worked-valid w bytes n h m s a valid running t)) valid

  branch-valid : (n : ℕ) (l : Line) (t : Target) → w.insn.a < n → T (fits_target n t) → Valid w.options.device (branch_of m w l t).machine
  unfolding branch_of
  branch-valid n l t h f =
      pc_valid (flags_valid m l (value_and_carry 0 false) valid)
      (chosen_lt m.core.regs.sf (target_of t m.core.pc w.insn.a) (pc_past m l) (target_lt n t m.core.pc w.insn.a valid.core.pc h f) (omega arith))

  call-valid : (n : ℕ) (l : Line) (e : Entry) → w.insn.a < n → T (fits_entry n e) → Valid w.options.device (call_of m w l e).machine
  unfolding call_of
  call-valid n l e h f =
      let sp = m.core.ptrs.sp in
      picked_valid (both (leb 1 sp) (leb sp 13)) l.cycles stack_level _ m
      (λ q. called_valid m (pc_past m l) (call_entry e w.insn.a) valid (record { above = leb→le 1 sp (both_left (leb 1 sp) (leb sp 13) q); below = leb→le sp 13 (both_right (leb 1 sp) (leb sp 13) q) }) (omega arith) (entry_lt n e w.insn.a h f)) valid

  returned-valid : (l : Line) (n : Machine) → (CanPop m.core → Valid w.options.device n) → Valid w.options.device (returned m l n).machine
  returned-valid l n h = picked_valid (leb m.core.ptrs.sp 12) l.cycles stack_level n m (λ q. h (record { below = leb→le m.core.ptrs.sp 12 q })) valid

  performed-valid : (n : ℕ) (l : Line) (o : Operation) → w.insn.a < n → T (fits_operation n o) → Valid w.options.device (performed m w l o).machine
  performed-valid n l (Operation.work s a) h t = work-valid n l s a h t
  performed-valid n l (Operation.branch t) h f = branch-valid n l t h f
  performed-valid n l (Operation.call e) h t = call-valid n l e h t
  performed-valid n l Operation.return h t = returned-valid l (popped m) (popped_valid m valid)
  performed-valid n l Operation.return_flag h t = returned-valid l (flags_returned m) (flags_returned_valid m valid)
  performed-valid n l (Operation.IL⟵IL-and-r e) h t = latches-valid l e (omega (arith, leb→le n 64 t))
  performed-valid n l Operation.no_operation h t = past-valid l m (value_and_carry 0 false) valid

  -- a row with its operand in its field
  pub executed-valid : w.insn.row < 108 → w.insn.a < field_a (line_at w.insn.row).codes → Valid w.options.device (executed w m).machine
  executed-valid r h = performed-valid (field_a (line_at w.insn.row).codes) (line_at w.insn.row) (line_at w.insn.row).operation h (line_fits w.insn.row r)

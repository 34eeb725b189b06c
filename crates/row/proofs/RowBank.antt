-- A row that writes none of the ports that the bound excludes leaves P3. Q-6: "any row writing P3, by set or clear too, joins the bound's excluded rows"; PORT[LR₃₋₂+4] is one of 4 to 7, and the EM73862 has no P3 to write.
use mathlib.Core.Path.{◌≡◌, refl, sym, subst, ap, ◌∙◌}
use mathlib.Core.Bool.{Bool, true, false}
use Prim.Native.Nat.{ℕ, ◌<◌}
use native.Mathlib.Omega.{arith}
use lib.Dec.{T, eqb}
use borrow.Author.Tests.{ne_eqb}
use Rattle.laws.specs.Among.{among}
use Rattle.laws.specs.Choice.{either, both}
use Rattle.laws.proofs.Computed.{both_left, both_right}
use Rattle.laws.proofs.Choices.{picked, picked_by}
use Rattle.device.specs.Device.{guarded}
use Rattle.device.specs.declared.Device.{Device}
use Rattle.device.specs.declared.Device.TheVariants.{Em73862, Em73P982}
use Rattle.sheet.specs.Operation.{Port, Step, After}
use Rattle.sheet.specs.Table.{Line}
use Rattle.sheet.specs.declared.Insn.{Insn}
use Rattle.frame.specs.declared.Pins.{Pins}
use Rattle.ports.specs.Ports.{with_latch, is_readable, read_port, is_writable, write_stop, write_port, ReadDone, WriteDone}
use Rattle.ports.specs.declared.Ports.{Ports}
use Rattle.record.specs.declared.Registers.{Registers}
use Rattle.record.specs.declared.Machine.{Machine}
use Rattle.row.specs.Places.{Around, with_ports, port_of, port_read, port_written}
use Rattle.row.specs.Rows.{work_of}
use Rattle.row.specs.Columns.{is_port, work_puts}
use Rattle.row.proofs.Keeps.{putting, work-keeps, work-keeps-but}
use Rattle.row.proofs.StepsValid.{fits_step, fits_after}
use Rattle.row.proofs.RowMode.{LowLr, low-in, low-after}

-- another latch set
other_latch : (p : Ports) (n v : ℕ) → (n ≡ 3 → ⊥) → (with_latch p n v).p3 ≡ p.p3
unfolding with_latch
other_latch p n v h = rw (ne_eqb n 3 h)

-- "Reading or testing P4 or P8 .. sets the latch to 15"
read_not_3 : (n : ℕ) → T (either (eqb n 4) (eqb n 8)) → n ≡ 3 → ⊥
read_not_3 n t e = rw e at t

read_bank : (d : Device) (sound : Bool) (pins : Pins) (p : Ports) (n : ℕ) → (read_port d sound pins p n).ports.p3 ≡ p.p3
unfolding read_port
read_bank d sound pins p n =
    picked (λ (r : ReadDone). r.ports.p3 ≡ p.p3) (is_readable n) _ _
    (picked_by (λ (q : Ports). q.p3 ≡ p.p3) (either (eqb n 4) (eqb n 8)) (with_latch p n 15) p (λ t. other_latch p n 15 (read_not_3 n t)) refl) refl

-- P3 is guarded where it can be written
free_not_3 : (d : Device) (n : ℕ) → among (guarded d) n ≡ false → n ≡ 3 → is_writable d n ≡ false
free_not_3 Em73862 n f e = rw e
free_not_3 Em73P982 n f e = absurd (subst T (rw e at f) tt)

write_bank : (d : Device) (p : Ports) (n v : ℕ) → among (guarded d) n ≡ false → (write_port d p n v).ports.p3 ≡ p.p3
unfolding write_port write_stop
write_bank d p n v f =
    picked_by (λ (r : WriteDone). r.ports.p3 ≡ p.p3) (eqb (write_stop d n v) 0) _ _
    (λ t. other_latch _ n v (λ e. rw (free_not_3 d n f e) at t)) refl

-- PORT[LR₃₋₂+4] is none of them
low_free : (d : Device) (n : ℕ) → 3 < n → n < 8 → among (guarded d) n ≡ false
low_free Em73862 n h k = rw (ne_eqb n 16 (omega arith))
low_free Em73P982 n h k = rw (ne_eqb n 16 (omega arith), ne_eqb n 3 (omega arith))

port_free : (d : Device) (r : Registers) (i : Insn) (p : Port) → among (guarded d) i.b ≡ false → r.lr < 16 → among (guarded d) (port_of r i p) ≡ false
port_free d r i Port.pins_p f h = f
port_free d r i Port.pins_l f h = low_free d _ (omega arith) (omega arith)
port_free d r i Port.latch_p f h = f
port_free d r i Port.latch_l f h = low_free d _ (omega arith) (omega arith)

module _ (w : Around) (n : ℕ) (m : Machine) (l : Line) (s : Step) (a : After) where
  reads : (k : Machine) (q : Port) → (with_ports k (port_read k w q).ports).core.ports.p3 ≡ k.core.ports.p3
  reads k q = read_bank w.options.device w.options.sound k.core.pins k.core.ports (port_of k.core.regs w.insn q)

  -- a row that writes no port
  no_port : work_puts is_port s a ≡ false → (work_of m w l s a).machine.core.ports.p3 ≡ m.core.ports.p3
  no_port =
      work-keeps-but (λ k. k.core.ports.p3) w reads (λ k q. refl) (λ k r pc. refl) is_port
      (λ k p v e. putting {P = λ j. j.core.ports.p3 ≡ k.core.ports.p3} {w = w} p (record { same = refl; regs = λ r. refl; ram = λ r. refl; ports = λ q is. absurd (subst T (sym (ap is_port is) ∙ e) tt); ptrs = λ q. refl; timers = λ t. refl; ints = λ i e. refl }))
      m l s a

  module _ (f : T (both (fits_step n s) (fits_after n a))) (h : m.core.regs.lr < 16) where
    -- a row whose p is none of them
    free-port : among (guarded w.options.device) w.insn.b ≡ false → (work_of m w l s a).machine.core.ports.p3 ≡ m.core.ports.p3
    free-port free =
        work-keeps (λ k. k.core.ports.p3) w reads (λ k q. refl) (λ k r pc. refl) LowLr
        (λ k p v low. putting {P = λ j. j.core.ports.p3 ≡ k.core.ports.p3} {w = w} p (record { same = refl; regs = λ r. refl; ram = λ r. refl; ports = λ q is. written k q v (low (rw is tt)); ptrs = λ q. refl; timers = λ t. refl; ints = λ i e. refl }))
        m l s a (low-in w n m s (both_left (fits_step n s) (fits_after n a) f) (λ t. h)) (low-after w n m s a (both_right (fits_step n s) (fits_after n a) f))
      where
        written : (k : Machine) (q : Port) (v : ℕ) → k.core.regs.lr < 16 → (port_written w.options.device k (port_of k.core.regs w.insn q) v).core.ports.p3 ≡ k.core.ports.p3
        written k q v low = write_bank w.options.device k.core.ports (port_of k.core.regs w.insn q) v (port_free w.options.device k.core.regs w.insn q free low)

    by-writing : (t : Bool) → work_puts is_port s a ≡ t → both t (among (guarded w.options.device) w.insn.b) ≡ false → (work_of m w l s a).machine.core.ports.p3 ≡ m.core.ports.p3
    by-writing true e free = free-port free
    by-writing false e free = no_port e

    pub work-bank : both (work_puts is_port s a) (among (guarded w.options.device) w.insn.b) ≡ false → (work_of m w l s a).machine.core.ports.p3 ≡ m.core.ports.p3
    work-bank free = by-writing (work_puts is_port s a) refl free

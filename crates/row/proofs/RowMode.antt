-- A row whose p is not 16 leaves the mode: "Writing P16 with bit 2 set enters hold .. or sleep", and PORT[LR₃₋₂+4] is one of 4 to 7.
use mathlib.Core.Path.{◌≡◌, refl}
use mathlib.Core.Bool.{not}
use Prim.Native.Nat.{ℕ, ◌<◌}
use native.Mathlib.Omega.{arith}
use lib.Dec.{T}
use borrow.Author.Tests.{ne_eqb}
use Rattle.laws.specs.Choice.{either, both}
use Rattle.laws.proofs.Computed.{both_left, both_right}
use Rattle.laws.proofs.Choices.{refuted, either_left, not_left, not_right}
use Rattle.sheet.specs.Operation.{Port, Place, Step, After}
use Rattle.sheet.specs.Table.{Line}
use Rattle.sheet.specs.declared.Insn.{Insn}
use Rattle.record.specs.declared.Registers.{Registers}
use Rattle.record.specs.declared.Machine.{Machine}
use Rattle.row.specs.Places.{Around, port_of, port_written}
use Rattle.row.specs.Steps.{operation_step}
use Rattle.row.specs.Rows.{work_of}
use Rattle.row.specs.Columns.{is_port}
use Rattle.row.proofs.Keeps.{reading, putting, AllowedIn, AllowedAfter, work-keeps}
use Rattle.row.proofs.StepsValid.{low_place, fits_step, uses_port, fits_after}

port_not_16 : (r : Registers) (i : Insn) (p : Port) → (i.b ≡ 16 → ⊥) → r.lr < 16 → port_of r i p ≡ 16 → ⊥
port_not_16 r i Port.pins_p n h e = n e
port_not_16 r i Port.pins_l n h e = omega arith
port_not_16 r i Port.latch_p n h e = n e
port_not_16 r i Port.latch_l n h e = omega arith

-- a port is put to only in a record whose LR is a nibble: an exchange names no port, nor does a second step
abbrev pub LowLr : Machine → Place → Type 0
LowLr m p = T (is_port p) → m.core.regs.lr < 16

module _ (w : Around) (n : ℕ) where
  pub low-in : (m : Machine) (s : Step) → T (fits_step n s) → (T (uses_port s) → m.core.regs.lr < 16) → AllowedIn w LowLr m s
  low-in m (Step.put d o x y) f h = λ t. reading (λ k. k.core.regs.lr < 16) m w x (h (either_left (is_port d) (is_port x) t)) (λ q. h (either_left (is_port d) (is_port x) t))
  low-in m (Step.exchange d x) f h =
      let apart = both_right (both (low_place n d) (low_place n x)) (not (either (is_port d) (is_port x))) f in
      (λ t. absurd (not_left (is_port d) (is_port x) apart t), λ t. absurd (not_right (is_port d) (is_port x) apart t))
  low-in m Step.DP+1 f h = tt

  low_second : (m : Machine) (s : Step) → T (both (fits_step n s) (not (uses_port s))) → AllowedIn w LowLr m s
  low_second m s f = low-in m s (both_left (fits_step n s) (not (uses_port s)) f) (λ t. absurd (refuted (uses_port s) (both_right (fits_step n s) (not (uses_port s)) f) t))

  pub low-after : (m : Machine) (s : Step) (a : After) → T (fits_after n a) → AllowedAfter w LowLr m s a
  low-after m s After.alone f = tt
  low-after m s (After.flags_of t) f = low_second (operation_step m w s).machine t f
  low-after m s (After.flags_before t) f = low_second (operation_step m w s).machine t f

  pub work_mode : (w.insn.b ≡ 16 → ⊥) → (m : Machine) (l : Line) (s : Step) (a : After) → T (both (fits_step n s) (fits_after n a)) → m.core.regs.lr < 16 → (work_of m w l s a).machine.core.mode ≡ m.core.mode
  work_mode not_16 m l s a f h =
      work-keeps (λ k. k.core.mode) w (λ k q. refl) (λ k q. refl) (λ k r pc. refl) LowLr
      (λ k p v low. putting {P = λ j. j.core.mode ≡ k.core.mode} {w = w} p (record { same = refl; regs = λ r. refl; ram = λ r. refl; ports = λ q is. written k q v (low (rw is tt)); ptrs = λ q. refl; timers = λ t. refl; ints = λ i e. refl }))
      m l s a (low-in m s (both_left (fits_step n s) (fits_after n a) f) (λ t. h)) (low-after m s a (both_right (fits_step n s) (fits_after n a) f))
    where
      written : (k : Machine) (q : Port) (v : ℕ) → k.core.regs.lr < 16 → (port_written w.options.device k (port_of k.core.regs w.insn q) v).core.mode ≡ k.core.mode
      written k q v low = rw (ne_eqb (port_of k.core.regs w.insn q) 16 (port_not_16 k.core.regs w.insn q not_16 low))

-- What a row leaves as it was: one law over any part of the record, or any number made of it.
use Prim.Native.Nat.{ℕ}
use mathlib.Core.Bool.{Bool, false}
use mathlib.Core.List.{List}
use mathlib.Core.Path.{◌≡◌, refl, ◌∙◌}
use lib.Dec.{eqb}
use Rattle.laws.proofs.Choices.{picked, neither_left, neither_right}
use Rattle.sheet.specs.Operation.{Port, Pointer, Place, Step, After}
use Rattle.sheet.specs.Table.{Line}
use Rattle.record.specs.declared.Registers.{Registers}
use Rattle.record.specs.declared.Pointers.{Pointers}
use Rattle.record.specs.declared.Interrupts.{Interrupts}
use Rattle.record.specs.declared.Timers.{Timers}
use Rattle.record.specs.declared.Machine.{Machine}
use Rattle.row.specs.Places.{Around, with_registers, with_pc, with_pointers, with_interrupts, with_timers, with_ports, with_ram, port_of, port_read, port_written, get_of, after_reading, put_of}
use Rattle.row.specs.Steps.{put_step, exchange_step, operation_step}
use Rattle.row.specs.Rows.{Done, worked, work_of}
use Rattle.row.specs.Columns.{step_puts, after_puts, work_puts}

-- reading a place touches at most the latches, as reading a port does
pub reading : (P : Machine → Type 0) (m : Machine) (w : Around) (p : Place) → P m → ((q : Port) → P (with_ports m (port_read m w q).ports)) → P (after_reading m w p)
reading P m w (Place.register r) same ports = same
reading P m w (Place.given g) same ports = same
reading P m w (Place.cell c) same ports = same
reading P m w (Place.port Port.pins_p) same ports = ports Port.pins_p
reading P m w (Place.port Port.pins_l) same ports = ports Port.pins_l
reading P m w (Place.port Port.latch_p) same ports = same
reading P m w (Place.port Port.latch_l) same ports = same
reading P m w (Place.pointer p) same ports = same
reading P m w (Place.rom h) same ports = same
reading P m w Place.mask same ports = same

-- putting a nibble changes one part, by the kind of its place
pub record Changes (P : Machine → Type 0) (m : Machine) (w : Around) (p : Place) (v : ℕ) : Type 0 where
  pub same : P m
  pub regs : (r : Registers) → P (with_registers m r)
  pub ram : (l : List ℕ) → P (with_ram m l)
  pub ports : (q : Port) → p ≡ Place.port q → P (port_written w.options.device m (port_of m.core.regs w.insn q) v)
  pub ptrs : (q : Pointers) → P (with_pointers m q)
  pub timers : (t : Timers) → P (with_timers m t)
  pub ints : (i : Interrupts) → i.ei ≡ m.core.ints.ei → P (with_interrupts m i)

pub putting : {P : Machine → Type 0} {m : Machine} {w : Around} (p : Place) {v : ℕ} → Changes P m w p v → P (put_of m w p v).machine
putting (Place.register r) h = h.regs _
putting (Place.given g) h = h.same
putting (Place.cell c) h = h.ram _
putting (Place.port q) h = h.ports q refl
putting (Place.pointer Pointer.sp) h = h.ptrs _
putting (Place.pointer (Pointer.dp p)) h = h.ptrs _
putting (Place.pointer (Pointer.ta p)) h = h.timers _
putting (Place.pointer (Pointer.tb p)) h = h.timers _
putting (Place.rom g) h = h.same
putting Place.mask h = h.ints _ refl

-- each place that a step puts to is allowed, in the record that it is put to
module _ (w : Around) (Allowed : Machine → Place → Type 0) where
  abbrev pub AllowedIn : Machine → Step → Type 0
  AllowedIn m (Step.put d o x y) = Allowed (after_reading m w x) d
  AllowedIn m (Step.exchange d x) = Allowed m d × Allowed (put_of m w d (get_of m w x).value).machine x
  AllowedIn m Step.DP+1 = Unit

  abbrev pub AllowedAfter : Machine → Step → After → Type 0
  AllowedAfter m s After.alone = Unit
  AllowedAfter m s (After.flags_of t) = AllowedIn (operation_step m w s).machine t
  AllowedAfter m s (After.flags_before t) = AllowedIn (operation_step m w s).machine t

-- every place
abbrev pub Any : Machine → Place → Type 0
Any m p = Unit

pub any_in : (w : Around) (m : Machine) (s : Step) → AllowedIn w Any m s
any_in w m (Step.put d o x y) = tt
any_in w m (Step.exchange d x) = (tt, tt)
any_in w m Step.DP+1 = tt

pub any_after : (w : Around) (m : Machine) (s : Step) (a : After) → AllowedAfter w Any m s a
any_after w m s After.alone = tt
any_after w m s (After.flags_of t) = any_in w (operation_step m w s).machine t
any_after w m s (After.flags_before t) = any_in w (operation_step m w s).machine t

-- every place without a property
abbrev pub But : (Place → Bool) → Machine → Place → Type 0
But g m p = g p ≡ false

module _ (w : Around) (g : Place → Bool) where
  none_in : (m : Machine) (s : Step) → step_puts g s ≡ false → AllowedIn w (But g) m s
  none_in m (Step.put d o x y) e = e
  none_in m (Step.exchange d x) e = (neither_left (g d) (g x) e, neither_right (g d) (g x) e)
  none_in m Step.DP+1 e = tt

  none_after : (m : Machine) (s : Step) (a : After) → after_puts g a ≡ false → AllowedAfter w (But g) m s a
  none_after m s After.alone e = tt
  none_after m s (After.flags_of t) e = none_in (operation_step m w s).machine t e
  none_after m s (After.flags_before t) e = none_in (operation_step m w s).machine t e

  pub but_in : (m : Machine) (s : Step) (a : After) → work_puts g s a ≡ false → AllowedIn w (But g) m s
  but_in m s a e = none_in m s (neither_left (step_puts g s) (after_puts g a) e)

  pub but-after : (m : Machine) (s : Step) (a : After) → work_puts g s a ≡ false → AllowedAfter w (But g) m s a
  but-after m s a e = none_after m s a (neither_right (step_puts g s) (after_puts g a) e)

-- what holds of the record holds after a row where it is kept by reading, by a nibble put at the places allowed, and by the row's end
module _ (P : Machine → Type 0) (w : Around)
    (reads : (m : Machine) (q : Port) → P m → P (with_ports m (port_read m w q).ports))
    (steps : (m : Machine) (dp : ℕ) → P m → P (with_pointers m (record { sp = m.core.ptrs.sp; dp = dp })))
    (ends : (m : Machine) (r : Registers) (pc : ℕ) → P m → P (with_pc (with_registers m r) pc))
    (Allowed : Machine → Place → Type 0)
    (puts : (m : Machine) (p : Place) (v : ℕ) → Allowed m p → P m → P (put_of m w p v).machine) where
  step-holds : (m : Machine) (s : Step) → AllowedIn w Allowed m s → P m → P (operation_step m w s).machine
  unfolding put_step exchange_step
  step-holds m (Step.put d o x y) h p = puts (after_reading m w x) d _ h (reading P m w x p (λ q. reads m q p))
  step-holds m (Step.exchange d x) h p = puts _ x _ h.1 (puts m d _ h.0 p)
  step-holds m Step.DP+1 h p = steps m _ p

  worked-holds : (m : Machine) (s : Step) (a : After) → AllowedIn w Allowed m s → AllowedAfter w Allowed m s a → P m → P (worked m w s a).machine
  worked-holds m s After.alone h k p = step-holds m s h p
  worked-holds m s (After.flags_of t) h k p = step-holds (operation_step m w s).machine t k (step-holds m s h p)
  worked-holds m s (After.flags_before t) h k p = step-holds (operation_step m w s).machine t k (step-holds m s h p)

  pub work-holds : (m : Machine) (l : Line) (s : Step) (a : After) → AllowedIn w Allowed m s → AllowedAfter w Allowed m s a → P m → P (work_of m w l s a).machine
  unfolding work_of
  work-holds m l s a h k p =
      picked (λ (x : Done). P x.machine) (eqb (worked m w s a).stop 0) _ _
      (ends (worked m w s a).machine _ _ (worked-holds m s a h k p)) p

-- f of the record is kept by a row where each of these keeps it
module _ {A : Type 0} (f : Machine → A) (w : Around)
    (reads : (m : Machine) (q : Port) → f (with_ports m (port_read m w q).ports) ≡ f m)
    (steps : (m : Machine) (q : Pointers) → f (with_pointers m q) ≡ f m)
    (ends : (m : Machine) (r : Registers) (pc : ℕ) → f (with_pc (with_registers m r) pc) ≡ f m) where
  module _ (Allowed : Machine → Place → Type 0) (puts : (m : Machine) (p : Place) (v : ℕ) → Allowed m p → f (put_of m w p v).machine ≡ f m) where
    pub work-keeps : (m : Machine) (l : Line) (s : Step) (a : After) → AllowedIn w Allowed m s → AllowedAfter w Allowed m s a → f (work_of m w l s a).machine ≡ f m
    work-keeps m l s a h k =
        work-holds (λ n. f n ≡ f m) w (λ n q e. reads n q ∙ e) (λ n dp e. steps n _ ∙ e) (λ n r pc e. ends n r pc ∙ e)
        Allowed (λ n p v g e. puts n p v g ∙ e) m l s a h k refl

  -- every place is allowed
  module _ (puts : (m : Machine) (p : Place) (v : ℕ) → f (put_of m w p v).machine ≡ f m) where
    pub work-keeps-always : (m : Machine) (l : Line) (s : Step) (a : After) → f (work_of m w l s a).machine ≡ f m
    work-keeps-always m l s a = work-keeps Any (λ m p v _. puts m p v) m l s a (any_in w m s) (any_after w m s a)

  -- the places allowed are those without a property
  module _ (g : Place → Bool) (puts : (m : Machine) (p : Place) (v : ℕ) → g p ≡ false → f (put_of m w p v).machine ≡ f m) where
    pub work-keeps-but : (m : Machine) (l : Line) (s : Step) (a : After) → work_puts g s a ≡ false → f (work_of m w l s a).machine ≡ f m
    work-keeps-but m l s a e = work-keeps (But g) puts m l s a (but_in w g m s a e) (but-after w g m s a e)

-- What stops a row is "a named stop", 31 to 34: one proof over the shapes of the operation column.
use mathlib.Core.Path.{◌≡◌, refl}
use mathlib.Core.Bool.{Bool}
use mathlib.Core.Logic.{◌⊎◌, inl, inr}
use Prim.Native.Nat.{ℕ, ◌/◌, ◌+◌, ◌≤◌}
use native.Mathlib.Omega.{arith}
use lib.Dec.{eqb, leb, ltb}
use borrow.Author.Tests.{eq-eqb, ne_eqb}
use Rattle.laws.specs.Choice.{both}
use Rattle.laws.proofs.Choices.{picked}
use Rattle.device.specs.Device.{reserved}
use Rattle.device.specs.declared.Device.{Device}
use Rattle.sheet.specs.Operation.{Port, Place, Step, After, Operation}
use Rattle.sheet.specs.Table.{Line}
use Rattle.frame.specs.declared.Pins.{Pins}
use Rattle.ports.specs.Ports.{is_readable, read_port, is_writable, write_stop, write_port, ReadDone, WriteDone}
use Rattle.ports.specs.declared.Ports.{Ports}
use Rattle.record.specs.Ram.{bank_of}
use Rattle.record.specs.declared.Machine.{Machine}
use Rattle.row.specs.Places.{Around, Got, cell_of, port_of, get_of, after_reading, put_of}
use Rattle.row.specs.Steps.{first_of, made_of, put_step, exchange_step, operation_step}
use Rattle.row.specs.Rows.{Done, worked, work_of, branch_of, call_of, latches_of, performed}

-- "a named stop"
abbrev pub Named : ℕ → Type 0
Named n = (31 ≤ n) × (n ≤ 34)

-- 0 stands for no stop
abbrev pub NoneOrNamed : ℕ → Type 0
NoneOrNamed n = (n ≡ 0) ⊎ Named n

-- no stop; then document 01's table
none : NoneOrNamed 0
none = inl refl

absent_ram : NoneOrNamed 31
absent_ram = inr (omega arith)

level : NoneOrNamed 32
level = inr (omega arith)

no_port : NoneOrNamed 33
no_port = inr (omega arith)

not_to_be_written : NoneOrNamed 34
not_to_be_written = inr (omega arith)

-- of two stops the first
first_stop : (s t : ℕ) → NoneOrNamed s → NoneOrNamed t → NoneOrNamed (first_of s t)
first_stop s t (inl e) k = rw (eq-eqb s 0 e) k
first_stop s t (inr h) (inl e) = rw (ne_eqb s 0 (omega arith), eq-eqb t 0 e) (inr h)
first_stop s t (inr h) (inr k) = rw (ne_eqb s 0 (omega arith), ne_eqb t 0 (omega arith)) (inr (omega arith))

-- a port is absent, or a value is not to be written to it
read_stop : (d : Device) (sound : Bool) (pins : Pins) (p : Ports) (n : ℕ) → NoneOrNamed (read_port d sound pins p n).stop
unfolding read_port
read_stop d sound pins p n = picked (λ (r : ReadDone). NoneOrNamed r.stop) (is_readable n) _ _ none no_port

write_stop_lem : (d : Device) (p : Ports) (n v : ℕ) → NoneOrNamed (write_port d p n v).stop
unfolding write_port write_stop
write_stop_lem d p n v =
    picked (λ (r : WriteDone). NoneOrNamed r.stop) (eqb (write_stop d n v) 0) _ _ none
    (picked NoneOrNamed (is_writable d n) _ 33 (picked NoneOrNamed (reserved d n v) 34 0 not_to_be_written none) no_port)

module _ (w : Around) where
  get-stop : (m : Machine) (p : Place) → NoneOrNamed (get_of m w p).stop
  get-stop m (Place.register r) = none
  get-stop m (Place.given g) = none
  get-stop m (Place.cell c) = picked (λ (g : Got). NoneOrNamed g.stop) (ltb (cell_of m.core w.insn c) 372) _ _ none absent_ram
  get-stop m (Place.port Port.pins_p) = read_stop w.options.device w.options.sound m.core.pins m.core.ports w.insn.b
  get-stop m (Place.port Port.pins_l) = read_stop w.options.device w.options.sound m.core.pins m.core.ports (m.core.regs.lr / 4 + 4)
  get-stop m (Place.port Port.latch_p) = none
  get-stop m (Place.port Port.latch_l) = none
  get-stop m (Place.pointer p) = picked (λ (g : Got). NoneOrNamed g.stop) (eqb (bank_of m.core) 0) _ _ none absent_ram
  get-stop m (Place.rom h) = none
  get-stop m Place.mask = none

  put_stop : (m : Machine) (p : Place) (v : ℕ) → NoneOrNamed (put_of m w p v).stop
  put_stop m (Place.register r) v = none
  put_stop m (Place.given g) v = none
  put_stop m (Place.cell c) v = picked NoneOrNamed (ltb (cell_of m.core w.insn c) 372) 0 31 none absent_ram
  put_stop m (Place.port p) v = write_stop_lem w.options.device m.core.ports (port_of m.core.regs w.insn p) v
  put_stop m (Place.pointer p) v = picked NoneOrNamed (eqb (bank_of m.core) 0) 0 31 none absent_ram
  put_stop m (Place.rom h) v = none
  put_stop m Place.mask v = none

  step-stop : (m : Machine) (s : Step) → NoneOrNamed (operation_step m w s).stop
  unfolding put_step exchange_step
  step-stop m (Step.put d o x y) =
      first_stop (first_of (get_of m w x).stop (get_of m w y).stop) (put_of (after_reading m w x) w d (made_of m w o x y).value).stop
      (first_stop (get_of m w x).stop (get_of m w y).stop (get-stop m x) (get-stop m y)) (put_stop (after_reading m w x) d (made_of m w o x y).value)
  step-stop m (Step.exchange d x) = first_stop (get_of m w d).stop (get_of m w x).stop (get-stop m d) (get-stop m x)
  step-stop m Step.DP+1 = none

  second-stop : (m : Machine) (s t : Step) → NoneOrNamed (first_of (operation_step m w s).stop (operation_step (operation_step m w s).machine w t).stop)
  second-stop m s t = first_stop (operation_step m w s).stop (operation_step (operation_step m w s).machine w t).stop (step-stop m s) (step-stop (operation_step m w s).machine t)

  worked-stop : (m : Machine) (s : Step) (a : After) → NoneOrNamed (worked m w s a).stop
  worked-stop m s After.alone = step-stop m s
  worked-stop m s (After.flags_of t) = second-stop m s t
  worked-stop m s (After.flags_before t) = second-stop m s t

  pub row-stop : (m : Machine) (l : Line) (o : Operation) → NoneOrNamed (performed m w l o).stop
  unfolding work_of branch_of call_of latches_of
  row-stop m l (Operation.work s a) = picked (λ (x : Done). NoneOrNamed x.stop) (eqb (worked m w s a).stop 0) _ _ none (worked-stop m s a)
  row-stop m l (Operation.branch t) = none
  row-stop m l (Operation.call e) = picked (λ (x : Done). NoneOrNamed x.stop) (both (leb 1 m.core.ptrs.sp) (leb m.core.ptrs.sp 13)) _ _ none level
  row-stop m l Operation.return = picked (λ (x : Done). NoneOrNamed x.stop) (leb m.core.ptrs.sp 12) _ _ none level
  row-stop m l Operation.return_flag = picked (λ (x : Done). NoneOrNamed x.stop) (leb m.core.ptrs.sp 12) _ _ none level
  row-stop m l (Operation.IL⟵IL-and-r e) = none
  row-stop m l Operation.no_operation = none

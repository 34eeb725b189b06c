-- What the lines of the sheet have in common, and with it: each step of the operation column makes a valid record of a valid one.
use Prim.Native.Nat.{ℕ, ◌%◌, ◌^◌, ◌<◌}
use mathlib.Core.Bool.{Bool, true, false, not}
use mathlib.Core.Path.{◌≡◌}
use native.Mathlib.Omega.{arith}
use lib.Dec.{T, leb, leb→le}
use Rattle.laws.specs.Choice.{both, either}
use Rattle.laws.proofs.Computed.{at, both_left, both_right}
use Rattle.laws.proofs.Choices.{refuted, either_left, either_right, not_left, not_right}
use Rattle.sheet.specs.Operation.{Given, Port, Place, Op, Step, After}
use Rattle.sheet.specs.Operation.Op.{Move, Plus, PlusCF, Minus, MinusCF', And, Or, Xor, Clear, Set, Has, Lacks, RotateLeft, RotateRight}
use Rattle.sheet.specs.declared.Insn.{Insn}
use Rattle.alu.proofs.Low.{is_weight, Second, made-low}
use Rattle.ports.specs.declared.Mode.TheVariants.{Running}
use Rattle.record.specs.Valid.{Valid}
use Rattle.record.specs.declared.Machine.{Machine}
use Rattle.record.proofs.WithValid.{with-ports-and-mode}
use Rattle.row.specs.Places.{Around, get_of, after_reading, put_of, with_ports, port_read, port_of}
use Rattle.row.specs.Steps.{put_step, exchange_step, operation_step}
use Rattle.row.specs.Rows.{worked}
use Rattle.row.specs.Columns.{is_port}
use Rattle.row.proofs.PortsValid.{read_valid}
use Rattle.row.proofs.PlacesValid.{LowPlace, get-low}
use Rattle.row.proofs.PutValid.{pointers_valid, put_valid}
use Rattle.row.proofs.Keeps.{reading}

-- where k is named its field has no more than 16 values
abbrev pub low_place : ℕ → Place → Bool
low_place n (Place.register r) = true
low_place n (Place.given Given.nothing) = true
low_place n (Place.given Given.operand_k) = leb n 16
low_place n (Place.given Given.unit) = true
low_place n (Place.given Given.bit_b) = true
low_place n (Place.given Given.bit_l) = true
low_place n (Place.given Given.cf) = true
low_place n (Place.given Given.zf) = true
low_place n (Place.cell c) = true
low_place n (Place.port p) = true
low_place n (Place.pointer p) = true
low_place n (Place.rom h) = true
low_place n Place.mask = true

abbrev pub names_bit : Place → Bool
names_bit (Place.register r) = false
names_bit (Place.given Given.nothing) = false
names_bit (Place.given Given.operand_k) = false
names_bit (Place.given Given.unit) = true
names_bit (Place.given Given.bit_b) = true
names_bit (Place.given Given.bit_l) = true
names_bit (Place.given Given.cf) = false
names_bit (Place.given Given.zf) = false
names_bit (Place.cell c) = false
names_bit (Place.port p) = false
names_bit (Place.pointer p) = false
names_bit (Place.rom h) = false
names_bit Place.mask = false

-- the operations on one bit have a bit for their second place
abbrev pub second_fits : Op → Place → Bool
second_fits Move y = true
second_fits Plus y = true
second_fits PlusCF y = true
second_fits Minus y = true
second_fits MinusCF' y = true
second_fits And y = true
second_fits Or y = true
second_fits Xor y = true
second_fits Clear y = names_bit y
second_fits Set y = names_bit y
second_fits Has y = names_bit y
second_fits Lacks y = names_bit y
second_fits RotateLeft y = true
second_fits RotateRight y = true

-- an exchange names no port, nor does a second step
abbrev pub fits_step : ℕ → Step → Bool
fits_step n (Step.put d o x y) = both (low_place n x) (both (low_place n y) (second_fits o y))
fits_step n (Step.exchange d x) = both (both (low_place n d) (low_place n x)) (not (either (is_port d) (is_port x)))
fits_step n Step.DP+1 = true

abbrev pub uses_port : Step → Bool
uses_port (Step.put d o x y) = either (is_port d) (is_port x)
uses_port (Step.exchange d x) = either (is_port d) (is_port x)
uses_port Step.DP+1 = false

abbrev pub fits_after : ℕ → After → Bool
fits_after n After.alone = true
fits_after n (After.flags_of t) = both (fits_step n t) (not (uses_port t))
fits_after n (After.flags_before t) = both (fits_step n t) (not (uses_port t))

weight_is : (n : ℕ) → T (is_weight (2 ^ (n % 4)))
weight_is n = at (λ k. is_weight (2 ^ k)) 4 tt (n % 4) (omega arith)

low_place_lem : (n : ℕ) (p : Place) (i : Insn) → i.a < n → T (low_place n p) → LowPlace p i
low_place_lem n (Place.register r) i h t = tt
low_place_lem n (Place.given Given.nothing) i h t = tt
low_place_lem n (Place.given Given.operand_k) i h t = omega (arith, leb→le n 16 t)
low_place_lem n (Place.given Given.unit) i h t = tt
low_place_lem n (Place.given Given.bit_b) i h t = tt
low_place_lem n (Place.given Given.bit_l) i h t = tt
low_place_lem n (Place.given Given.cf) i h t = tt
low_place_lem n (Place.given Given.zf) i h t = tt
low_place_lem n (Place.cell c) i h t = tt
low_place_lem n (Place.port p) i h t = tt
low_place_lem n (Place.pointer p) i h t = tt
low_place_lem n (Place.rom g) i h t = tt
low_place_lem n Place.mask i h t = tt

module _ (w : Around) (bytes : (at : ℕ) → w.rom at < 256) (n : ℕ) (field : w.insn.a < n) where
  bit-second : (m : Machine) (y : Place) → T (names_bit y) → T (is_weight (get_of m w y).value)
  bit-second m (Place.given Given.bit_b) t = weight_is w.insn.a
  bit-second m (Place.given Given.bit_l) t = weight_is m.core.regs.lr
  bit-second m (Place.given Given.nothing) t = absurd t
  bit-second m (Place.given Given.operand_k) t = absurd t
  bit-second m (Place.given Given.unit) t = tt
  bit-second m (Place.given Given.cf) t = absurd t
  bit-second m (Place.given Given.zf) t = absurd t
  bit-second m (Place.register r) t = absurd t
  bit-second m (Place.cell c) t = absurd t
  bit-second m (Place.port p) t = absurd t
  bit-second m (Place.pointer p) t = absurd t
  bit-second m (Place.rom h) t = absurd t
  bit-second m Place.mask t = absurd t

  second : (m : Machine) (o : Op) (y : Place) → T (second_fits o y) → Second o (get_of m w y).value
  second m Move y t = tt
  second m Plus y t = tt
  second m PlusCF y t = tt
  second m Minus y t = tt
  second m MinusCF' y t = tt
  second m And y t = tt
  second m Or y t = tt
  second m Xor y t = tt
  second m Clear y t = bit-second m y t
  second m Set y t = bit-second m y t
  second m Has y t = bit-second m y t
  second m Lacks y t = bit-second m y t
  second m RotateLeft y t = tt
  second m RotateRight y t = tt

  -- a port is read only while the record is running, so that no mode is tied to P16
  read-ports : (m : Machine) (p : Port) → Valid w.options.device m → m.core.mode ≡ Running → Valid w.options.device (with_ports m (port_read m w p).ports)
  read-ports m p h e = record { core = with-ports-and-mode h.core (read_valid w.options.device w.options.sound m.core.pins m.core.ports (port_of m.core.regs w.insn p) h.core.ports) (rw e tt); ram = h.ram }

  touched-valid : (m : Machine) (p : Place) → Valid w.options.device m → (T (is_port p) → m.core.mode ≡ Running) → Valid w.options.device (after_reading m w p)
  touched-valid m (Place.register r) h e = h
  touched-valid m (Place.given g) h e = h
  touched-valid m (Place.cell c) h e = h
  touched-valid m (Place.port Port.pins_p) h e = read-ports m Port.pins_p h (e tt)
  touched-valid m (Place.port Port.pins_l) h e = read-ports m Port.pins_l h (e tt)
  touched-valid m (Place.port Port.latch_p) h e = h
  touched-valid m (Place.port Port.latch_l) h e = h
  touched-valid m (Place.pointer p) h e = h
  touched-valid m (Place.rom g) h e = h
  touched-valid m Place.mask h e = h

  nibble : (m : Machine) → Valid w.options.device m → (p : Place) → T (low_place n p) → (get_of m w p).value < 16
  nibble m h p t = get-low m w h bytes p (low_place_lem n p w.insn field t)

  put_step_lem : (m : Machine) (d : Place) (o : Op) (x y : Place) → Valid w.options.device m → (T (either (is_port d) (is_port x)) → m.core.mode ≡ Running) → T (fits_step n (Step.put d o x y)) → Valid w.options.device (put_step m w d o x y).machine
  unfolding put_step
  put_step_lem m d o x y h e t =
      let x_Fits = both_left (low_place n x) (both (low_place n y) (second_fits o y)) t in
      let rest = both_right (low_place n x) (both (low_place n y) (second_fits o y)) t in
      let a = nibble m h x x_Fits in
      let b = nibble m h y (both_left (low_place n y) (second_fits o y) rest) in
      let v = made-low (get_of m w x).value (get_of m w y).value m.core.regs.cf a b o (second m o y (both_right (low_place n y) (second_fits o y) rest)) in
      put_valid (after_reading m w x) w d _ (touched-valid m x h (λ q. e (either_right (is_port d) (is_port x) q))) (λ q. reading (λ n. n.core.mode ≡ Running) m w x (e (either_left (is_port d) (is_port x) q)) (λ k. e (either_left (is_port d) (is_port x) q))) v

  exchange-step : (m : Machine) (d x : Place) → Valid w.options.device m → T (fits_step n (Step.exchange d x)) → Valid w.options.device (exchange_step m w d x).machine
  unfolding exchange_step
  exchange-step m d x h t =
      let lows = both_left (both (low_place n d) (low_place n x)) (not (either (is_port d) (is_port x))) t in
      let none = both_right (both (low_place n d) (low_place n x)) (not (either (is_port d) (is_port x))) t in
      let a = nibble m h d (both_left (low_place n d) (low_place n x) lows) in
      let b = nibble m h x (both_right (low_place n d) (low_place n x) lows) in
      let first = put_valid m w d (get_of m w x).value h (λ q. absurd (not_left (is_port d) (is_port x) none q)) b in
      put_valid (put_of m w d (get_of m w x).value).machine w x (get_of m w d).value first (λ q. absurd (not_right (is_port d) (is_port x) none q)) a

  step-valid : (m : Machine) (s : Step) → Valid w.options.device m → (T (uses_port s) → m.core.mode ≡ Running) → T (fits_step n s) → Valid w.options.device (operation_step m w s).machine
  step-valid m (Step.put d o x y) h e t = put_step_lem m d o x y h e t
  step-valid m (Step.exchange d x) h e t = exchange-step m d x h t
  step-valid m Step.DP+1 h e t = pointers_valid h (record { sp = h.core.ptrs.sp; dp = omega arith })

  twice-valid : (m : Machine) (s t : Step) → Valid w.options.device m → m.core.mode ≡ Running → T (fits_step n s) → T (both (fits_step n t) (not (uses_port t))) → Valid w.options.device (operation_step (operation_step m w s).machine w t).machine
  twice-valid m s t h e f g =
      step-valid (operation_step m w s).machine t (step-valid m s h (λ q. e) f)
      (λ q. absurd (refuted (uses_port t) (both_right (fits_step n t) (not (uses_port t)) g) q)) (both_left (fits_step n t) (not (uses_port t)) g)

  pub worked-valid : (m : Machine) (s : Step) (a : After) → Valid w.options.device m → m.core.mode ≡ Running → T (both (fits_step n s) (fits_after n a)) → Valid w.options.device (worked m w s a).machine
  worked-valid m s After.alone h e f = step-valid m s h (λ q. e) (both_left (fits_step n s) true f)
  worked-valid m s (After.flags_of t) h e f = twice-valid m s t h e (both_left (fits_step n s) _ f) (both_right (fits_step n s) _ f)
  worked-valid m s (After.flags_before t) h e f = twice-valid m s t h e (both_left (fits_step n s) _ f) (both_right (fits_step n s) _ f)

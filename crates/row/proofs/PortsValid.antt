-- Reading and writing a port keep the latches within their ranges, and P25 and P27 off 10xx.
use Prim.Native.Nat.{ℕ, ◌/◌, ◌%◌, ◌<◌}
use mathlib.Core.Bool.{Bool, true, false}
use mathlib.Core.Path.{◌≡◌, refl, sym, subst, ◌∙◌}
use native.Mathlib.Omega.{arith}
use lib.Dec.{T, eqb, eqb→eq}
use borrow.Author.Tests.{eq-eqb, eqb-true}
use Rattle.laws.specs.Choice.{pick, either}
use Rattle.laws.proofs.Computed.{true→T}
use Rattle.device.specs.declared.Device.{Device}
use Rattle.device.specs.declared.Device.TheVariants.{Em73862, Em73P982}
use Rattle.device.proofs.Laws.{banked}
use Rattle.frame.specs.declared.Pins.{Pins}
use Rattle.ports.specs.Ports.{with_latch, read_port, write_stop, p27_after, with_p27, write_port, enters, is_readable, ReadDone, WriteDone}
use Rattle.ports.specs.declared.Ports.{Ports}
use Rattle.record.specs.Valid.{ValidAlso, ValidPorts}

-- a choice of two numbers below a limit is below it
pub chosen_lt : {n : ℕ} (t : Bool) (a b : ℕ) → a < n → b < n → pick t a b < n
chosen_lt true a b p q = p
chosen_lt false a b p q = q

left_lt : {n : ℕ} (t : Bool) (a b : ℕ) → (T t → ⊥) → b < n → pick t a b < n
left_lt true a b h l = absurd (h tt)
left_lt false a b h l = l

not_3 : (t : Bool) (a b : ℕ) → (T t → a % 4 ≡ 3 → ⊥) → (b % 4 ≡ 3 → ⊥) → pick t a b % 4 ≡ 3 → ⊥
not_3 true a b p q e = p tt e
not_3 false a b p q e = q e

not_10xx : (t : Bool) (a b : ℕ) → (T t → a / 4 ≡ 2 → ⊥) → (b / 4 ≡ 2 → ⊥) → pick t a b / 4 ≡ 2 → ⊥
not_10xx true a b p q e = p tt e
not_10xx false a b p q e = q e

-- P3, P5, P6 and P17 where a device has them, and where a write that is not refused is of none of them
also_set : (p : Ports) (n v : ℕ) → ValidAlso Em73P982 p → v < 16 → (T (eqb n 3) → v % 4 ≡ 3 → ⊥) → ValidAlso Em73P982 (with_latch p n v)
unfolding with_latch
also_set p n v h hv h3 =
    record {
      p3 = let b = (banked Em73P982 p.p3).sound h.p3 in (banked Em73P982 _).complete (chosen_lt (eqb n 3) v p.p3 hv b.0, not_3 (eqb n 3) v p.p3 h3 b.1);
      p5 = chosen_lt (eqb n 5) v p.p5 hv h.p5;
      p6 = chosen_lt (eqb n 6) v p.p6 hv h.p6;
      p17 = chosen_lt (eqb n 17) v p.p17 hv h.p17;
    }

also_left : (p : Ports) (n v : ℕ) → ValidAlso Em73862 p → (T (eqb n 3) → ⊥) → (T (eqb n 5) → ⊥) → (T (eqb n 6) → ⊥) → (T (eqb n 17) → ⊥) → ValidAlso Em73862 (with_latch p n v)
unfolding with_latch
also_left p n v h h3 h5 h6 h17 =
    record {
      p3 = let b = (banked Em73862 p.p3).sound h.p3 in (banked Em73862 _).complete (left_lt (eqb n 3) v p.p3 h3 b.0, not_3 (eqb n 3) v p.p3 (λ t. absurd (h3 t)) b.1);
      p5 = left_lt (eqb n 5) v p.p5 h5 h.p5;
      p6 = left_lt (eqb n 6) v p.p6 h6 h.p6;
      p17 = left_lt (eqb n 17) v p.p17 h17 h.p17;
    }

-- a latch set to a nibble, P25 and P27 to one that is not 10xx, and the others of the device as they may be
latch_valid : {d : Device} (p : Ports) (n v : ℕ) → ValidPorts d p → ValidAlso d (with_latch p n v) → v < 16 → (T (eqb n 25) → v / 4 ≡ 2 → ⊥) → (T (eqb n 27) → v / 4 ≡ 2 → ⊥) → ValidPorts d (with_latch p n v)
unfolding with_latch
latch_valid p n v h a hv h25 h27 =
    record {
      also = a;
      p4 = chosen_lt (eqb n 4) v p.p4 hv h.p4;
      p8 = chosen_lt (eqb n 8) v p.p8 hv h.p8;
      p9 = chosen_lt (eqb n 9) v p.p9 hv h.p9;
      p16 = chosen_lt (eqb n 16) v p.p16 hv h.p16;
      p23 = chosen_lt (eqb n 23) v p.p23 hv h.p23;
      p24 = chosen_lt (eqb n 24) v p.p24 hv h.p24;
      p25 = chosen_lt (eqb n 25) v p.p25 hv h.p25;
      p27 = chosen_lt (eqb n 27) v p.p27 hv h.p27;
      p28 = chosen_lt (eqb n 28) v p.p28 hv h.p28;
      p29 = chosen_lt (eqb n 29) v p.p29 hv h.p29;
      p30 = chosen_lt (eqb n 30) v p.p30 hv h.p30;
      p25_never_10xx = not_10xx (eqb n 25) v p.p25 h25 h.p25_never_10xx;
      p27_never_10xx = not_10xx (eqb n 27) v p.p27 h27 h.p27_never_10xx;
    }

-- sleep clears P27
cleared : (t u : Bool) (p27 : ℕ) → p27 < 16 → pick t (pick u p27 0) p27 < 16
cleared true true p27 h = h
cleared true false p27 h = omega arith
cleared false u p27 h = h

cleared_10xx : (t u : Bool) (p27 : ℕ) → (p27 / 4 ≡ 2 → ⊥) → pick t (pick u p27 0) p27 / 4 ≡ 2 → ⊥
cleared_10xx true true p27 h e = h e
cleared_10xx true false p27 h e = omega arith
cleared_10xx false u p27 h e = h e

p27_valid : {d : Device} (p : Ports) (n v : ℕ) → ValidPorts d p → ValidPorts d (with_p27 p (p27_after p.p27 n v))
p27_valid p n v h =
    record {
      also = record { p3 = h.also.p3; p5 = h.also.p5; p6 = h.also.p6; p17 = h.also.p17 };
      p4 = h.p4;
      p8 = h.p8;
      p9 = h.p9;
      p16 = h.p16;
      p23 = h.p23;
      p24 = h.p24;
      p25 = h.p25;
      p27 = cleared (enters n v) (eqb (v % 4) 3) p.p27 h.p27;
      p28 = h.p28;
      p29 = h.p29;
      p30 = h.p30;
      p25_never_10xx = h.p25_never_10xx;
      p27_never_10xx = cleared_10xx (enters n v) (eqb (v % 4) 3) p.p27 h.p27_never_10xx;
    }

-- a write that does not stop is of no value that is reserved, and to a port that the device has
at_port : (d : Device) (n k v : ℕ) → write_stop d n v ≡ 0 → T (eqb n k) → write_stop d k v ≡ 0
at_port d n k v e t = subst (λ (k : ℕ). write_stop d k v ≡ 0) (eqb→eq n k t) e

free_25 : (d : Device) (n v : ℕ) → write_stop d n v ≡ 0 → T (eqb n 25) → v / 4 ≡ 2 → ⊥
unfolding write_stop
free_25 d n v e t q =
    let z : write_stop d 25 v ≡ 34 = rw (eq-eqb (v / 4) 2 q) in
    omega (arith, z, at_port d n 25 v e t)

free_27 : (d : Device) (n v : ℕ) → write_stop d n v ≡ 0 → T (eqb n 27) → v / 4 ≡ 2 → ⊥
unfolding write_stop
free_27 d n v e t q =
    let z : write_stop d 27 v ≡ 34 = rw (eq-eqb (v / 4) 2 q) in
    omega (arith, z, at_port d n 27 v e t)

free_3 : (n v : ℕ) → write_stop Em73P982 n v ≡ 0 → T (eqb n 3) → v % 4 ≡ 3 → ⊥
unfolding write_stop
free_3 n v e t q =
    let z : write_stop Em73P982 3 v ≡ 34 = rw (eq-eqb (v % 4) 3 q) in
    omega (arith, z, at_port Em73P982 n 3 v e t)

absent : (n k v : ℕ) → write_stop Em73862 k v ≡ 33 → write_stop Em73862 n v ≡ 0 → T (eqb n k) → ⊥
absent n k v z e t = omega (arith, z, at_port Em73862 n k v e t)

also_written : (d : Device) (p : Ports) (n v : ℕ) → write_stop d n v ≡ 0 → ValidAlso d p → v < 16 → ValidAlso d (with_latch p n v)
unfolding write_stop
also_written Em73862 p n v e h hv =
    also_left p n v h (absent n 3 v refl e) (absent n 5 v refl e) (absent n 6 v refl e) (absent n 17 v refl e)
also_written Em73P982 p n v e h hv = also_set p n v h hv (free_3 n v e)

written_by : (d : Device) (t : Bool) (p : Ports) (n v : ℕ) → eqb (write_stop d n v) 0 ≡ t → ValidPorts d p → v < 16 → ValidPorts d (pick {A = WriteDone} t (record { stop = 0; ports = with_latch (with_p27 p (p27_after p.p27 n v)) n v }) (record { stop = write_stop d n v; ports = p })).ports
written_by d true p n v e h hv =
    let z = eqb-true (write_stop d n v) 0 e in
    let q = p27_valid p n v h in
    latch_valid (with_p27 p (p27_after p.p27 n v)) n v q (also_written d (with_p27 p (p27_after p.p27 n v)) n v z q.also hv) hv (free_25 d n v z) (free_27 d n v z)
written_by d false p n v e h hv = h

pub written_valid : (d : Device) (p : Ports) (n v : ℕ) → ValidPorts d p → v < 16 → ValidPorts d (write_port d p n v).ports
unfolding write_port
written_valid d p n v h hv = written_by d (eqb (write_stop d n v) 0) p n v refl h hv

-- reading P4 or P8 sets its latch to 15
either_of : (n : ℕ) (t u : Bool) → eqb n 4 ≡ t → eqb n 8 ≡ u → T (either t u) → (k : ℕ) → T (eqb n k) → (k ≡ 4 → ⊥) → (k ≡ 8 → ⊥) → ⊥
either_of n true u e f s k t h4 h8 = h4 (sym (eqb→eq n k t) ∙ eqb-true n 4 e)
either_of n false true e f s k t h4 h8 = h8 (sym (eqb→eq n k t) ∙ eqb-true n 8 f)
either_of n false false e f s k t h4 h8 = s

module _ (p : Ports) (n : ℕ) (e : either (eqb n 4) (eqb n 8) ≡ true) where
  another : (k : ℕ) → T (eqb n k) → (k ≡ 4 → ⊥) → (k ≡ 8 → ⊥) → ⊥
  another = either_of n (eqb n 4) (eqb n 8) refl refl (true→T e)

  also-touched : (d : Device) → ValidAlso d p → ValidAlso d (with_latch p n 15)
  also-touched Em73862 h =
      also_left p n 15 h (λ t. another 3 t (λ z. omega arith) (λ z. omega arith)) (λ t. another 5 t (λ z. omega arith) (λ z. omega arith)) (λ t. another 6 t (λ z. omega arith) (λ z. omega arith)) (λ t. another 17 t (λ z. omega arith) (λ z. omega arith))
  also-touched Em73P982 h = also_set p n 15 h (omega arith) (λ t q. another 3 t (λ z. omega arith) (λ z. omega arith))

touched_by : {d : Device} (t : Bool) (p : Ports) (n : ℕ) → either (eqb n 4) (eqb n 8) ≡ t → ValidPorts d p → ValidPorts d (pick t (with_latch p n 15) p)
touched_by {d} true p n e h =
    latch_valid p n 15 h (also-touched p n e d h.also) (omega arith)
    (λ t q. another p n e 25 t (λ z. omega arith) (λ z. omega arith))
    (λ t q. another p n e 27 t (λ z. omega arith) (λ z. omega arith))
touched_by false p n e h = h

read_by : {d : Device} (t : Bool) (p : Ports) (n v : ℕ) → ValidPorts d p → ValidPorts d (pick {A = ReadDone} t (record { stop = 0; value = v; ports = pick (either (eqb n 4) (eqb n 8)) (with_latch p n 15) p }) (record { stop = 33; value = 0; ports = p })).ports
read_by true p n v h = touched_by (either (eqb n 4) (eqb n 8)) p n refl h
read_by false p n v h = h

pub read_valid : (d : Device) (sound : Bool) (pins : Pins) (p : Ports) (n : ℕ) → ValidPorts d p → ValidPorts d (read_port d sound pins p n).ports
unfolding read_port
read_valid d sound pins p n h = read_by (is_readable n) p n _ h

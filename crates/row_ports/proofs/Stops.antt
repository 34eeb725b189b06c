-- Laws of the stops of the rows of ports: what a stop leaves, and 31 before 33 and 34.
use Prim.Native.Nat.{ℕ}
use mathlib.Core.Bool.{Bool, true, false}
use mathlib.Core.Path.{◌≡◌, refl}
use native.Mathlib.Decide.{ℕ_discrete}
use lib.Dec.{eqb}
use borrow.Author.Tests.{ne_eqb}
use Rattle.numbers.specs.Numbered.{stop_number}
use Rattle.numbers.specs.declared.Stop.{Stop}
use Rattle.laws.specs.Choice.{pick, either}
use Rattle.device.specs.Device.{reserved}
use Rattle.device.specs.declared.Device.{Device}
use Rattle.frame.specs.declared.Pins.{Pins}
use Rattle.ports.specs.Ports.{with_latch, is_readable, read_port, is_writable, write_stop, write_port, ReadDone, WriteDone}
use Rattle.ports.specs.declared.Ports.{Ports}
use Rattle.row.specs.Steps.{first_of}

-- a stop has a number of document 01's table
pub named : (s : Stop) → eqb (stop_number s) 0 ≡ false
named Stop.UnassignedCode = refl
named Stop.AbsentRamAddress = refl
named Stop.StackLevel = refl
named Stop.AbsentPort = refl
named Stop.ReservedValue = refl
named Stop.PastEnd = refl

alone_by : (s : ℕ) → Dec (s ≡ 0) → first_of s 0 ≡ s
alone_by s (yes e) = rw e
alone_by s (no ne) = rw (ne_eqb s 0 ne)

pub alone : (s : ℕ) → first_of s 0 ≡ s
alone s = alone_by s (ℕ_discrete s 0)

either_way : (P : ℕ → Type 0) (t : Bool) (s n : ℕ) → P s → P n → P (pick t s n)
either_way P true s n p q = p
either_way P false s n p q = q

abbrev After31 : ℕ → Type 0
After31 s = first_of 31 s ≡ 31

write_stop_after : (d : Device) (n v : ℕ) → After31 (write_stop d n v)
unfolding write_stop
write_stop_after d n v =
    either_way After31 (is_writable d n) _ 33 (either_way After31 (reserved d n v) 34 0 refl refl) refl

written_after : (t : Bool) (s : ℕ) (p q : Ports) → After31 s → After31 (pick {A = WriteDone} t (record { stop = 0; ports = p }) (record { stop = s; ports = q })).stop
written_after true s p q h = refl
written_after false s p q h = h

-- what an absent address is before, where a port is written
pub write_after : (d : Device) (p : Ports) (n v : ℕ) → first_of 31 (write_port d p n v).stop ≡ 31
unfolding write_port
write_after d p n v = written_after (eqb (write_stop d n v) 0) (write_stop d n v) _ _ (write_stop_after d n v)

read_after_by : (t : Bool) (v : ℕ) (p q : Ports) → first_of (first_of (pick {A = ReadDone} t (record { stop = 0; value = v; ports = p }) (record { stop = 33; value = 0; ports = q })).stop 0) 31 ≡ 31
read_after_by true v p q = refl
read_after_by false v p q = refl

-- and where one is read
pub read_after : (d : Device) (sound : Bool) (pins : Pins) (p : Ports) (n : ℕ) → first_of (first_of (read_port d sound pins p n).stop 0) 31 ≡ 31
unfolding read_port
read_after d sound pins p n = read_after_by (is_readable n) _ _ _

p9_by : (t u : Bool) (v w : ℕ) (p q : Ports) → q.p9 ≡ p.p9 → (pick {A = ReadDone} t (record { stop = 0; value = v; ports = pick u q p }) (record { stop = 33; value = w; ports = p })).ports.p9 ≡ p.p9
p9_by true true v w p q h = h
p9_by true false v w p q h = refl
p9_by false u v w p q h = refl

p9_where : (d : Device) (sound : Bool) (pins : Pins) (p : Ports) (n : ℕ) → Dec (n ≡ 9) → (read_port d sound pins p n).ports.p9 ≡ p.p9
unfolding read_port with_latch
p9_where d sound pins p n (yes e) = rw e
p9_where d sound pins p n (no ne) = p9_by (is_readable n) (either (eqb n 4) (eqb n 8)) _ 0 p (with_latch p n 15) (rw (ne_eqb n 9 ne))

-- reading a port leaves P9, and so the bank
pub p9_kept : (d : Device) (sound : Bool) (pins : Pins) (p : Ports) (n : ℕ) → (read_port d sound pins p n).ports.p9 ≡ p.p9
p9_kept d sound pins p n = p9_where d sound pins p n (ℕ_discrete n 9)

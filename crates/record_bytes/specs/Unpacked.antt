-- What unpacking a buffer answers, and what it asks of the head's bytes.
use Rattle.std.specs.Prelude.{ℕ, ◌<◌, Option, MatchOption, List, [], ◌∷◌, ◌≡◌, get_or, take, drop}
use Rattle.bits.specs.Bits.{bit_of}
use Rattle.ports.specs.declared.Ports.{Ports}
use Rattle.record.specs.declared.Registers.{Registers}
use Rattle.record.specs.declared.Interrupts.{Interrupts}
use Rattle.record.specs.declared.Timers.{Timers}
use Rattle.record_bytes.specs.Layout.{two, four, latch_bytes, Holds, HoldsNone}
use Rattle.record.specs.declared.Machine.{Machine}

-- the bytes that are flags, the mark among them, and the mode's: any other byte may have any value
pub record FlagsFit (head : List ℕ) : Type 0 where
  pub cf : get_or head 24 0 < 2
  pub zf : get_or head 25 0 < 2
  pub sf : get_or head 26 0 < 2
  pub ei : get_or head 27 0 < 2
  pub mode : get_or head 36 0 < 3
  pub mark : get_or head 37 0 < 2

-- the registers, the interrupt bits, the timers and the ports whose bytes stand in the head
pub record RegistersAt (head : List ℕ) (r : Registers) : Type 0 where
  pub acc : r.acc ≡ get_or head 0 0
  pub hr : r.hr ≡ get_or head 1 0
  pub lr : r.lr ≡ get_or head 2 0
  pub cf : bit_of r.cf ≡ get_or head 24 0
  pub zf : bit_of r.zf ≡ get_or head 25 0
  pub sf : bit_of r.sf ≡ get_or head 26 0

pub record InterruptsAt (head : List ℕ) (i : Interrupts) : Type 0 where
  pub ei : bit_of i.ei ≡ get_or head 27 0
  pub il : i.il ≡ get_or head 28 0
  pub mask : i.mask ≡ get_or head 4 0
  pub due : i.due ≡ get_or head 38 0

pub record TimersAt (head : List ℕ) (t : Timers) : Type 0 where
  pub ta : two t.ta ≡ get_or head 20 0 ∷ get_or head 21 0 ∷ []
  pub tb : two t.tb ≡ get_or head 22 0 ∷ get_or head 23 0 ∷ []
  pub base : four t.base ≡ get_or head 29 0 ∷ get_or head 30 0 ∷ get_or head 31 0 ∷ get_or head 32 0 ∷ []

pub record PortsAt (head : List ℕ) (p : Ports) : Type 0 where
  pub latches : latch_bytes p ≡ take 11 (drop 5 head)
  pub p3 : p.p3 ≡ get_or head 39 0
  pub p5 : p.p5 ≡ get_or head 40 0
  pub p6 : p.p6 ≡ get_or head 41 0
  pub p17 : p.p17 ≡ get_or head 42 0

-- the record that the buffer holds, and none exactly where it holds none
abbrev pub Unpacks : List ℕ → Option Machine → Type 0
Unpacks bytes r = MatchOption r (HoldsNone bytes) (Holds bytes)

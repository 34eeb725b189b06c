-- The record as 416 bytes, for either device: what stands where in a buffer that crosses a call on numbers and byte buffers. Document 01, "The record", names the parts.
use Rattle.std.specs.Prelude.{ℕ, ◌/◌, ◌%◌, List, [], ◌∷◌, ◌++◌, ◌≡◌, length}
use Rattle.bits.specs.Bits.{bit_of}
use Rattle.ports.specs.declared.Ports.{Ports}
use Rattle.ports.specs.declared.Mode.{Mode}
use Rattle.record.specs.declared.Core.{Core}
use Rattle.record.specs.declared.Machine.{Machine}

-- a number in two bytes, and in four: low first
unfoldable pub two : ℕ → List ℕ
two n = n % 256 ∷ n / 256 ∷ []

unfoldable pub four : ℕ → List ℕ
four n = two (n % 65536) ++ two (n / 65536)

-- "Mode: running, sleep or hold."
unfoldable pub mode_number : Mode → ℕ
mode_number Mode.Running = 0
mode_number Mode.Sleep = 1
mode_number Mode.Hold = 2

-- "ACC, HR, LR, SP, mask, port latches: 0 to 15": bytes 0 to 15, document 01's latches in the order of their ports
unfoldable pub latch_bytes : Ports → List ℕ
latch_bytes p = p.p4 ∷ p.p8 ∷ p.p9 ∷ p.p16 ∷ p.p23 ∷ p.p24 ∷ p.p25 ∷ p.p27 ∷ p.p28 ∷ p.p29 ∷ p.p30 ∷ []

unfoldable pub nibbles_of : Core → List ℕ
nibbles_of m = m.regs.acc ∷ m.regs.hr ∷ m.regs.lr ∷ m.ptrs.sp ∷ m.ints.mask ∷ latch_bytes m.ports

-- bytes 16 to 43: PC, DP, TA, TB; CF, ZF, SF, EI; the latches IL5 to IL0; the time base; the last frame; the mode; the mark; the due source; the latches of P3, P5, P6 and P17, and the last frame's fourth digit
unfoldable pub others_of : Core → List ℕ
others_of m =
    two m.pc ++
    two m.ptrs.dp ++
    two m.timers.ta ++
    two m.timers.tb ++
    bit_of m.regs.cf ∷ bit_of m.regs.zf ∷ bit_of m.regs.sf ∷ bit_of m.ints.ei ∷
    m.ints.il ∷
    four m.timers.base ++
    m.pins.p0 ∷ m.pins.p8 ∷ m.pins.p4 ∷
    mode_number m.mode ∷ bit_of m.mark ∷ m.ints.due ∷
    m.ports.p3 ∷ m.ports.p5 ∷ m.ports.p6 ∷ m.ports.p17 ∷ m.pins.speech ∷ []

-- all but RAM
abbrev pub head_of : Core → List ℕ
head_of m = nibbles_of m ++ others_of m

-- "RAM: 372 nibbles", one a byte
abbrev pub record_bytes : Machine → List ℕ
record_bytes m = head_of m.core ++ m.ram

-- how many bytes come before RAM, and all
abbrev pub head_size : ℕ
head_size = 44

abbrev pub record_size : ℕ
record_size = 416

-- the buffer holds the record: it is its bytes and no more
pub record Holds (bytes : List ℕ) (m : Machine) : Type 0 where
  pub size : length bytes ≡ record_size
  pub same : bytes ≡ record_bytes m

abbrev pub HoldsNone : List ℕ → Type 0
HoldsNone bytes = (m : Machine) → Holds bytes m → ⊥

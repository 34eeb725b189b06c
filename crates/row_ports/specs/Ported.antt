-- What a row of the ports gives, held against the table's definition, and what it asks.
use Rattle.std.specs.Prelude.{ℕ, ◌<◌, true, List, Result, ◌≡◌}
use Rattle.numbers.specs.Sizes.{addresses}
use Rattle.numbers.specs.declared.Stop.{Stop}
use Rattle.laws.specs.Among.{among}
use Rattle.device.specs.Device.{limit_of}
use Rattle.device.specs.declared.Device.{Device}
use Rattle.device.specs.declared.Options.{Options}
use Rattle.sheet.specs.Reading.{insn}
use Rattle.ports.specs.Ports.{latch_of}
use Rattle.ports.specs.declared.Ports.{Ports}
use Rattle.record.specs.Valid.{ValidRegisters, Nibbles}
use Rattle.record.specs.declared.Core.{Core}
use Rattle.row.specs.Rows.{executed}
use Rattle.record.specs.With.{assembled}
use Rattle.row.specs.Turns.{done_as}
use Rattle.row.specs.declared.Turn.{Turn}
use Rattle.row_ports.specs.Groups.{writing, reading}

-- the row with its operands takes RAM from l to k and gives what x says, whatever the ROM is
pub record Ported (options : Options) (m : Core) (row a b : ℕ) (l k : List ℕ) (x : Result Turn Stop) : Type 0 where
  pub same : (rom : ℕ → ℕ) → done_as m x k ≡ executed (record { rom = rom; options = options; insn = insn row a b }) (assembled m l)

-- and leaves RAM as it was, whatever RAM is
pub record Writes (options : Options) (m : Core) (row a b : ℕ) (x : Result Turn Stop) : Type 0 where
  pub ported : (l : List ℕ) → Ported options m row a b l l x

pub record Reads (options : Options) (m : Core) (row a b : ℕ) (x : Result Turn Stop) : Type 0 where
  pub ported : (l : List ℕ) → Ported options m row a b l l x

-- INM and OUTM, which have no operand but p
pub record ToCell (options : Options) (m : Core) (b : ℕ) (l k : List ℕ) (x : Result Turn Stop) : Type 0 where
  pub ported : (a : ℕ) → Ported options m 75 a b l k x

pub record FromCell (options : Options) (m : Core) (b : ℕ) (l : List ℕ) (x : Result Turn Stop) : Type 0 where
  pub ported : (a : ℕ) → Ported options m 78 a b l l x

-- each latch holds a nibble
abbrev pub NibbleLatches : Ports → Type 0
NibbleLatches p = (n : ℕ) → latch_of p n < 16

-- what a row that writes a port asks
pub record WriteFits (m : Core) (row b : ℕ) : Type 0 where
  pub regs : ValidRegisters m.regs
  pub pc : m.pc < addresses
  pub latches : NibbleLatches m.ports
  pub port : b < 32
  pub listed : among writing row ≡ true

-- what a row that reads a port asks
pub record ReadFits (d : Device) (m : Core) (row b : ℕ) : Type 0 where
  pub regs : ValidRegisters m.regs
  pub pc : m.pc < addresses
  pub pins : m.pins.p4 < limit_of d 2
  pub port : b < 32
  pub listed : among reading row ≡ true

-- what INM and OUTM ask
pub record ToCellFits (d : Device) (m : Core) (b : ℕ) : Type 0 where
  pub pc : m.pc < addresses
  pub pins : m.pins.p4 < limit_of d 2
  pub port : b < 32

pub record FromCellFits (m : Core) (b : ℕ) (l : List ℕ) : Type 0 where
  pub pc : m.pc < addresses
  pub port : b < 32
  pub ram : Nibbles l

-- what a latch holds
pub record Held (p : Ports) (n r : ℕ) : Type 0 where
  pub value : r ≡ latch_of p n
  pub nibble : r < 16

-- port n, and the weight of a bit of it
pub record Names (m : Core) (n w : ℕ) : Type 0 where
  pub pc : m.pc < addresses
  pub latches : NibbleLatches m.ports
  pub port : n < 32
  pub some : 0 < w
  pub small : w < 9

-- port n, to be read
pub record Readable (d : Device) (m : Core) (n : ℕ) : Type 0 where
  pub pc : m.pc < addresses
  pub pins : m.pins.p4 < limit_of d 2
  pub port : n < 32

-- What a row that reads or writes one nibble of RAM gives, held against the table's definition.
use Rattle.std.specs.Prelude.{ℕ, ◌<◌, true, List, Result, Ok, Err, ◌≡◌, ltb, get_or, set}
use Rattle.numbers.specs.Numbered.{stop_number}
use Rattle.numbers.specs.Sizes.{addresses, ram_nibbles}
use Rattle.numbers.specs.declared.Stop.{Stop}
use Rattle.device.specs.declared.Options.{Options}
use Rattle.sheet.specs.Operation.{Cell}
use Rattle.sheet.specs.Reading.{insn}
use Rattle.sheet.specs.declared.Insn.{Insn}
use Rattle.record.specs.Valid.{ValidRegisters, Nibbles}
use Rattle.record.specs.declared.Core.{Core}
use Rattle.row.specs.Places.{cell_of}
use Rattle.row.specs.Rows.{Done, stops, executed}
use Rattle.row_ends.specs.declared.Act.{Act}
use Rattle.row_registers.specs.Quiet.{done_by}
use Rattle.record.specs.With.{assembled}
use Rattle.row_ram.specs.declared.Stored.{Stored}
use Rattle.laws.specs.Among.{among}

-- the row with its operands, on the record with RAM l
abbrev pub performed_on : Core → ℕ → ℕ → ℕ → (ℕ → ℕ) → Options → List ℕ → Done
performed_on m row a b rom options l = executed (record { rom = rom; options = options; insn = insn row a b }) (assembled m l)

-- the place that the row names
abbrev pub place_in : Cell → Core → ℕ → ℕ → ℕ → ℕ
place_in c m row a b = cell_of m (insn row a b) c

-- what came of the scalars m, where RAM is l then: a stop leaves the scalars
abbrev pub done_of : Core → Result Act Stop → List ℕ → Done
done_of m (Ok x) l = done_by m x l
done_of m (Err s) l = stops (stop_number s) (assembled m l)

-- where RAM has the place and v stands there, the row gives what x says and leaves RAM as it was
pub record Reads (c : Cell) (m : Core) (row a v : ℕ) (x : Act) : Type 0 where
  pub same : (rom : ℕ → ℕ) (options : Options) (b : ℕ) (l : List ℕ) → ltb (place_in c m row a b) ram_nibbles ≡ true → get_or l (place_in c m row a b) 0 ≡ v → done_by m x l ≡ performed_on m row a b rom options l

-- and there it gives what s says of the scalars, and stores its nibble
pub record Stores (c : Cell) (m : Core) (row a v : ℕ) (s : Stored) : Type 0 where
  pub same : (rom : ℕ → ℕ) (options : Options) (b : ℕ) (l : List ℕ) → ltb (place_in c m row a b) ram_nibbles ≡ true → get_or l (place_in c m row a b) 0 ≡ v → done_by m s.act (set l (place_in c m row a b) s.value) ≡ performed_on m row a b rom options l

-- the row takes RAM from l to k and gives what x says
pub record Does (m : Core) (row a b : ℕ) (l k : List ℕ) (x : Result Act Stop) : Type 0 where
  pub same : (rom : ℕ → ℕ) (options : Options) → done_of m x k ≡ performed_on m row a b rom options l

-- what a row on the RAM that is lent asks: its operand is below the limit
pub record Fits (rows : List ℕ) (limit : ℕ) (m : Core) (i : Insn) (l : List ℕ) : Type 0 where
  pub regs : ValidRegisters m.regs
  pub pc : m.pc < addresses
  pub operand : i.a < limit
  pub ram : Nibbles l
  pub row : among rows i.row ≡ true

-- What a row that moves the scalars and perhaps RAM gives, held against the table's definition.
use Rattle.std.specs.Prelude.{ℕ, List, Result, Ok, ◌≡◌}
use Rattle.numbers.specs.declared.Stop.{Stop}
use Rattle.device.specs.declared.Options.{Options}
use Rattle.sheet.specs.Reading.{insn}
use Rattle.record.specs.declared.Core.{Core}
use Rattle.row.specs.Rows.{executed}
use Rattle.row.specs.Turns.{done_as}
use Rattle.record.specs.With.{assembled}
use Rattle.row.specs.declared.Turn.{Turn}

-- the row with its operand takes RAM from l to k and gives what x says, whatever ROM, the options and the other operand are
pub record Turns (m : Core) (row a : ℕ) (l k : List ℕ) (x : Result Turn Stop) : Type 0 where
  pub same : (rom : ℕ → ℕ) (options : Options) (b : ℕ) → done_as m x k ≡ executed (record { rom = rom; options = options; insn = insn row a b }) (assembled m l)

-- the row leaves RAM as it was, whatever it is
pub record Keeps (m : Core) (row a : ℕ) (x : Turn) : Type 0 where
  pub turns : (l : List ℕ) → Turns m row a l l (Ok x)

-- the row has no operand
pub record Comes (m : Core) (row : ℕ) (l k : List ℕ) (x : Result Turn Stop) : Type 0 where
  pub turns : (a : ℕ) → Turns m row a l k x

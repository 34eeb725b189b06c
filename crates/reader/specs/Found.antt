-- What the reader's inner functions give: the instruction of a code, where it has one.
use Rattle.std.specs.Prelude.{ℕ, ◌+◌, ◌*◌, ◌/◌, ◌%◌, List, ◌∷◌, ◌≡◌, eqb, ltb, Option, Some, None, Ok, Err}
use Rattle.laws.specs.Choice.{pick}
use Rattle.sheet.specs.Reading.{Read, insn, read_digits}
use Rattle.sheet.specs.declared.Insn.{Insn}
use Rattle.sheet.specs.declared.NoRow.{NoRow}

abbrev pub as_read : Option Insn → Read
as_read (Some i) = Ok i
as_read None = Err NoRow.Unassigned

abbrev pub numbered : Option ℕ → ℕ → ℕ → Option Insn
numbered (Some n) a b = Some (insn n a b)
numbered None a b = None

abbrev pub direct : ℕ → ℕ → Option Insn
direct n x = pick (ltb x 0xF4) (Some (insn n x 0)) None

abbrev pub direct_by_four : ℕ → ℕ → Option Insn
direct_by_four n x = pick (eqb (x % 4) 0) (direct n x) None

abbrev pub far : ℕ → ℕ → ℕ → Option Insn
far upper b1 b2 = pick (eqb (b1 / 16) 12) (Some (insn 49 (upper * 4096 + b1 % 16 * 256 + b2) 0)) None

-- r is what a code is that begins with the digits h and l; and with a second byte; and with a third
abbrev pub Begins1 : ℕ → ℕ → Option Insn → Type 0
Begins1 h l r = (ds : List ℕ) → as_read r ≡ read_digits (h ∷ l ∷ ds)

abbrev pub Begins2 : ℕ → ℕ → ℕ → Option Insn → Type 0
Begins2 h l b1 r = (ds : List ℕ) → as_read r ≡ read_digits (h ∷ l ∷ b1 / 16 ∷ b1 % 16 ∷ ds)

abbrev pub Begins3 : ℕ → ℕ → ℕ → ℕ → Option Insn → Type 0
Begins3 h l b1 b2 r = (ds : List ℕ) → as_read r ≡ read_digits (h ∷ l ∷ b1 / 16 ∷ b1 % 16 ∷ b2 / 16 ∷ b2 % 16 ∷ ds)

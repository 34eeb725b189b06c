-- The writer's promise, stated over the reader's table alone: 11, "operand outside its field, or the code is unassigned or another row's".
-- A value outside its field, a row that is none and a value in an operand that the row does not have are in no code; a code that is unassigned or another row's does not read as the instruction.
use Rattle.std.specs.Prelude.{ℕ, ◌<◌, List, [], ◌∷◌, ◌≡◌, eqb, length, take, get_or, Result, Ok, Err}
use Rattle.laws.specs.Choice.{pick}
use Rattle.numbers.specs.ComesBack.{Paper, answered, refused, not_to_be_written}
use Rattle.numbers.specs.Numbered.{refusal_number}
use Rattle.numbers.specs.declared.Refusal.{Refusal}
use Rattle.sheet.specs.Reading.{read_bytes, bytes_of}
use Rattle.sheet.specs.declared.Insn.{Insn}
use Rattle.writer.specs.declared.Code.{Code}

abbrev pub Written : Type 0
Written = Result Code Refusal

abbrev pub AreBytes : List ℕ → Type 0
AreBytes [] = Unit
AreBytes (b ∷ bs) = (b < 256) × AreBytes bs

-- the bytes are a code of the instruction: they read as it, and are as many as its row has
pub record CodeOf (i : Insn) (bs : List ℕ) : Type 0 where
  pub bytes : AreBytes bs
  pub size : length bs ≡ bytes_of i.row
  pub reads : read_bytes bs ≡ Ok i

-- document 01's number and values for each case of the writer's answer
abbrev pub paper_of : Written → Paper
paper_of (Ok c) = answered (take c.len (c.b0 ∷ c.b1 ∷ c.b2 ∷ []))
paper_of (Err refusal) = refused (refusal_number refusal)

-- what has to come back of an instruction: its code; or 11, where it has none
pub data WritePaper (i : Insn) (p : Paper) : Type 0 where
  code : (bs : List ℕ) → CodeOf i bs → p ≡ answered bs → WritePaper i p
  no_code : ((bs : List ℕ) → CodeOf i bs → ⊥) → p ≡ refused not_to_be_written → WritePaper i p

-- the answer that says a number and values and nothing besides: bytes past the code are 0
abbrev pub from_paper : Paper → Written
from_paper p =
    pick (eqb p.number 0)
    (Ok (record { len = length p.values; b0 = get_or p.values 0 0; b1 = get_or p.values 1 0; b2 = get_or p.values 2 0 }))
    (Err Refusal.NotToBeWritten)

pub record Writes (i : Insn) (r : Written) : Type 0 where
  pub paper : WritePaper i (paper_of r)
  pub nothing_besides : from_paper (paper_of r) ≡ r

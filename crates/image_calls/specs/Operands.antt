-- The operands of a row in its mnemonic's order, and where the row goes.
use Rattle.std.specs.Prelude.{ℕ, ◌<◌, Bool, true, false, List, [], ◌∷◌, get_or}
use Rattle.std.specs.Option.{unwrap_or}
use Rattle.laws.specs.Among.{among}
use Rattle.laws.specs.Choice.{pick}
use Rattle.numbers.specs.Sizes.{addresses}
use Rattle.sheet.specs.Fields.{field_a, field_b}
use Rattle.sheet.specs.Table.{line_at}
use Rattle.sheet.specs.declared.Insn.{Insn}
use Rattle.text.specs.Digits.{characters}
use Rattle.notation.specs.Notation.{mnemonic_of}
use Rattle.sheet.specs.Flow.{goes_to}

-- an instruction of the sheet, or 0 throughout: each operand within its field
abbrev pub Fits : Insn → Type 0
Fits i = (i.row < 108) × (i.a < field_a (line_at i.row).codes) × (i.b < field_b (line_at i.row).codes)

-- the letters that stand for operands, in their order, each with whether it is y or p: those are the slot b, the others the slot a
abbrev pub slots_in : List ℕ → List Bool
slots_in [] = []
slots_in (c ∷ cs) =
    pick (among (characters "xkabrn") c) (false ∷ slots_in cs) (pick (among (characters "yp") c) (true ∷ slots_in cs) (slots_in cs))

abbrev pub starts_with : List Bool → Bool
starts_with [] = false
starts_with (s ∷ ss) = s

-- whether a row's first operand is y or p
unfoldable pub begins_in_b : ℕ → Bool
begins_in_b row = starts_with (slots_in (mnemonic_of row))

-- those rows: CLP, CLR, SEP, SET, TF, TFP, TT, TTP, INA, INM, OUTA and OUTM; `among_them` of proofs/Goes.antt
abbrev pub from_b : List ℕ
from_b = 57 ∷ 59 ∷ 61 ∷ 63 ∷ 64 ∷ 67 ∷ 69 ∷ 70 ∷ 74 ∷ 75 ∷ 77 ∷ 78 ∷ []

abbrev pub operands_in : Insn → List Bool → List ℕ
operands_in i [] = []
operands_in i (s ∷ ss) = pick s i.b i.a ∷ operands_in i ss

-- "its operands in the mnemonic's order": the one at a place, 0 where the mnemonic has none there
unfoldable pub operand_at : Insn → ℕ → ℕ
operand_at i k = get_or (operands_in i (slots_in (mnemonic_of i.row))) k 0

-- "where it goes if it is a branch or a call (8192 if neither)"
unfoldable pub goes_from : ℕ → Insn → ℕ
goes_from at i = unwrap_or (goes_to at i) addresses

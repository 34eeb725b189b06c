-- The field of an operand: what its values stay below, by its bits in the object code; of xxxx xx00 that is 256, and only multiples of 4 are read.
use Rattle.std.specs.Prelude.{ℕ, suc, ◌*◌, ◌<◌, max, List, [], ◌∷◌}
use Prim.Native.String.{String}
use Rattle.laws.specs.Choice.{pick}
use Rattle.sheet.specs.Code.{Group, #, all, fixed1, fixed2, fixed3, above2, has_sign, Operand, absent, value}
use Rattle.sheet.specs.Table.{Code, line_at}
use Rattle.sheet.specs.declared.Insn.{Insn}

abbrev pub widened : String → Group → ℕ → ℕ
widened ls (# v) n = n
widened ls (all l) n = pick (has_sign ls l) (n * 16) n
widened ls (fixed1 v l) n = pick (has_sign ls l) (n * 8) n
widened ls (fixed2 v l) n = pick (has_sign ls l) (n * 4) n
widened ls (fixed3 v l) n = pick (has_sign ls l) (n * 2) n
widened ls (above2 l v) n = pick (has_sign ls l) (n * 16) n

abbrev pub field_from : ℕ → String → List Group → ℕ
field_from n ls [] = n
field_from n ls (g ∷ gs) = field_from (widened ls g n) ls gs

abbrev pub leads : Operand → ℕ
leads absent = 1
leads (value n) = suc n

-- of a row, over all its codes: its operand x, k, a, b, r or n; its operand y or p
abbrev pub field_a : List Code → ℕ
field_a [] = 1
field_a (c ∷ cs) = max (field_from (leads c.lead) "xkabrn" c.groups) (field_a cs)

abbrev pub field_b : List Code → ℕ
field_b [] = 1
field_b (c ∷ cs) = max (field_from 1 "yp" c.groups) (field_b cs)

-- an instruction of the sheet: one of its rows, and each operand within its field
pub record InFields (i : Insn) : Type 0 where
  pub some : 0 < i.row
  pub row : i.row < 108
  pub a : i.a < field_a (line_at i.row).codes
  pub b : i.b < field_b (line_at i.row).codes

-- The digits that a row's object code has with given operands, read off the table: what the writer tries.
use Rattle.std.specs.Prelude.{ℕ, zero, suc, ◌+◌, ◌-◌, ◌*◌, Bool, false, List, [], ◌∷◌, eqb, ltb}
use Prim.Native.String.{String}
use Rattle.laws.specs.Choice.{pick}
use Rattle.sheet.specs.Code.{Group, #, all, fixed1, fixed2, fixed3, above2, has_sign}
use Rattle.sheet.specs.Table.{Code, Line, line_at}
use Rattle.sheet.specs.declared.Insn.{Insn}

-- a group with 0 for the bits of operands
abbrev pub fixed_of : Group → ℕ
fixed_of (# v) = v
fixed_of (all l) = 0
fixed_of (fixed1 v l) = v * 8
fixed_of (fixed2 v l) = v * 4
fixed_of (fixed3 v l) = v * 2
fixed_of (above2 l v) = v

abbrev pub has : String → Group → Bool
has ls (# v) = false
has ls (all l) = has_sign ls l
has ls (fixed1 v l) = has_sign ls l
has ls (fixed2 v l) = has_sign ls l
has ls (fixed3 v l) = has_sign ls l
has ls (above2 l v) = has_sign ls l

abbrev pub fixed_at : List Group → ℕ → ℕ
fixed_at [] n = 0
fixed_at (g ∷ gs) zero = fixed_of g
fixed_at (g ∷ gs) (suc n) = fixed_at gs n

abbrev pub groups_of : List Code → List Group
groups_of [] = []
groups_of (c ∷ cs) = c.groups

-- of six digits, how many stand behind the last one that the first operand has
abbrev pub behind_in : List Group → ℕ → ℕ → ℕ
behind_in [] left n = n
behind_in (g ∷ gs) left n = behind_in gs (left - 1) (pick (has "xkabrn" g) (left - 1) n)

abbrev pub first_byte : Line → ℕ
first_byte l = fixed_at (groups_of l.codes) 0 * 16 + fixed_at (groups_of l.codes) 1

abbrev pub second_byte : Line → ℕ
second_byte l = fixed_at (groups_of l.codes) 2 * 16 + fixed_at (groups_of l.codes) 3

abbrev pub behind : Line → ℕ
behind l = behind_in (groups_of l.codes) 6 0

abbrev pub placed : ℕ → ℕ → ℕ
placed n k = pick (eqb k 4) (n * 65536) (pick (eqb k 3) (n * 4096) (pick (eqb k 2) (n * 256) n))

abbrev pub spelled_code : Line → ℕ → ℕ → ℕ
spelled_code l a b = first_byte l * 65536 + (second_byte l + b) * 256 + placed a (behind l)

-- SLBR's two codes
abbrev pub far_spelled : ℕ → ℕ
far_spelled a = pick (ltb 4095 a) (0x55B000 + a) (0x57C000 + a)

-- six digits as a number; the row 49 is SLBR
unfoldable pub spelling : Insn → ℕ
unfolding line_at
spelling i = pick (eqb i.row 49) (far_spelled i.a) (spelled_code (line_at i.row) i.a i.b)

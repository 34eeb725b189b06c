-- A row in the notation of sheet 000: its mnemonic, with each operand in the place of its letter. Sentences in quotation marks are of docs/PROGRAMS.md.
use Rattle.std.specs.Prelude.{ℕ, Bool, List, [], ◌∷◌, ◌++◌, eqb, unwrap_or}
use Prim.Native.Char.{Char, code}
use Rattle.laws.specs.Choice.{pick}
use Rattle.sheet.specs.Flow.{goes_to}
use Rattle.sheet.specs.Table.{line_at}
use Rattle.sheet.specs.declared.Insn.{Insn}
use Rattle.text.specs.Digits.{characters, in_base, hex, binary, decimal}

abbrev pub is : Char → ℕ → Bool
is letter c = eqb c (code letter)

-- "k as # one digit h; x two digits h; y one digit h; b decimal; p as P decimal; r six binary digits B; a branch or call shows where it goes, four digits h";
-- every other character of a mnemonic, the # among them, stands for itself
unfoldable pub sign : ℕ → Insn → ℕ → List ℕ
sign at i c =
    pick (is "k" c) (hex 1 i.a ++ characters "h")
    (pick (is "x" c) (hex 2 i.a ++ characters "h")
    (pick (is "y" c) (hex 1 i.b ++ characters "h")
    (pick (is "b" c) (in_base 10 1 i.a)
    (pick (is "p" c) (characters "P" ++ decimal i.b)
    (pick (is "r" c) (binary 6 i.a ++ characters "B")
    (pick (is "a" c) (hex 4 (unwrap_or (goes_to at i) 0) ++ characters "h")
    (c ∷ [])))))))

abbrev pub spelled : ℕ → Insn → List ℕ → List ℕ
spelled at i [] = []
spelled at i (c ∷ cs) = sign at i c ++ spelled at i cs

abbrev pub mnemonic_of : ℕ → List ℕ
mnemonic_of row = characters (line_at row).mnemonic

-- an instruction that stands at an address
abbrev pub row_text : ℕ → Insn → List ℕ
row_text at i = spelled at i (mnemonic_of i.row)

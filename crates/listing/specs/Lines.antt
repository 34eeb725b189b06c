-- Document 01, the runner's lines: the header, and what a step prints.
use Rattle.std.specs.Prelude.{ℕ, Bool, List, [], ◌∷◌, ◌++◌}
use Rattle.bits.specs.Bits.{bit_of}
use Rattle.record.specs.declared.Registers.{Registers}
use Rattle.record.specs.declared.Core.{Core}
use Rattle.text.specs.Digits.{characters, joined, in_base, hex, binary, decimal, blanks}

abbrev pub header : List ℕ
header = characters "PC A H L S CZS C X\n"

-- one blank between the columns of a line
abbrev pub column : List ℕ → List ℕ
column text = text ++ blanks 1

-- "CF ZF SF (binary)", under CZS
abbrev pub flag_text : Bool → List ℕ
flag_text b = binary 1 (bit_of b)

abbrev pub flags_text : Registers → List ℕ
flags_text r = flag_text r.cf ++ (flag_text r.zf ++ flag_text r.sf)

-- "PC, ACC, HR, LR, SP (upper-case hexadecimal)"
abbrev pub registers_text : ℕ → Registers → ℕ → List ℕ
registers_text pc r sp =
    joined
    (column (hex 4 pc) ∷ column (hex 1 r.acc) ∷ column (hex 1 r.hr) ∷ column (hex 1 r.lr) ∷ column (hex 1 sp) ∷ [])

-- "cycles of the step, stop (both decimal, the stop two digits)", and the line's end
abbrev pub end_text : ℕ → ℕ → List ℕ
end_text cycles stop = joined (column (decimal cycles) ∷ in_base 10 2 stop ∷ characters "\n" ∷ [])

-- what "each step prints": the record after it, its cycles and its stop
unfoldable pub step_line : Core → ℕ → ℕ → List ℕ
step_line m cycles stop = joined (registers_text m.pc m.regs m.ptrs.sp ∷ column (flags_text m.regs) ∷ end_text cycles stop ∷ [])

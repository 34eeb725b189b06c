-- The instruction table of sheet 000 ("INSTRUCTION TABLE", sections 1 to 14), a line a row: mnemonic, object code, operation, bytes, cycles and the flags C, Z and S.
use Rattle.std.specs.Prelude.{ℕ, zero, suc, List, [], ◌∷◌, ◌++◌}
use Prim.Native.String.{String}
use lib.Text.{eqt}
use Rattle.laws.specs.Choice.{pick}
use Rattle.sheet.specs.Code.{Group, groups_of, Operand, absent, value}
use Rattle.sheet.specs.Operation.{Operation, ◌⟵◌, ◌⟵◌plus◌, ◌⟵◌plus◌plus-CF, ◌⟵◌minus◌, ◌⟵◌minus◌minus-CF', ◌⟵◌and◌, ◌⟵◌or◌, ◌⟵◌xor◌, ◌⟵◌then◌, ◌⟵◌besides◌, ◌⟷◌, ◌⟷◌besides◌, ⟵CF⟵Acc⟵, ⟶CF⟶Acc⟶, compare◌minus◌, ◌bit◌⟵0, ◌bit◌⟵1, SF⟵◌bit◌, SF⟵◌bit◌', SF⟵CF, SF⟵CF', SF⟵ZF, LR+1, LR-1, HR⟵RAM[x+1], HR⟷RAM[x+1], Acc, HR, LR, k, one, b, LR₁₋₀, RAM[HL], RAM[x], RAM[y], PORT[p], PORT[LR₃₋₂+4], SP, [DP]L, [DP]M, [DP]H, [TA]L, [TA]M, [TA]H, [TB]L, [TB]M, [TB]H, ROM[DP]L, ROM[DP]H, MASK}
use Rattle.sheet.specs.Operation.Step.{DP+1}
use Rattle.sheet.specs.Operation.Operation.{branch, call, return, return_flag, IL⟵IL-and-r, no_operation}
use Rattle.sheet.specs.Operation.Target.{page, half, whole}
use Rattle.sheet.specs.Operation.Entry.{long, short}
use Rattle.sheet.specs.Operation.Enable.{EI⟵EI, EI⟵0, EI⟵1}

-- the marks of the flag columns: -, C, C', Z, Z', 0, 1, *
pub data Mark : Type 0 where
  kept carry not_carry is_zero not_zero clear set by_operation : Mark

abbrev pub mark : String → Mark
mark t =
    pick (eqt t "-") kept
    (pick (eqt t "C") carry
    (pick (eqt t "C'") not_carry
    (pick (eqt t "Z") is_zero (pick (eqt t "Z'") not_zero (pick (eqt t "0") clear (pick (eqt t "1") set by_operation))))))

-- an object code, and what its operand begins with before the first of its letters: nothing, but for SLBR
pub record Code : Type 0 where
  pub groups : List Group
  pub lead : Operand

pub record Line : Type 0 where
  pub mnemonic : String
  pub codes : List Code
  pub operation : Operation
  pub bytes : ℕ
  pub cycles : ℕ
  pub c : Mark
  pub z : Mark
  pub s : Mark

-- the same as the sheet prints them: the object codes and the marks are texts
pub record PrintedCode : Type 0 where
  pub text : String
  pub lead : Operand

pub record Printed : Type 0 where
  pub mnemonic : String
  pub codes : List PrintedCode
  pub operation : Operation
  pub bytes : ℕ
  pub cycles : ℕ
  pub c : String
  pub z : String
  pub s : String

abbrev pub codes_of : List PrintedCode → List Code
codes_of [] = []
codes_of (p ∷ ps) = record { groups = groups_of p.text; lead = p.lead } ∷ codes_of ps

abbrev pub line_of : Printed → Line
line_of p = record { mnemonic = p.mnemonic; codes = codes_of p.codes; operation = p.operation; bytes = p.bytes; cycles = p.cycles; c = mark p.c; z = mark p.z; s = mark p.s }

abbrev pub lines_of : List Printed → List Line
lines_of [] = []
lines_of (p ∷ ps) = line_of p ∷ lines_of ps

abbrev pub line : String → List PrintedCode → Operation → ℕ → ℕ → String → String → String → Printed
line name codes o n t fc fz fs = record { mnemonic = name; codes = codes; operation = o; bytes = n; cycles = t; c = fc; z = fz; s = fs }

-- a line of the sheet: mnemonic, object code, operation, bytes, cycles, C, Z, S
abbrev pub row : String → String → Operation → ℕ → ℕ → String → String → String → Printed
row name code o n t fc fz fs = line name (record { text = code; lead = absent } ∷ []) o n t fc fz fs

-- a row that the sheet prints with two codes
infix 20 ◌with-a₁₂◌
abbrev pub ◌with-a₁₂◌ : String → ℕ → PrintedCode
◌with-a₁₂◌ t n = record { text = t; lead = value n }

abbrev pub row² : String → PrintedCode → PrintedCode → Operation → ℕ → ℕ → String → String → String → Printed
row² name code other o n t fc fz fs = line name (code ∷ other ∷ []) o n t fc fz fs

-- (1) Data Transfer
abbrev pub data_transfer : List Printed
data_transfer =
    row "LDA x" "0110 1010 xxxx xxxx" (Acc ⟵ RAM[x]) 2 2 "-" "Z" "1" ∷
    row "LDAM" "0101 1010" (Acc ⟵ RAM[HL]) 1 1 "-" "Z" "1" ∷
    row "LDAX" "0110 0101" (Acc ⟵ ROM[DP]L) 1 2 "-" "Z" "1" ∷
    row "LDAXI" "0110 0111" (Acc ⟵ ROM[DP]H besides DP+1) 1 2 "-" "Z" "1" ∷
    row "LDH #k" "1001 kkkk" (HR ⟵ k) 1 1 "-" "-" "1" ∷
    row "LDHL x" "0100 1110 xxxx xx00" (LR ⟵ RAM[x] besides HR⟵RAM[x+1]) 2 2 "-" "-" "1" ∷
    row "LDIA #k" "1101 kkkk" (Acc ⟵ k) 1 1 "-" "Z" "1" ∷
    row "LDL #k" "1000 kkkk" (LR ⟵ k) 1 1 "-" "-" "1" ∷
    row "STA x" "0110 1001 xxxx xxxx" (RAM[x] ⟵ Acc) 2 2 "-" "-" "1" ∷
    row "STAM" "0101 1001" (RAM[HL] ⟵ Acc) 1 1 "-" "-" "1" ∷
    row "STAMD" "0111 1101" (RAM[HL] ⟵ Acc then LR-1) 1 1 "-" "Z" "C" ∷
    row "STAMI" "0111 1111" (RAM[HL] ⟵ Acc then LR+1) 1 1 "-" "Z" "C'" ∷
    row "STD #k,y" "0100 1000 kkkk yyyy" (RAM[y] ⟵ k) 2 2 "-" "-" "1" ∷
    row "STDMI #k" "1010 kkkk" (RAM[HL] ⟵ k then LR+1) 1 1 "-" "Z" "C'" ∷
    row "THA" "0111 0110" (Acc ⟵ HR) 1 1 "-" "Z" "1" ∷
    row "TLA" "0111 0100" (Acc ⟵ LR) 1 1 "-" "Z" "1" ∷
    []

-- (2) Rotate
abbrev pub rotate : List Printed
rotate =
    row "RLCA" "0101 0000" ⟵CF⟵Acc⟵ 1 1 "C" "Z" "C'" ∷
    row "RRCA" "0101 0001" ⟶CF⟶Acc⟶ 1 1 "C" "Z" "C'" ∷
    []

-- (3) Arithmetic operation
abbrev pub arithmetic_operation : List Printed
arithmetic_operation =
    row "ADCAM" "0111 0000" (Acc ⟵ Acc plus RAM[HL] plus-CF) 1 1 "C" "Z" "C'" ∷
    row "ADD #k,y" "0100 1001 kkkk yyyy" (RAM[y] ⟵ RAM[y] plus k) 2 2 "-" "Z" "C'" ∷
    row "ADDA #k" "0110 1110 0101 kkkk" (Acc ⟵ Acc plus k) 2 2 "-" "Z" "C'" ∷
    row "ADDAM" "0111 0001" (Acc ⟵ Acc plus RAM[HL]) 1 1 "-" "Z" "C'" ∷
    row "ADDH #k" "0110 1110 1001 kkkk" (HR ⟵ HR plus k) 2 2 "-" "Z" "C'" ∷
    row "ADDL #k" "0110 1110 0001 kkkk" (LR ⟵ LR plus k) 2 2 "-" "Z" "C'" ∷
    row "ADDM #k" "0110 1110 1101 kkkk" (RAM[HL] ⟵ RAM[HL] plus k) 2 2 "-" "Z" "C'" ∷
    row "DECA" "0101 1100" (Acc ⟵ Acc minus one) 1 1 "-" "Z" "C" ∷
    row "DECL" "0111 1100" (LR ⟵ LR minus one) 1 1 "-" "Z" "C" ∷
    row "DECM" "0101 1101" (RAM[HL] ⟵ RAM[HL] minus one) 1 1 "-" "Z" "C" ∷
    row "INCA" "0101 1110" (Acc ⟵ Acc plus one) 1 1 "-" "Z" "C'" ∷
    row "INCL" "0111 1110" (LR ⟵ LR plus one) 1 1 "-" "Z" "C'" ∷
    row "INCM" "0101 1111" (RAM[HL] ⟵ RAM[HL] plus one) 1 1 "-" "Z" "C'" ∷
    row "SUBA #k" "0110 1110 0111 kkkk" (Acc ⟵ k minus Acc) 2 2 "-" "Z" "C" ∷
    row "SBCAM" "0111 0010" (Acc ⟵ RAM[HL] minus Acc minus-CF') 1 1 "C" "Z" "C" ∷
    row "SUBM #k" "0110 1110 1111 kkkk" (RAM[HL] ⟵ k minus RAM[HL]) 2 2 "-" "Z" "C" ∷
    []

-- (4) Logical operation
abbrev pub logical_operation : List Printed
logical_operation =
    row "ANDA #k" "0110 1110 0110 kkkk" (Acc ⟵ Acc and k) 2 2 "-" "Z" "Z'" ∷
    row "ANDAM" "0111 1011" (Acc ⟵ Acc and RAM[HL]) 1 1 "-" "Z" "Z'" ∷
    row "ANDM #k" "0110 1110 1110 kkkk" (RAM[HL] ⟵ RAM[HL] and k) 2 2 "-" "Z" "Z'" ∷
    row "ORA #k" "0110 1110 0100 kkkk" (Acc ⟵ Acc or k) 2 2 "-" "Z" "Z'" ∷
    row "ORAM" "0111 1000" (Acc ⟵ Acc or RAM[HL]) 1 1 "-" "Z" "Z'" ∷
    row "ORM #k" "0110 1110 1100 kkkk" (RAM[HL] ⟵ RAM[HL] or k) 2 2 "-" "Z" "Z'" ∷
    row "XORAM" "0111 1001" (Acc ⟵ Acc xor RAM[HL]) 1 1 "-" "Z" "Z'" ∷
    []

-- (5) Exchange
abbrev pub exchange : List Printed
exchange =
    row "EXA x" "0110 1000 xxxx xxxx" (Acc ⟷ RAM[x]) 2 2 "-" "Z" "1" ∷
    row "EXAH" "0110 0110" (Acc ⟷ HR) 1 2 "-" "Z" "1" ∷
    row "EXAL" "0110 0100" (Acc ⟷ LR) 1 2 "-" "Z" "1" ∷
    row "EXAM" "0101 1000" (Acc ⟷ RAM[HL]) 1 1 "-" "Z" "1" ∷
    row "EXHL x" "0100 1100 xxxx xx00" (LR ⟷ RAM[x] besides HR⟷RAM[x+1]) 2 2 "-" "-" "1" ∷
    []

-- (6) Branch
abbrev pub branching : List Printed
branching =
    row "SBR a" "00aa aaaa" (branch page) 1 1 "-" "-" "1" ∷
    row "LBR a" "1100 aaaa aaaa aaaa" (branch half) 2 2 "-" "-" "1" ∷
    row² "SLBR a" ("0101 0101 1100 aaaa aaaa aaaa" with-a₁₂ 1) ("0101 0111 1100 aaaa aaaa aaaa" with-a₁₂ 0) (branch whole) 3 3 "-" "-" "1" ∷
    []

-- (7) Compare
abbrev pub comparison : List Printed
comparison =
    row "CMP #k,y" "0100 1011 kkkk yyyy" (compare k minus RAM[y]) 2 2 "C" "Z" "Z'" ∷
    row "CPMA x" "0110 1011 xxxx xxxx" (compare RAM[x] minus Acc) 2 2 "C" "Z" "Z'" ∷
    row "CMPAM" "0111 0011" (compare RAM[HL] minus Acc) 1 1 "C" "Z" "Z'" ∷
    row "CMPH #k" "0110 1110 1011 kkkk" (compare k minus HR) 2 2 "-" "Z" "C" ∷
    row "CMPIA #k" "1011 kkkk" (compare k minus Acc) 1 1 "C" "Z" "Z'" ∷
    row "CMPL #k" "0110 1110 0011 kkkk" (compare k minus LR) 2 2 "-" "Z" "C" ∷
    []

-- (8) Bit manipulation
abbrev pub bit_manipulation : List Printed
bit_manipulation =
    row "CLM b" "1111 00bb" (RAM[HL] bit b ⟵0) 1 1 "-" "-" "1" ∷
    row "CLP p,b" "0110 1101 11bb pppp" (PORT[p] bit b ⟵0) 2 2 "-" "-" "1" ∷
    row "CLPL" "0110 0000" (PORT[LR₃₋₂+4] bit LR₁₋₀ ⟵0) 1 2 "-" "-" "1" ∷
    row "CLR y,b" "0110 1100 11bb yyyy" (RAM[y] bit b ⟵0) 2 2 "-" "-" "1" ∷
    row "SEM b" "1111 01bb" (RAM[HL] bit b ⟵1) 1 1 "-" "-" "1" ∷
    row "SEP p,b" "0110 1101 01bb pppp" (PORT[p] bit b ⟵1) 2 2 "-" "-" "1" ∷
    row "SEPL" "0110 0010" (PORT[LR₃₋₂+4] bit LR₁₋₀ ⟵1) 1 2 "-" "-" "1" ∷
    row "SET y,b" "0110 1100 01bb yyyy" (RAM[y] bit b ⟵1) 2 2 "-" "-" "1" ∷
    row "TF y,b" "0110 1100 00bb yyyy" (SF⟵ RAM[y] bit b ') 2 2 "-" "-" "*" ∷
    row "TFA b" "1111 10bb" (SF⟵ Acc bit b ') 1 1 "-" "-" "*" ∷
    row "TFM b" "1111 11bb" (SF⟵ RAM[HL] bit b ') 1 1 "-" "-" "*" ∷
    row "TFP p,b" "0110 1101 00bb pppp" (SF⟵ PORT[p] bit b ') 2 2 "-" "-" "*" ∷
    row "TFPL" "0110 0001" (SF⟵ PORT[LR₃₋₂+4] bit LR₁₋₀ ') 1 2 "-" "-" "*" ∷
    row "TT y,b" "0110 1100 10bb yyyy" (SF⟵ RAM[y] bit b) 2 2 "-" "-" "*" ∷
    row "TTP p,b" "0110 1101 10bb pppp" (SF⟵ PORT[p] bit b) 2 2 "-" "-" "*" ∷
    []

-- (9) Subroutine
abbrev pub subroutine : List Printed
subroutine =
    row "LCALL a" "0100 0aaa aaaa aaaa" (call long) 2 2 "-" "-" "-" ∷
    row "SCALL a" "1110 nnnn" (call short) 1 2 "-" "-" "-" ∷
    row "RET" "0100 1111" return 1 2 "-" "-" "-" ∷
    []

-- (10) Input/output
abbrev pub input_output : List Printed
input_output =
    row "INA p" "0110 1111 0100 pppp" (Acc ⟵ PORT[p]) 2 2 "-" "Z" "Z'" ∷
    row "INM p" "0110 1111 1100 pppp" (RAM[HL] ⟵ PORT[p]) 2 2 "-" "-" "Z'" ∷
    row "OUT #k,p" "0100 1010 kkkk pppp" (PORT[p] ⟵ k) 2 2 "-" "-" "1" ∷
    row "OUTA p" "0110 1111 000p pppp" (PORT[p] ⟵ Acc) 2 2 "-" "-" "1" ∷
    row "OUTM p" "0110 1111 100p pppp" (PORT[p] ⟵ RAM[HL]) 2 2 "-" "-" "1" ∷
    []

-- (11) Flag manipulation
abbrev pub flag_manipulation : List Printed
flag_manipulation =
    row "TFCFC" "0101 0011" SF⟵CF' 1 1 "0" "-" "*" ∷
    row "TTCFS" "0101 0010" SF⟵CF 1 1 "1" "-" "*" ∷
    row "TZS" "0101 1011" SF⟵ZF 1 1 "-" "-" "*" ∷
    []

-- (12) Interrupt control
abbrev pub interrupt_control : List Printed
interrupt_control =
    row "CIL r" "0110 0011 11rr rrrr" (IL⟵IL-and-r EI⟵EI) 2 2 "-" "-" "1" ∷
    row "DICIL r" "0110 0011 10rr rrrr" (IL⟵IL-and-r EI⟵0) 2 2 "-" "-" "1" ∷
    row "EICIL r" "0110 0011 01rr rrrr" (IL⟵IL-and-r EI⟵1) 2 2 "-" "-" "1" ∷
    row "EXAE" "0111 0101" (MASK ⟷ Acc) 1 1 "-" "-" "1" ∷
    row "RTI" "0100 1101" return_flag 1 2 "*" "*" "*" ∷
    []

-- (13) CPU control
abbrev pub cpu_control : List Printed
cpu_control =
    row "NOP" "0101 0110" no_operation 1 1 "-" "-" "-" ∷
    []

-- (14) Timer/Counter & Data pointer & Stack pointer control
abbrev pub timer_data_pointer_stack_pointer : List Printed
timer_data_pointer_stack_pointer =
    row "LDADPL" "0110 1010 1111 1100" (Acc ⟵ [DP]L) 2 2 "-" "Z" "1" ∷
    row "LDADPM" "0110 1010 1111 1101" (Acc ⟵ [DP]M) 2 2 "-" "Z" "1" ∷
    row "LDADPH" "0110 1010 1111 1110" (Acc ⟵ [DP]H) 2 2 "-" "Z" "1" ∷
    row "LDASP" "0110 1010 1111 1111" (Acc ⟵ SP) 2 2 "-" "Z" "1" ∷
    row "LDATAL" "0110 1010 1111 0100" (Acc ⟵ [TA]L) 2 2 "-" "Z" "1" ∷
    row "LDATAM" "0110 1010 1111 0101" (Acc ⟵ [TA]M) 2 2 "-" "Z" "1" ∷
    row "LDATAH" "0110 1010 1111 0110" (Acc ⟵ [TA]H) 2 2 "-" "Z" "1" ∷
    row "LDATBL" "0110 1010 1111 1000" (Acc ⟵ [TB]L) 2 2 "-" "Z" "1" ∷
    row "LDATBM" "0110 1010 1111 1001" (Acc ⟵ [TB]M) 2 2 "-" "Z" "1" ∷
    row "LDATBH" "0110 1010 1111 1010" (Acc ⟵ [TB]H) 2 2 "-" "Z" "1" ∷
    row "STADPL" "0110 1001 1111 1100" ([DP]L ⟵ Acc) 2 2 "-" "-" "1" ∷
    row "STADPM" "0110 1001 1111 1101" ([DP]M ⟵ Acc) 2 2 "-" "-" "1" ∷
    row "STADPH" "0110 1001 1111 1110" ([DP]H ⟵ Acc) 2 2 "-" "-" "1" ∷
    row "STASP" "0110 1001 1111 1111" (SP ⟵ Acc) 2 2 "-" "-" "1" ∷
    row "STATAL" "0110 1001 1111 0100" ([TA]L ⟵ Acc) 2 2 "-" "-" "1" ∷
    row "STATAM" "0110 1001 1111 0101" ([TA]M ⟵ Acc) 2 2 "-" "-" "1" ∷
    row "STATAH" "0110 1001 1111 0110" ([TA]H ⟵ Acc) 2 2 "-" "-" "1" ∷
    row "STATBL" "0110 1001 1111 1000" ([TB]L ⟵ Acc) 2 2 "-" "-" "1" ∷
    row "STATBM" "0110 1001 1111 1001" ([TB]M ⟵ Acc) 2 2 "-" "-" "1" ∷
    row "STATBH" "0110 1001 1111 1010" ([TB]H ⟵ Acc) 2 2 "-" "-" "1" ∷
    []

-- the rows in the order of the sheet: their numbers are 1 to 107
abbrev pub printed : List Printed
printed = data_transfer ++ (rotate ++ (arithmetic_operation ++ (logical_operation ++ (exchange ++ (branching ++ (comparison ++ (bit_manipulation ++ (subroutine ++ (input_output ++ (flag_manipulation ++ (interrupt_control ++ (cpu_control ++ (timer_data_pointer_stack_pointer)))))))))))))

unfoldable pub lines : List Line
lines = lines_of printed

-- what a number that is no row's has for its line
abbrev pub no_line : Line
no_line = line_of (line "" [] no_operation 0 0 "-" "-" "-")

abbrev pub line_in : List Line → ℕ → Line
line_in ls zero = no_line
line_in [] (suc n) = no_line
line_in (l ∷ ls) (suc zero) = l
line_in (l ∷ ls) (suc (suc n)) = line_in ls (suc n)

-- the line of a row number
unfoldable pub line_at : ℕ → Line
unfolding lines
line_at n = line_in lines n

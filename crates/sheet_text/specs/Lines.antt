-- A line of sheet 000's instruction table as characters, as a certificate shows it: mnemonic, object code, operation, bytes, cycles and the flags C, Z and S, with " | " between them.
-- The sheet's arrows are <- and <->, its signs for or and exclusive or are words, its subscripts stand on the line, and a bit of a nibble is said in a word.
use Rattle.std.specs.Prelude.{ℕ, zero, suc, ◌-◌, List, [], ◌∷◌, ◌++◌, leb, length}
use Prim.Native.String.{String}
use Rattle.laws.specs.Choice.{pick}
use Rattle.sheet.specs.Operation.{Register, Given, Cell, Port, Part, Pointer, Half, Place, Op, Step, After, Target, Entry, Enable, Operation}
use Rattle.sheet.specs.Operation.Register.{acc, hr, lr}
use Rattle.sheet.specs.Operation.Given.{nothing, operand_k, unit, bit_b, bit_l, cf, zf}
use Rattle.sheet.specs.Operation.Cell.{by_hl, by_x, beside_x_lem, by_y}
use Rattle.sheet.specs.Operation.Port.{pins_p, pins_l, latch_p, latch_l}
use Rattle.sheet.specs.Operation.Part.{low, middle, high}
use Rattle.sheet.specs.Operation.Pointer.{sp, dp, ta, tb}
use Rattle.sheet.specs.Operation.Half.{low_half_lem, high_half_lem}
use Rattle.sheet.specs.Operation.Place.{register, given, cell, port, pointer, rom, mask}
use Rattle.sheet.specs.Operation.Op.{Move, Plus, PlusCF, Minus, MinusCF', And, Or, Xor, Clear, Set, Has, Lacks, RotateLeft, RotateRight}
use Rattle.sheet.specs.Operation.Step.{put, exchange, DP+1}
use Rattle.sheet.specs.Operation.After.{alone, flags_of, flags_before}
use Rattle.sheet.specs.Operation.Target.{page, half, whole}
use Rattle.sheet.specs.Operation.Entry.{long, short}
use Rattle.sheet.specs.Operation.Enable.{EI⟵EI, EI⟵0, EI⟵1}
use Rattle.sheet.specs.Operation.Operation.{work, branch, call, return, return_flag, IL⟵IL-and-r, no_operation}
use Rattle.sheet.specs.Table.{PrintedCode, Printed, printed, data_transfer, rotate, arithmetic_operation, logical_operation, exchange as exchanging, branching, comparison, bit_manipulation, subroutine, input_output, flag_manipulation, interrupt_control, cpu_control, timer_data_pointer_stack_pointer}
use Rattle.text.specs.Digits.{characters, decimal}

abbrev pub register_name : Register → String
register_name acc = "Acc"
register_name hr = "HR"
register_name lr = "LR"

abbrev pub given_name : Given → String
given_name nothing = ""
given_name operand_k = "k"
given_name unit = "1"
given_name bit_b = "b"
given_name bit_l = "LR1-0"
given_name cf = "CF"
given_name zf = "ZF"

abbrev pub cell_name : Cell → String
cell_name by_hl = "RAM[HL]"
cell_name by_x = "RAM[x]"
cell_name beside_x_lem = "RAM[x+1]"
cell_name by_y = "RAM[y]"

-- the sheet has one name for a port's pins and its latch
abbrev pub port_name : Port → String
port_name pins_p = "PORT[p]"
port_name latch_p = "PORT[p]"
port_name pins_l = "PORT[LR3-2+4]"
port_name latch_l = "PORT[LR3-2+4]"

abbrev pub part_name : Part → String
part_name low = "L"
part_name middle = "M"
part_name high = "H"

abbrev pub pointer_text : Pointer → List ℕ
pointer_text sp = characters "SP"
pointer_text (dp p) = characters "[DP]" ++ characters (part_name p)
pointer_text (ta p) = characters "[TA]" ++ characters (part_name p)
pointer_text (tb p) = characters "[TB]" ++ characters (part_name p)

abbrev pub half_name : Half → String
half_name low_half_lem = "ROM[DP]L"
half_name high_half_lem = "ROM[DP]H"

abbrev pub place_text : Place → List ℕ
place_text (register r) = characters (register_name r)
place_text (given g) = characters (given_name g)
place_text (cell c) = characters (cell_name c)
place_text (port p) = characters (port_name p)
place_text (pointer p) = pointer_text p
place_text (rom h) = characters (half_name h)
place_text mask = characters "MASK"

-- x sign y, put into a place; a compare puts it into none
abbrev pub between : Place → String → Place → List ℕ
between x sign y = place_text x ++ (characters sign ++ place_text y)

abbrev pub into : Place → List ℕ → List ℕ
into (given g) text = text
into (register r) text = place_text (register r) ++ (characters " <- " ++ text)
into (cell c) text = place_text (cell c) ++ (characters " <- " ++ text)
into (port p) text = place_text (port p) ++ (characters " <- " ++ text)
into (pointer p) text = place_text (pointer p) ++ (characters " <- " ++ text)
into (rom h) text = place_text (rom h) ++ (characters " <- " ++ text)
into mask text = place_text mask ++ (characters " <- " ++ text)

-- the bit y of x; of a flag the flag itself
abbrev pub bit_text : Place → Place → List ℕ
bit_text (given g) y = place_text (given g)
bit_text (register r) y = between (register r) " bit " y
bit_text (cell c) y = between (cell c) " bit " y
bit_text (port p) y = between (port p) " bit " y
bit_text (pointer p) y = between (pointer p) " bit " y
bit_text (rom h) y = between (rom h) " bit " y
bit_text mask y = between mask " bit " y

abbrev pub made_text : Place → Op → Place → Place → List ℕ
made_text d Move x y = into d (place_text x)
made_text d Plus x y = into d (between x " + " y)
made_text d PlusCF x y = into d (between x " + " y ++ characters " + CF")
made_text d Minus x y = into d (between x " - " y)
made_text d MinusCF' x y = into d (between x " - " y ++ characters " - CF'")
made_text d And x y = into d (between x " & " y)
made_text d Or x y = into d (between x " or " y)
made_text d Xor x y = into d (between x " xor " y)
made_text d Clear x y = bit_text d y ++ characters " <- 0"
made_text d Set x y = bit_text d y ++ characters " <- 1"
made_text d Has x y = characters "SF <- " ++ bit_text x y
made_text d Lacks x y = characters "SF <- " ++ (bit_text x y ++ characters "'")
made_text d RotateLeft x y = characters "<- CF <- Acc <-"
made_text d RotateRight x y = characters "-> CF -> Acc ->"

abbrev pub step_text : Step → List ℕ
step_text (put d o x y) = made_text d o x y
step_text (exchange x y) = between x " <-> " y
step_text DP+1 = characters "DP + 1"

abbrev pub after_text : After → List ℕ
after_text alone = []
after_text (flags_of s) = characters ", " ++ step_text s
after_text (flags_before s) = characters ", " ++ step_text s

abbrev pub target_name : Target → String
target_name page = "if SF = 1 then PC <- PC12-6.a5-0 else null"
target_name half = "if SF = 1 then PC <- a else null"
target_name whole = "if SF = 1 then PC <- a else null"

abbrev pub entry_name : Entry → String
entry_name long = "STACK[SP] <- PC, SP <- SP - 1, PC <- a"
entry_name short = "STACK[SP] <- PC, SP <- SP - 1, PC <- a, a = 8n + 6 (n = 1 to 15), 0086h (n = 0)"

abbrev pub enable_name : Enable → String
enable_name EI⟵EI = ""
enable_name EI⟵0 = "EIF <- 0, "
enable_name EI⟵1 = "EIF <- 1, "

abbrev pub operation_text : Operation → List ℕ
operation_text (work s a) = step_text s ++ after_text a
operation_text (branch t) = characters (target_name t)
operation_text (call e) = characters (entry_name e)
operation_text return = characters "SP <- SP + 1, PC <- STACK[SP]"
operation_text return_flag = characters "SP <- SP + 1, FLAG.PC <- STACK[SP], EIF <- 1"
operation_text (IL⟵IL-and-r e) = characters (enable_name e) ++ characters "IL <- IL & r"
operation_text no_operation = characters "no operation"

-- a row that the sheet prints with two codes has both
abbrev pub codes_text : List PrintedCode → List ℕ
codes_text [] = []
codes_text (c ∷ []) = characters c.text
codes_text (c ∷ e ∷ cs) = characters c.text ++ (characters " or " ++ codes_text (e ∷ cs))

abbrev pub bar : List ℕ
bar = characters " | "

abbrev pub line_text : Printed → List ℕ
line_text p =
    characters p.mnemonic ++
    (bar ++
    (codes_text p.codes ++
    (bar ++
    (operation_text p.operation ++
    (bar ++
    (decimal p.bytes ++
    (bar ++ (decimal p.cycles ++ (bar ++ (characters p.c ++ (characters " " ++ (characters p.z ++ (characters " " ++ characters p.s)))))))))))))

-- the sections of the table, by the rows that they have
abbrev pub sections : List (List Printed)
sections = data_transfer ∷ rotate ∷ arithmetic_operation ∷ logical_operation ∷ exchanging ∷ branching ∷ comparison ∷ bit_manipulation ∷ subroutine ∷ input_output ∷ flag_manipulation ∷ interrupt_control ∷ cpu_control ∷ timer_data_pointer_stack_pointer ∷ []

abbrev pub section_in : List (List Printed) → ℕ → ℕ → ℕ
section_in [] n row = 0
section_in (s ∷ ss) n row = pick (leb row (length s)) n (section_in ss (suc n) (row - length s))

-- the number of the section in which a row stands; 0 of a number that is no row's
unfoldable pub section_of : ℕ → ℕ
section_of row = pick (leb row 0) 0 (section_in sections 1 row)

-- the sections' headings
abbrev pub titles : List String
titles =
    "(1) Data Transfer" ∷
    "(2) Rotate" ∷
    "(3) Arithmetic operation" ∷
    "(4) Logical operation" ∷
    "(5) Exchange" ∷
    "(6) Branch" ∷
    "(7) Compare" ∷
    "(8) Bit manipulation" ∷
    "(9) Subroutine" ∷
    "(10) Input/output" ∷
    "(11) Flag manipulation" ∷
    "(12) Interrupt control" ∷
    "(13) CPU control" ∷
    "(14) Timer/Counter & Data pointer & Stack pointer control" ∷
    []

abbrev pub lines_of : List Printed → List (List ℕ)
lines_of [] = []
lines_of (p ∷ ps) = line_text p ∷ lines_of ps

abbrev pub headings_of : List String → List (List ℕ)
headings_of [] = []
headings_of (t ∷ ts) = characters t ∷ headings_of ts

-- the lines of the rows 1 to 107, then the headings of the sections, 14 of them
abbrev pub texts : List (List ℕ)
texts = lines_of printed ++ headings_of titles

abbrev pub text_in : List (List ℕ) → ℕ → List ℕ
text_in ts zero = []
text_in [] (suc n) = []
text_in (t ∷ ts) (suc zero) = t
text_in (t ∷ ts) (suc (suc n)) = text_in ts (suc n)

-- the line of a row number, and the heading of the section n as 107 + n; another number has no text
unfoldable pub sheet_text : ℕ → List ℕ
sheet_text n = text_in texts n

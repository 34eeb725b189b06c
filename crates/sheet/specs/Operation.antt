-- The operation column of sheet 000's instruction table as data, in the sheet's own symbols.

-- a register; what the row itself gives (its operand k, one, the bit that b or LR 1..0 names, nothing); a flag read as a bit
pub data Register : Type 0 where
  acc hr lr : Register

pub data Given : Type 0 where
  nothing operand_k unit bit_b bit_l cf zf : Given

-- a nibble of RAM: by HL, by x, beside x, by y in the zero page
pub data Cell : Type 0 where
  by_hl by_x beside_x_lem by_y : Cell

-- a port, named by p or by LR 3..2: its pins where it is read, the port where it is written; or what its latch holds
pub data Port : Type 0 where
  pins_p pins_l latch_p latch_l : Port

pub data Part : Type 0 where
  low middle high : Part

pub data Pointer : Type 0 where
  sp : Pointer
  dp ta tb : Part → Pointer

pub data Half : Type 0 where
  low_half_lem high_half_lem : Half

pub data Place : Type 0 where
  register : Register → Place
  given : Given → Place
  cell : Cell → Place
  port : Port → Place
  pointer : Pointer → Place
  rom : Half → Place
  mask : Place

abbrev pub Acc : Place
Acc = register acc

abbrev pub HR : Place
HR = register hr

abbrev pub LR : Place
LR = register lr

abbrev pub none : Place
none = given nothing

abbrev pub k : Place
k = given operand_k

abbrev pub one : Place
one = given unit

abbrev pub b : Place
b = given bit_b

abbrev pub LR₁₋₀ : Place
LR₁₋₀ = given bit_l

abbrev pub CF : Place
CF = given cf

abbrev pub ZF : Place
ZF = given zf

abbrev pub RAM[HL] : Place
RAM[HL] = cell by_hl

abbrev pub RAM[x] : Place
RAM[x] = cell by_x

abbrev pub RAM[x+1] : Place
RAM[x+1] = cell beside_x_lem

abbrev pub RAM[y] : Place
RAM[y] = cell by_y

abbrev pub PORT[p] : Place
PORT[p] = port pins_p

abbrev pub PORT[LR₃₋₂+4] : Place
PORT[LR₃₋₂+4] = port pins_l

abbrev pub SP : Place
SP = pointer sp

abbrev pub [DP]L : Place
[DP]L = pointer (dp low)

abbrev pub [DP]M : Place
[DP]M = pointer (dp middle)

abbrev pub [DP]H : Place
[DP]H = pointer (dp high)

abbrev pub [TA]L : Place
[TA]L = pointer (ta low)

abbrev pub [TA]M : Place
[TA]M = pointer (ta middle)

abbrev pub [TA]H : Place
[TA]H = pointer (ta high)

abbrev pub [TB]L : Place
[TB]L = pointer (tb low)

abbrev pub [TB]M : Place
[TB]M = pointer (tb middle)

abbrev pub [TB]H : Place
[TB]H = pointer (tb high)

abbrev pub ROM[DP]L : Place
ROM[DP]L = rom low_half_lem

abbrev pub ROM[DP]H : Place
ROM[DP]H = rom high_half_lem

abbrev pub MASK : Place
MASK = mask

-- what is made of two nibbles
pub data Op : Type 0 where
  Move Plus PlusCF Minus MinusCF' And Or Xor Clear Set Has Lacks RotateLeft RotateRight : Op

-- a nibble made and put; two nibbles exchanged; the data pointer stepped
pub data Step : Type 0 where
  put : Place → Op → Place → Place → Step
  exchange : Place → Place → Step
  DP+1 : Step

-- whether a second step follows, and which of the two the flags speak of
pub data After : Type 0 where
  alone : After
  flags_of flags_before : Step → After

-- SBR, LBR and SLBR; LCALL and SCALL
pub data Target : Type 0 where
  page half whole : Target

pub data Entry : Type 0 where
  long short : Entry

pub data Enable : Type 0 where
  EI⟵EI EI⟵0 EI⟵1 : Enable

pub data Operation : Type 0 where
  work : Step → After → Operation
  branch : Target → Operation
  call : Entry → Operation
  return return_flag : Operation
  IL⟵IL-and-r : Enable → Operation
  no_operation : Operation

infix 10 ◌⟵◌
infix 10 ◌⟵◌plus◌
infix 10 ◌⟵◌plus◌plus-CF
infix 10 ◌⟵◌minus◌
infix 10 ◌⟵◌minus◌minus-CF'
infix 10 ◌⟵◌and◌
infix 10 ◌⟵◌or◌
infix 10 ◌⟵◌xor◌
infix 10 ◌⟷◌
infix 10 ◌bit◌⟵0
infix 10 ◌bit◌⟵1
infix 10 SF⟵◌bit◌
infix 10 SF⟵◌bit◌'
infix 10 compare◌minus◌
infix 10 ◌⟵◌then◌
infix 10 ◌⟵◌besides◌
infix 10 ◌⟷◌besides◌
abbrev pub puts : Place → Op → Place → Place → Operation
puts d o x y = work (put d o x y) alone

abbrev pub ◌⟵◌ : Place → Place → Operation
◌⟵◌ d x = puts d Move x none

abbrev pub ◌⟵◌plus◌ : Place → Place → Place → Operation
◌⟵◌plus◌ d x y = puts d Plus x y

abbrev pub ◌⟵◌plus◌plus-CF : Place → Place → Place → Operation
◌⟵◌plus◌plus-CF d x y = puts d PlusCF x y

abbrev pub ◌⟵◌minus◌ : Place → Place → Place → Operation
◌⟵◌minus◌ d x y = puts d Minus x y

abbrev pub ◌⟵◌minus◌minus-CF' : Place → Place → Place → Operation
◌⟵◌minus◌minus-CF' d x y = puts d MinusCF' x y

abbrev pub ◌⟵◌and◌ : Place → Place → Place → Operation
◌⟵◌and◌ d x y = puts d And x y

abbrev pub ◌⟵◌or◌ : Place → Place → Place → Operation
◌⟵◌or◌ d x y = puts d Or x y

abbrev pub ◌⟵◌xor◌ : Place → Place → Place → Operation
◌⟵◌xor◌ d x y = puts d Xor x y

abbrev pub ⟵CF⟵Acc⟵ : Operation
⟵CF⟵Acc⟵ = puts Acc RotateLeft Acc none

abbrev pub ⟶CF⟶Acc⟶ : Operation
⟶CF⟶Acc⟶ = puts Acc RotateRight Acc none

abbrev pub ◌⟷◌ : Place → Place → Operation
◌⟷◌ d x = work (exchange d x) alone

abbrev pub compare◌minus◌ : Place → Place → Operation
compare◌minus◌ x y = puts none Minus x y

-- "Set and clear use the latch": of a port the bit is set in what its latch holds
abbrev pub held : Place → Place
held (register r) = register r
held (given g) = given g
held (cell c) = cell c
held (port pins_p) = port latch_p
held (port pins_l) = port latch_l
held (port latch_p) = port latch_p
held (port latch_l) = port latch_l
held (pointer p) = pointer p
held (rom h) = rom h
held mask = mask

abbrev pub ◌bit◌⟵0 : Place → Place → Operation
◌bit◌⟵0 d x = puts d Clear (held d) x

abbrev pub ◌bit◌⟵1 : Place → Place → Operation
◌bit◌⟵1 d x = puts d Set (held d) x

abbrev pub SF⟵◌bit◌ : Place → Place → Operation
SF⟵◌bit◌ x y = puts none Has x y

abbrev pub SF⟵◌bit◌' : Place → Place → Operation
SF⟵◌bit◌' x y = puts none Lacks x y

abbrev pub SF⟵CF : Operation
SF⟵CF = puts none Has CF one

abbrev pub SF⟵CF' : Operation
SF⟵CF' = puts none Lacks CF one

abbrev pub SF⟵ZF : Operation
SF⟵ZF = puts none Has ZF one

-- the second steps
abbrev pub LR+1 : Step
LR+1 = put LR Plus LR one

abbrev pub LR-1 : Step
LR-1 = put LR Minus LR one

abbrev pub HR⟵RAM[x+1] : Step
HR⟵RAM[x+1] = put HR Move RAM[x+1] none

abbrev pub HR⟷RAM[x+1] : Step
HR⟷RAM[x+1] = exchange HR RAM[x+1]

-- two steps in one row: the flags speak of the second, or of the first
abbrev pub ◌⟵◌then◌ : Place → Place → Step → Operation
◌⟵◌then◌ d x s = work (put d Move x none) (flags_of s)

abbrev pub ◌⟵◌besides◌ : Place → Place → Step → Operation
◌⟵◌besides◌ d x s = work (put d Move x none) (flags_before s)

abbrev pub ◌⟷◌besides◌ : Place → Place → Step → Operation
◌⟷◌besides◌ d x s = work (exchange d x) (flags_before s)

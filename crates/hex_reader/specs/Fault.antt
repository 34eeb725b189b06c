-- Document 02, Q-3: the number of a refusal, and the line of the first fault.
use Rattle.std.specs.Prelude.{ℕ, Result, Ok, Err}
use Rattle.numbers.specs.Numbered.{refusal_number}
use Rattle.numbers.specs.declared.Refusal.{Refusal}
use Rattle.hex_reader.specs.declared.fault.HexFault.{HexFault}
use Rattle.hex_reader.specs.declared.fault.HexRefusal.{HexRefusal}
use Rattle.hex_reader.specs.declared.fault.HexRefusal.TheVariants.{Buffer, Fault}

abbrev pub buffer : Refusal → HexRefusal
buffer refusal = Buffer refusal

abbrev pub fault : HexFault → HexRefusal
fault first = Fault first

abbrev pub number_of_refusal : HexRefusal → ℕ
number_of_refusal (Buffer refusal) = refusal_number refusal
number_of_refusal (Fault first) = refusal_number first.refusal

-- no line is 0
abbrev pub line_of_refusal : HexRefusal → ℕ
line_of_refusal (Buffer refusal) = 0
line_of_refusal (Fault first) = first.line

-- 0 is no row of the table: nothing is refused
abbrev pub Taken : Type 0
Taken = Result Unit Refusal

abbrev pub number_of : Taken → ℕ
number_of (Ok x) = 0
number_of (Err refusal) = refusal_number refusal

-- what the reader of a whole text answers
abbrev pub HexAnswer : Type 0
HexAnswer = Result Unit HexRefusal

abbrev pub number_of_answer : HexAnswer → ℕ
number_of_answer (Ok x) = 0
number_of_answer (Err r) = number_of_refusal r

abbrev pub line_of_answer : HexAnswer → ℕ
line_of_answer (Ok x) = 0
line_of_answer (Err r) = line_of_refusal r

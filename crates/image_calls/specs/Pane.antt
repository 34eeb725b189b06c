-- What the calls of the pane answer, of an image of a device that is seen through the window of P3: include/em73862_pane.h and include/em73p982.h have their names. A primed name is what a call leaves where it was given the other.
use Rattle.std.specs.Prelude.{ℕ, List, [], ◌++◌, ◌≡◌, eqb, ltb, length, drop, Result}
use Rattle.laws.specs.Choice.{pick}
use Rattle.numbers.specs.ComesBack.{Paper, value_at}
use Rattle.device.specs.declared.Device.{Device}
use Rattle.reader.specs.Answer.{read_paper}
use Rattle.notation.specs.Notation.{row_text}
use Rattle.bound_calls.specs.CallAnswer.{CallAnswer}
use Rattle.bound.specs.Answer.{paper_of as boundPaper}
use Rattle.bound.specs.declared.Refused.{Refused}
use Rattle.routines_bound.specs.declared.Greatest.{Greatest}
use Rattle.image_calls.specs.Numbers.{insn_of}
use Rattle.image_calls.specs.Operands.{operand_at, goes_from}

-- _read: the operands by their slots, as the writer takes them
pub record ReadCall (d : Device) (image : List ℕ) (p3 address number row a b : ℕ) : Type 0 where
  pub answer : number ≡ (read_paper d image p3 address).number
  pub which : row ≡ value_at (read_paper d image p3 address) 0
  pub first : a ≡ value_at (read_paper d image p3 address) 1
  pub second : b ≡ value_at (read_paper d image p3 address) 2

-- _length
pub record LengthCall (d : Device) (image : List ℕ) (p3 address number bytes cycles : ℕ) : Type 0 where
  pub answer : number ≡ (read_paper d image p3 address).number
  pub long : bytes ≡ value_at (read_paper d image p3 address) 3
  pub lasts : cycles ≡ value_at (read_paper d image p3 address) 4

-- where the row goes; 0 with a refusal
abbrev pub goes_in : Paper → ℕ → ℕ
goes_in p address = pick (eqb p.number 0) (goes_from address (insn_of p)) 0

-- _row: the operands in the mnemonic's order
pub record RowCall (d : Device) (image : List ℕ) (p3 address number row first second goes bytes cycles : ℕ) : Type 0 where
  pub answer : number ≡ (read_paper d image p3 address).number
  pub which : row ≡ value_at (read_paper d image p3 address) 0
  pub one : first ≡ operand_at (insn_of (read_paper d image p3 address)) 0
  pub two : second ≡ operand_at (insn_of (read_paper d image p3 address)) 1
  pub to : goes ≡ goes_in (read_paper d image p3 address) address
  pub long : bytes ≡ value_at (read_paper d image p3 address) 3
  pub lasts : cycles ≡ value_at (read_paper d image p3 address) 4

-- the row in the sheet's notation; no characters with a refusal
abbrev pub text_in : Paper → ℕ → List ℕ
text_in p address = pick (eqb p.number 0) (row_text address (insn_of p)) []

-- _notation: "a shorter buffer is left as it was"; bytes after the text stay
abbrev pub text_left : List ℕ → List ℕ → List ℕ
text_left text buffer = pick (ltb (length buffer) (length text)) buffer (text ++ drop (length text) buffer)

pub record NotationCall (d : Device) (image : List ℕ) (p3 address : ℕ) (buffer : List ℕ) (number size : ℕ) (buffer' : List ℕ) : Type 0 where
  pub answer : number ≡ (read_paper d image p3 address).number
  pub needed : size ≡ length (text_in (read_paper d image p3 address) address)
  pub left : buffer' ≡ text_left (text_in (read_paper d image p3 address) address) buffer

-- _bound: path is N's buffer, deep the depth's
pub record BoundCall (d : Device) (image : List ℕ) (p3 address : ℕ) (path deep : List ℕ) (number value depth : ℕ) (path' deep' : List ℕ) : Type 0 where
  pub r : Result Greatest Refused
  pub bounds : CallAnswer d image p3 address path path' deep deep' (boundPaper r)
  pub answer : number ≡ (boundPaper r).number
  pub given : value ≡ value_at (boundPaper r) 0
  pub deepest : depth ≡ value_at (boundPaper r) 1

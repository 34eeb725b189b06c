-- What a row makes of two nibbles: the operations of the sheet's operation column, with the carry that its flag columns speak of.
use Rattle.std.specs.Prelude.{ℕ, ◌+◌, ◌-◌, ◌*◌, ◌/◌, ◌%◌, Bool, false, not, eqb, leb}
use Rattle.std.specs.Int.Bits.{bit_and, bit_or, bit_xor}
use Rattle.bits.specs.Bits.{has_bit, with_bit, without_bit, bit_of}
use Rattle.sheet.specs.Operation.{Op}
use Rattle.sheet.specs.Operation.Op.{Move, Plus, PlusCF, Minus, MinusCF', And, Or, Xor, Clear, Set, Has, Lacks, RotateLeft, RotateRight}
use Rattle.alu.specs.declared.Made.{Made}

abbrev pub value_and_carry : ℕ → Bool → Made
value_and_carry v c = record { value = v; carry = c }

-- a total's low four bits, and whether it passes them
abbrev pub nibble_of : ℕ → Made
nibble_of total = value_and_carry (total % 16) (leb 16 total)

-- Of a sum the carry is its fifth bit. Of a difference it is "no borrow": sheet 000, "when the subtraction operation must has a borrow, in the CF will be 0".
-- Of a rotation it is the bit that leaves: "holds the shift out data". Of a bit test it is the answer, which the S column's * copies. A bit is named by its weight.
unfoldable pub made : Op → ℕ → ℕ → Bool → Made
made Move a b cf = value_and_carry a false
made Plus a b cf = nibble_of (a + b)
made PlusCF a b cf = nibble_of (a + b + bit_of cf)
made Minus a b cf = nibble_of (a + 16 - b)
made MinusCF' a b cf = nibble_of (a + 15 + bit_of cf - b)
made And a b cf = value_and_carry (bit_and a b) false
made Or a b cf = value_and_carry (bit_or a b) false
made Xor a b cf = value_and_carry (bit_xor a b) false
made Clear a b cf = value_and_carry (without_bit a b) false
made Set a b cf = value_and_carry (with_bit a b) false
made Has a b cf = value_and_carry a (has_bit a b)
made Lacks a b cf = value_and_carry a (not (has_bit a b))
made RotateLeft a b cf = value_and_carry ((a * 2 + bit_of cf) % 16) (leb 8 a)
made RotateRight a b cf = value_and_carry (a / 2 + 8 * bit_of cf) (eqb (a % 2) 1)

-- The flag columns: "In the S column, 1 sets SF, C copies the carry of the operation, C' and Z' its opposite; a dash leaves a flag alone; any other mark is what the row's operation says." "Z speaks of the sum, difference, logic or rotation the row makes, else of the value moved".
use Rattle.std.specs.Prelude.{Bool, true, false, not, eqb}
use Rattle.sheet.specs.Table.{Mark, kept, carry, not_carry, is_zero, not_zero, clear, set, by_operation}
use Rattle.alu.specs.declared.Made.{Made}

unfoldable pub flag_after : Mark → Bool → Made → Bool
flag_after kept old m = old
flag_after carry old m = m.carry
flag_after not_carry old m = not m.carry
flag_after is_zero old m = eqb m.value 0
flag_after not_zero old m = not (eqb m.value 0)
flag_after clear old m = false
flag_after set old m = true
flag_after by_operation old m = m.carry

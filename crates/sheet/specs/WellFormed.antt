-- That the texts of the table are read whole: what was read of an object code, written out again, is the text, so that no sign of it was passed over; and so is what was read of a mark.
use Rattle.std.specs.Prelude.{ℕ, zero, suc, ◌/◌, ◌%◌, true, List, [], ◌∷◌, ◌≡◌, eqb}
use Prim.Native.Char.{Char}
use Prim.Native.String.{String, ◌∷◌ as ◌and◌}
use Rattle.laws.specs.Choice.{pick}
use Rattle.sheet.specs.Code.{Group, #, all, fixed1, fixed2, fixed3, above2, groups_of, has_sign}
use Rattle.sheet.specs.Table.{Mark, kept, carry, not_carry, is_zero, not_zero, clear, set, by_operation, mark, PrintedCode, Printed, printed}

-- the last n bits of a number as signs, and n times a letter, each with a text behind it
abbrev pub bits_and : ℕ → ℕ → String → String
bits_and zero v rest = rest
bits_and (suc n) v rest = bits_and n (v / 2) (pick (eqb (v % 2) 1) "1" "0" and rest)

abbrev pub letter_and : ℕ → Char → String → String
letter_and zero l rest = rest
letter_and (suc n) l rest = l and letter_and n l rest

-- a group as its four signs; groups with a blank between them
abbrev pub group_and : Group → String → String
group_and (# v) rest = bits_and 4 v rest
group_and (all l) rest = letter_and 4 l rest
group_and (fixed1 v l) rest = bits_and 1 v (letter_and 3 l rest)
group_and (fixed2 v l) rest = bits_and 2 v (letter_and 2 l rest)
group_and (fixed3 v l) rest = bits_and 3 v (letter_and 1 l rest)
group_and (above2 l v) rest = letter_and 2 l (bits_and 2 v rest)

abbrev pub written_out : List Group → String
written_out [] = ""
written_out (g ∷ []) = group_and g ""
written_out (g ∷ h ∷ gs) = group_and g (" " and written_out (h ∷ gs))

-- the letters of the operands that a row can have
abbrev pub IsOperand : Char → Type 0
IsOperand l = has_sign "xkabrnyp" l ≡ true

abbrev pub LetterKnown : Group → Type 0
LetterKnown (# v) = Unit
LetterKnown (all l) = IsOperand l
LetterKnown (fixed1 v l) = IsOperand l
LetterKnown (fixed2 v l) = IsOperand l
LetterKnown (fixed3 v l) = IsOperand l
LetterKnown (above2 l v) = IsOperand l

-- each of a list has a property
abbrev pub Each : {A : Type 0} → (A → Type 0) → List A → Type 0
Each P [] = Unit
Each P (x ∷ xs) = P x × Each P xs

pub record CodeWellFormed (c : PrintedCode) : Type 0 where
  pub whole : written_out (groups_of c.text) ≡ c.text
  pub letters : Each LetterKnown (groups_of c.text)

-- the eight marks as the sheet prints them: the flag columns have no other
abbrev pub printed_mark : Mark → String
printed_mark kept = "-"
printed_mark carry = "C"
printed_mark not_carry = "C'"
printed_mark is_zero = "Z"
printed_mark not_zero = "Z'"
printed_mark clear = "0"
printed_mark set = "1"
printed_mark by_operation = "*"

abbrev pub IsMark : String → Type 0
IsMark t = printed_mark (mark t) ≡ t

pub record RowWellFormed (p : Printed) : Type 0 where
  pub codes : Each CodeWellFormed p.codes
  pub c : IsMark p.c
  pub z : IsMark p.z
  pub s : IsMark p.s

abbrev pub TableWellFormed : Type 0
TableWellFormed = Each RowWellFormed printed

-- The commands of the program sound, a line each. Sentences in quotation marks are of docs/PROGRAMS.md.
use Rattle.std.specs.Prelude.{ℕ, min, Bool, false, List, [], ◌∷◌, eqb, leb, Option, Some, None}
use Prim.Native.Char.{code}
use Rattle.laws.specs.Choice.{pick, either}
use Rattle.text.specs.Digits.{characters}
use Rattle.text.specs.Same.{same_text}
use Rattle.text.specs.Words.{is_number, word_value}
use Rattle.sound_text.specs.declared.command.Command.{Command}
use Rattle.sound_text.specs.declared.command.Command.TheVariants.{P30, P24, P23, Sleep, Wake, Reset, Advance}

-- a line's word is what stands before its first blank, its number what stands after it
abbrev pub is_blank : ℕ → Bool
is_blank c = eqb c (code " ")

abbrev pub has_blank : List ℕ → Bool
has_blank [] = false
has_blank (c ∷ cs) = either (is_blank c) (has_blank cs)

abbrev pub word_of : List ℕ → List ℕ
word_of [] = []
word_of (c ∷ cs) = pick (is_blank c) [] (c ∷ word_of cs)

abbrev pub number_in : List ℕ → List ℕ
number_in [] = []
number_in (c ∷ cs) = pick (is_blank c) cs (number_in cs)

-- "sleep, wake, reset"
unfoldable pub bare : List ℕ → Option Command
bare word =
    pick (same_text word (characters "sleep")) (Some Sleep)
    (pick (same_text word (characters "wake")) (Some Wake) (pick (same_text word (characters "reset")) (Some Reset) None))

-- "p30 N, p24 N, p23 N (a write of that port, N 0 to 15 ..)"; "a port's N over 15: not a command"
unfoldable pub port : List ℕ → ℕ → Option Command
port word n =
    pick (same_text word (characters "p30")) (Some (P30 n))
    (pick (same_text word (characters "p24")) (Some (P24 n)) (pick (same_text word (characters "p23")) (Some (P23 n)) None))

-- "advance N": 65,536 stands for every number above it, since all are over the limit of 65,535
abbrev pub most : ℕ
most = 65536

unfoldable pub numbered : List ℕ → ℕ → Option Command
numbered word n =
    pick (same_text word (characters "advance")) (Some (Advance n)) (pick (leb n 15) (port word n) None)

-- "Another line, an N that is no number ..: not a command"; "Leading zeros are accepted."
unfoldable pub command_of : List ℕ → Option Command
command_of line =
    pick (has_blank line)
    (pick (is_number 10 (number_in line)) (numbered (word_of line) (min most (word_value 10 (number_in line)))) None)
    (bare (word_of line))

-- What the program sound answers to its input. Sentences in quotation marks are of docs/PROGRAMS.md.
use Rattle.std.specs.Prelude.{ℕ, false, List, [], ◌∷◌, ◌++◌, Option, Some, None, Ok, Err}
use Rattle.std.specs.Result.{result_unwrap_or}
use Rattle.numbers.specs.Numbered.{refusal_number}
use Rattle.bits.specs.Bits.{bit_of}
use Rattle.text.specs.Digits.{characters, joined, decimal, hex}
use Rattle.text.specs.Refusal.{refused_line}
use Rattle.text.specs.Script.{lines_of}
use Rattle.sound_generator.specs.Sound.{start_state}
use Rattle.sound_generator.specs.Answers.{Answer, state_after, p30_written, p24_written, p23_written, made_sleep, made_wake, output_of}
use Rattle.sound_generator.specs.declared.Sound.{Sound}
use Rattle.sound_generator.specs.Advance.{advanced_by}
use Rattle.sound_text.specs.Commands.{command_of}
use Rattle.sound_text.specs.declared.command.Command.{Command}
use Rattle.sound_text.specs.declared.command.Command.TheVariants.{P30, P24, P23, Sleep, Wake, Reset, Advance}

-- a field of the line: its name with the blank after it, and a number
abbrev pub field : List ℕ → ℕ → List ℕ
field name v = name ++ decimal v

-- "mode 1 asleep 0 tf 36 count 12 tone 1 bits 1FF output 1": the mode, sleep and the tone generator
abbrev pub tone_fields : Sound → List ℕ
tone_fields s =
    joined
    (field (characters "mode ") s.mode ∷ field (characters " asleep ") (bit_of s.asleep) ∷ field (characters " tf ") s.tf ∷ field (characters " count ") s.count ∷ [])

-- "bits: the last nine random bits, bit 0 the latest, three hexadecimal digits", between the tone and the output; and the line's end
abbrev pub output_fields : Sound → List ℕ
output_fields s =
    joined
    (field (characters " tone ") (bit_of s.tone) ∷ characters " bits " ∷ hex 3 s.bits ∷ field (characters " output ") (bit_of (result_unwrap_or (output_of s) false)) ∷ characters "\n" ∷ [])

unfoldable pub state_line : Sound → List ℕ
state_line s = tone_fields s ++ output_fields s

-- what a command does: "reset puts p24 back to 15"; nothing comes of a line that is no command
unfoldable pub performed : Sound → Option Command → Option Answer
performed s (Some (P30 n)) = Some (p30_written s n)
performed s (Some (P24 n)) = Some (p24_written s n)
performed s (Some (P23 n)) = Some (p23_written s n)
performed s (Some Sleep) = Some (made_sleep s)
performed s (Some Wake) = Some (made_wake s)
performed s (Some Reset) = Some (Ok start_state)
performed s (Some (Advance n)) = Some (advanced_by n s)
performed s None = None

-- "Each is answered by one line, the state after it ..., or refused 48 and the state stays. .. not a command, and the state stays."
unfoldable pub text_of : Option Answer → List ℕ
text_of (Some (Ok after)) = state_line after
text_of (Some (Err refusal)) = refused_line (refusal_number refusal)
text_of None = characters "not a command\n"

abbrev pub state_left : Sound → Option Answer → Sound
state_left s (Some answer) = state_after s answer
state_left s None = s

-- a line, "a command a line", and then the others
unfoldable pub told_over : Sound → List (List ℕ) → List ℕ
told_over s [] = []
told_over s (l ∷ ls) =
    text_of (performed s (command_of l)) ++ told_over (state_left s (performed s (command_of l))) ls

-- all that the program writes, for all of its input
abbrev pub sound_of : List ℕ → List ℕ
sound_of input = told_over start_state (lines_of input)

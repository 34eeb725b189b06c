-- The word STEP of the program why. Sentences in quotation marks are of docs/PROGRAMS.md.
use Rattle.std.specs.Prelude.{ℕ, List, Option, Some, None, eqb}
use Rattle.laws.specs.Choice.{pick}
use Rattle.text.specs.Words.{number_up_to}

-- no script has so many lines: it stands for every number above it
abbrev pub most_steps : ℕ
most_steps = 1000000000000000000

-- "decimal, from 1"
abbrev pub from_one : Option ℕ → Option ℕ
from_one None = None
from_one (Some n) = pick (eqb n 0) None (Some n)

-- "STEP (decimal, from 1)": none for "a STEP that is no number or 0"
unfoldable pub step_word : List ℕ → Option ℕ
step_word word = from_one (number_up_to most_steps 10 word)

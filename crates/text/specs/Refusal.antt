-- Document 01: "prints "refused 01" or "refused 03" and ends": the number of its table "What comes back" in two digits.
use Rattle.std.specs.Prelude.{ℕ, List, ◌++◌}
use Rattle.text.specs.Digits.{characters, in_base}

abbrev pub refused_text : ℕ → List ℕ
refused_text number = characters "refused " ++ in_base 10 2 number

abbrev pub refused_line : ℕ → List ℕ
refused_line number = refused_text number ++ characters "\n"

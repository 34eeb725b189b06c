-- Which rows each function of this crate is for, by their numbers in the sheet.
use Rattle.std.specs.Prelude.{ℕ, List, [], ◌∷◌}

-- EXAE, EICIL, DICIL, CIL
abbrev pub latches : List ℕ
latches = 85 ∷ 84 ∷ 83 ∷ 82 ∷ []

-- RTI, RET
abbrev pub returns : List ℕ
returns = 86 ∷ 73 ∷ []

-- SCALL, LCALL
abbrev pub calls : List ℕ
calls = 72 ∷ 71 ∷ []

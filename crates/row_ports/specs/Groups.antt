-- Which rows each function of this crate is for, by their numbers in the sheet, the last arm's row first.
use Rattle.std.specs.Prelude.{ℕ, List, [], ◌∷◌}

-- OUTA, OUT, SEPL, SEP, CLPL, CLP
abbrev pub writing : List ℕ
writing = 77 ∷ 76 ∷ 62 ∷ 61 ∷ 58 ∷ 57 ∷ []

-- INA, TTP, TFPL, TFP
abbrev pub reading : List ℕ
reading = 74 ∷ 70 ∷ 68 ∷ 67 ∷ []

-- The rows that move two nibbles between HL and RAM, by their numbers in the sheet.
use Rattle.std.specs.Prelude.{ℕ, List, [], ◌∷◌}

-- LDHL
abbrev pub loads : List ℕ
loads = 6 ∷ []

-- EXHL
abbrev pub exchanges : List ℕ
exchanges = 46 ∷ []

-- A number is one of a list.
use Rattle.std.specs.Prelude.{ℕ, Bool, false, List, [], ◌∷◌, eqb}
use Rattle.laws.specs.Choice.{either}

abbrev pub among : List ℕ → ℕ → Bool
among [] n = false
among (r ∷ rs) n = either (eqb n r) (among rs n)

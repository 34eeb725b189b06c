-- What it is to be the row of a code, without a search: it fits, and every other row that fits fixes fewer bits. `winner` finds it.
use Rattle.std.specs.Prelude.{ℕ, ◌<◌, Bool, true, false, List, [], ◌∷◌, ◌≡◌}
use Rattle.laws.specs.Choice.{either}
use Rattle.sheet.specs.Code.{fits}
use Rattle.sheet.specs.Table.{Code, line_at}
use Rattle.sheet.specs.Reading.{bits_fixed_if_fits, row_number}

-- the digits begin with one of the codes
abbrev pub fits_one : List Code → List ℕ → Bool
fits_one [] ds = false
fits_one (c ∷ cs) ds = either (fits c.groups ds) (fits_one cs ds)

-- the row of that number fits the digits; the bits that it fixes where it does
abbrev pub Fits : ℕ → List ℕ → Type 0
Fits n ds = fits_one (line_at n).codes ds ≡ true

abbrev pub bits_fixed : ℕ → List ℕ → ℕ
bits_fixed n ds = bits_fixed_if_fits (line_at n).codes ds

-- "A row with more bits fixed wins over a wider one"
pub record Wins (n : ℕ) (ds : List ℕ) : Type 0 where
  pub it_fits : Fits n ds
  pub others : (k : ℕ) → Fits k ds → (k ≡ n → ⊥) → bits_fixed k ds < bits_fixed n ds

-- the row that digits have wins, and where they have none no row fits them
pub record RowWins (ds : List ℕ) : Type 0 where
  pub wins : (row_number ds ≡ 0 → ⊥) → Wins (row_number ds) ds
  pub none : row_number ds ≡ 0 → (k : ℕ) → Fits k ds → ⊥

-- no two rows that fit one code fix equally many bits, so that the order of the rows decides nothing
abbrev pub NoTie : Type 0
NoTie = (ds : List ℕ) (n k : ℕ) → Fits n ds → Fits k ds → (n ≡ k → ⊥) → bits_fixed n ds ≡ bits_fixed k ds → ⊥

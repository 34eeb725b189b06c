-- The weight of the bit that an operand names.
use Rattle.std.specs.Prelude.{ℕ, ◌<◌, ◌≡◌}
use Rattle.row.specs.Places.{weight_of}

pub record Weighs (number r : ℕ) : Type 0 where
  pub value : r ≡ weight_of number
  pub some : 0 < r
  pub small : r < 9

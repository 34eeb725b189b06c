-- The bound's answer as three numbers: the paper's, and the two values that come with it.
use Rattle.std.specs.Prelude.{◌≡◌}
use Rattle.numbers.specs.ComesBack.{Paper, value_at}
use Rattle.bound.specs.declared.BoundNumbers.{BoundNumbers}

pub record OfBound (p : Paper) (n : BoundNumbers) : Type 0 where
  pub number : n.number ≡ p.number
  pub value : n.value ≡ value_at p 0
  pub depth : n.depth ≡ value_at p 1

-- A test decides a statement: it passes exactly where the statement holds.
use Rattle.std.specs.Prelude.{Bool, T}

pub record Decides (b : Bool) (P : Type 0) : Type 0 where
  pub sound : T b → P
  pub complete : P → T b

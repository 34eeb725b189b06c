-- `routines_paths::route::greater` meets its contract: the test is the turn.
use mathlib.Core.Path.{refl}
use mathlib.Core.Logic.{inl, inr}
use Rattle.routines_paths.proofs.route.greater.Goals as goal

pub returns-then-d-first : goal.returns-then-d-first
returns-then-d-first c = inr (refl, c.if-d-first.true)

pub returns-else-d-first : goal.returns-else-d-first
returns-else-d-first c = inl (refl, c.if-d-first.false)

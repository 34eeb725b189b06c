-- `routines_sums::followed` meets its contract.
use mathlib.Core.Logic.{inl, inr}
use mathlib.Core.Path.{refl}
use Rattle.routines_sums.proofs.followed.Goals as goal

pub returns-then-tried-eq0 : goal.returns-then-tried-eq0
returns-then-tried-eq0 c = inl refl

pub returns-else-tried-eq0 : goal.returns-else-tried-eq0
returns-else-tried-eq0 c = inr refl

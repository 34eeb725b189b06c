-- `routines_paths::deepest::turn` meets its contract.
use mathlib.Core.Path.{refl}
use mathlib.Core.Logic.{inl, inr}
use Rattle.graph_search.proofs.Zeros.{wide16}
use Rattle.routines_paths.proofs.deepest.Moves.{wide32, sum_fits}
use Rattle.routines_paths.proofs.deepest.turn.Goals as goal

pub overflow_cast-later : goal.overflow_cast-later
overflow_cast-later c = wide32 (c.type_inv.pend _)

pub overflow_cast-dep : goal.overflow_cast-dep
overflow_cast-dep c = wide16 (c.type_inv.dep _)

pub overflow_add-top : goal.overflow_add-top
overflow_add-top c = sum_fits _ _ c.requires.1 (c.type_inv.dep c.args.way.first)

pub returns-then-goal-most : goal.returns-then-goal-most
returns-then-goal-most c = inl (refl, rw (c.max-most.ensures, c.max.ensures) at c.if-goal-most.true)

pub returns-else-goal-most : goal.returns-else-goal-most
returns-else-goal-most c = inr (refl, rw (c.max-most.ensures, c.max.ensures) at c.if-goal-most.false)

-- `routines_numbered::number` meets its contract: a place that has a number keeps it, and another gets the next.
use native.Mathlib.Omega.{arith}
use Rattle.routines_numbered.proofs.Numbering.{room_in, number-kept, number_in}
use Rattle.routines_numbered.proofs.number.Goals as goal

pub returns-then-map-w-ne0 : goal.returns-then-map-w-ne0
returns-then-map-w-ne0 c = (number-kept _ _ _ _ c.requires.0 (λ e. omega (arith, e, c.if-map-w-ne0.true)), omega arith)

pub overflow_add-map : goal.overflow_add-map
overflow_add-map c = omega (arith, room_in _ _ _ _ c.requires.0 c.requires.3 c.if-map-w-ne0.false)

pub overflow_cast-map : goal.overflow_cast-map
overflow_cast-map c = omega (arith, room_in _ _ _ _ c.requires.0 c.requires.3 c.if-map-w-ne0.false)

pub offset_bounds-words-count : goal.offset_bounds-words-count
offset_bounds-words-count c = omega (arith, room_in _ _ _ _ c.requires.0 c.requires.3 c.if-map-w-ne0.false)

pub bounds-words-count : goal.bounds-words-count
bounds-words-count c = omega (arith, c.requires.2, room_in _ _ _ _ c.requires.0 c.requires.3 c.if-map-w-ne0.false)

pub overflow_add-result : goal.overflow_add-result
overflow_add-result c = omega (arith, room_in _ _ _ _ c.requires.0 c.requires.3 c.if-map-w-ne0.false)

pub returns : goal.returns
returns c = (number_in _ _ _ _ c.requires.0 c.requires.3 c.if-map-w-ne0.false c.requires.1 c.requires.2, omega arith)

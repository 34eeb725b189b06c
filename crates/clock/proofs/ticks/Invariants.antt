-- `clock::ticks` meets its contract. The invariant: as many cycles as are left, from here, are all the cycles from the start.
use Prim.Native.Nat.{◌-◌, ◌≤◌}
use mathlib.Core.Path.{◌≡◌}
use Rattle.clock.specs.Clock.{InRange, passed}
use Rattle.clock.proofs.ticks.Given as goal

abbrev pub invariant-loop : goal.invariant-loop
invariant-loop l = (l.counter ≤ l.n) × InRange l.s × (passed l.n l.r l.initial.s ≡ passed (l.n - l.counter) l.r l.s)

abbrev pub decreases-loop : goal.decreases-loop
decreases-loop l = l.n - l.counter

-- `sound_generator::random::one_by_one` meets its contract. The invariant: as many bits as are left, from here, are all the bits from the start.
use Prim.Native.Nat.{◌-◌, ◌≤◌}
use mathlib.Core.Path.{◌≡◌}
use Rattle.sound_generator.specs.Random.{after, Random}
use Rattle.sound_generator.proofs.random.one_by_one.Given as goal

abbrev pub invariant-loop : goal.invariant-loop
invariant-loop l = (l.counter ≤ l.n) × Random l.now × (after (l.n) l.bits ≡ after (l.n - l.counter) l.now)

abbrev pub decreases-loop : goal.decreases-loop
decreases-loop l = l.n - l.counter

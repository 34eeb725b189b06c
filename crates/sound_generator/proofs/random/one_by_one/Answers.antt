-- `sound_generator::random::one_by_one` meets its contract. The invariant: as many bits as are left, from here, are all the bits from the start.
use mathlib.Core.Path.{refl, sym, ap, ◌∙◌}
use native.Mathlib.Nat.{sub-zero}
use native.Mathlib.Omega.{arith}
use Rattle.sound_generator.specs.Random.{after}
use Rattle.sound_generator.proofs.random.Period.{next_random, after_less, after_none}
use Rattle.sound_generator.proofs.random.one_by_one.Goals as goal

pub loop-init : goal.loop-init
loop-init c = (omega arith, c.requires, rw sub-zero refl)

pub with_next-now-requires : goal.with_next-now-requires
with_next-now-requires c = c.loop.invariant.1

pub overflow_step : goal.overflow_step
overflow_step c = omega arith

pub loop-smaller : goal.loop-smaller
loop-smaller c = omega arith

pub loop-preserved : goal.loop-preserved
loop-preserved c =
    let l = c.loop in (
      omega arith,
      rw c.with_next-now.ensures (next_random l.now l.invariant.1),
      l.invariant.2 ∙ after_less _ l.counter l.now c.loop-test.true ∙ ap (after _) (sym c.with_next-now.ensures),
    )

pub returns : goal.returns
returns c =
    let l = c.loop in
    sym (l.invariant.2 ∙ after_none _ l.counter l.now c.loop-test.false)

-- `bound_numbered::explore` meets its contract.
use native.Mathlib.Omega.{arith}
use Rattle.device.specs.Device.{rom_of}
use Rattle.routines.proofs.Exploring.{none_told}
use Rattle.routines_numbered.specs.Packed.{map_in}
use Rattle.routines_numbered.proofs.Numbering.{count_le}
use Rattle.bound_numbered.proofs.Reading.{explore_start, explore_on, image_numbered}
use Rattle.bound_numbered.proofs.explore.Goals as goal

pub overflow_mul-address : goal.overflow_mul-address
overflow_mul-address c = omega (arith, c.requires.1)

pub overflow_add-address : goal.overflow_add-address
overflow_add-address c = omega (arith, c.requires.1)

pub number-count-requires : goal.number-count-requires
unfolding map_in
number-count-requires c =
    let pre-fact = c.requires in
    (none_told (λ w. pre-fact.2.at w), pre-fact.3, pre-fact.5, omega (arith, pre-fact.1))

pub loop-head-init : goal.loop-head-init
loop-head-init c =
    let args-fact = c.args in
    let pre-fact = c.requires in
    let number-fact = c.number-count in (
      explore_start args-fact.d (rom_of args-fact.image.now args-fact.p3) args-fact.address pre-fact.4 number-fact.ensures.0 (omega (arith, number-fact.ensures.1)),
      omega (arith, number-fact.auto.map, pre-fact.3),
      omega (arith, number-fact.auto.words, pre-fact.5),
      omega arith,
    )

pub read_place-count-requires : goal.read_place-count-requires
read_place-count-requires c =
    let pre-fact = c.requires in
    let loop-fact = c.loop-head in
    let loop-test-fact = c.loop-head-test in
    (pre-fact.0, loop-fact.invariant.0.explored.told, loop-fact.invariant.1, loop-fact.invariant.2, loop-test-fact.true)

pub overflow_add-head : goal.overflow_add-head
overflow_add-head c =
    let loop-test-fact = c.loop-head-test in
    let loop-fact = c.loop-head in
    omega (arith, loop-test-fact.true, count_le _ _ _ loop-fact.invariant.0.explored.told)

pub loop-head-smaller : goal.loop-head-smaller
loop-head-smaller c =
    let loop-test-fact = c.loop-head-test in
    let loop-fact = c.loop-head in
    omega (arith, loop-test-fact.true, count_le _ _ _ loop-fact.invariant.0.explored.told)

pub loop-head-preserved : goal.loop-head-preserved
loop-head-preserved c =
    let loop-fact = c.loop-head in
    let loop-test-fact = c.loop-head-test in
    let read-place-fact = c.read_place-count in (
      explore_on loop-fact.invariant.0 loop-test-fact.true read-place-fact.ensures,
      omega (arith, read-place-fact.auto.map, loop-fact.invariant.1),
      omega (arith, read-place-fact.auto.words, loop-fact.invariant.2),
      omega (arith, loop-test-fact.true, read-place-fact.ensures.grows.more),
    )

pub shape_of-map : goal.shape_of-map
shape_of-map c = omega (arith, c.loop-head.invariant.1, c.requires.3)

pub shape_of-words : goal.shape_of-words
shape_of-words c = omega (arith, c.loop-head.invariant.2, c.requires.5)

pub returns : goal.returns
returns c = let i = c.loop-head.invariant in image_numbered i.0 (omega (arith, i.3, c.loop-head-test.false))

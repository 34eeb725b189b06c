-- `routines_counted::seeded::seeded_word` meets its contract.
use Rattle.routines_counted.proofs.Seeding.{seed-there, seed-out, on_fits, seed-on}
use Rattle.routines_counted.proofs.seeded.seeded_word.Goals as goal

pub returns-then-place_of-at : goal.returns-then-place_of-at
returns-then-place_of-at c = seed-there _ _ _ c.place_of.ensures _ c.if-place_of-at.true c.pack.ensures

pub returns-in_default : goal.returns-in_default
returns-in_default c = seed-out _ _ _ c.place_of.ensures c.if-place_of-at.false c.in_default.ensures

pub pack-requires-2 : goal.pack-requires-2
pack-requires-2 c = on_fits _ 0 _ c.place_of.ensures c.in-Some.ensures

pub returns : goal.returns
returns c = seed-on _ _ _ c.place_of.ensures c.in-Some.ensures _ c.if-place_of-at.false c.pack-2.ensures

-- `sound_text::feed` meets its contract: the characters before an index are fed.
use native.Mathlib.Omega.{arith}
use Rattle.std.proofs.lemmas.List.{take_more}
use Rattle.sound_text.proofs.Feeding.{nothing_fed, fed_then}
use Rattle.sound_text.proofs.feed.Goals as goal

pub loop-c-init : goal.loop-c-init
loop-c-init g c = record { fed = nothing_fed c.args.out.now c.requires.0; size = omega arith }

pub loop-c-preserved : goal.loop-c-preserved
loop-c-preserved g c = record {
  fed = rw (take_more c.args.part.now c.loop-c.c-index 0 (omega arith)) (fed_then c.loop-c.invariant.fed c.fed-p.ensures.feeds);
  size = omega (arith, c.fed-p.ensures.size);
}

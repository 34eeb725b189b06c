-- `sound_text::feed` meets its contract: the characters before an index are fed.
use Prim.Native.Nat.{◌+◌, ◌*◌, ◌≤◌}
use lib.ListN.{length, take}
use Rattle.sound_text.specs.Feeding.{Feeds}
use Rattle.sound_text.proofs.feed.Given as goal

abbrev pub invariant-loop-c : goal.invariant-loop-c
invariant-loop-c g l = record {
  fed : Feeds l.fn.s l.fn.e (take l.c-index l.part) l.initial.out l.out l.p;
  size : length l.out ≤ length l.initial.out + 76 * l.c-index;
}

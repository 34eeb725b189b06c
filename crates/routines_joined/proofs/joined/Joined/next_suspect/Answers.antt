-- `Joined::next_suspect` meets its contract: the lowest of the part of the queue that is passed.
use Rattle.std.proofs.Common.{◌≡◌, length, arith}
use Rattle.routines_joined.proofs.Keys.{suspect-more, found_lt}
use Rattle.routines_joined.proofs.joined.Joined.next_suspect.Goals as goal

pub better-best-requires : goal.better-best-requires
better-best-requires c =
    let pre = c.requires in (
      pre.0,
      pre.1.below _ c.loop-x-test.true,
      λ h. pre.2 h _ c.loop-x-test.true,
      λ y e. found_lt pre.1 pre.1.small c.loop-x.auto.x-index-end c.loop-x.invariant e,
    )

pub loop-x-preserved : goal.loop-x-preserved
loop-x-preserved c = suspect-more c.loop-x.invariant c.better-best.ensures

pub returns : goal.returns
returns c =
    let e : c.loop-x.x-index ≡ length c.args.queue.now = omega arith in
    rw e at c.loop-x.invariant

-- `listing::feed` meets its contract: the lines before `used` are told.
use native.Mathlib.Omega.{arith}
use Rattle.listing.proofs.Feeding.{feeding-none, feeding-pauses, feeding-next, feeding-ends}
use Rattle.listing.proofs.feed.Goals as goal

pub loop-end-init : goal.loop-end-init
loop-end-init g c = feeding-none (record { core = c.requires.0; ram = c.requires.1 })

pub returns-then-told : goal.returns-then-told
returns-then-told g c = feeding-ends c.loop-end.invariant c.line_end-end.ensures.value (omega (arith, c.line_end-end.ensures.upper_bound, c.if-end-part.false)) c.tell-told.ensures c.if-told.true

pub loop-end-preserved : goal.loop-end-preserved
loop-end-preserved g c = feeding-next c.loop-end.invariant c.line_end-end.ensures.value (omega arith) c.tell-told.ensures c.if-told.false

pub returns-after-loop-end : goal.returns-after-loop-end
returns-after-loop-end g c = feeding-pauses c.loop-end.invariant (λ h. absurd (omega arith))

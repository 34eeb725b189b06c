-- `frame::are_frames` meets its contract. The invariant: the whole is frames exactly where what is left is, and the frame before it is one.
use Prim.Native.Nat.{◌+◌, ◌-◌}
use mathlib.Core.Path.{◌≡◌, sym}
use native.Mathlib.Omega.{arith}
use lib.ListN.{length}
use Rattle.device.specs.Device.{frame_size}
use Rattle.frame.proofs.Judging.{cut_short, no_frames, first-bad, first_good, more-bad, more-good, rest-judged}
use Rattle.frame.proofs.Sizes.{some, whole_less}
use Rattle.frame.proofs.are_frames.Goals as goal

pub nonzero_rem-s : goal.nonzero_rem-s
nonzero_rem-s c = let z = some c.args.d in omega arith

pub returns-then-s-n-ne0 : goal.returns-then-s-n-ne0
returns-then-s-n-ne0 c = sym (cut_short _ _ (rw c.frame_size-n.ensures at c.if-s-n-ne0.true))

pub returns-then-s-n : goal.returns-then-s-n
returns-then-s-n c = sym (no_frames _ _ (rw c.frame_size-n.ensures at c.if-s-n-ne0.false) (rw c.frame_size-n.ensures at c.if-s-n.true))

pub returns-then-not-is_frame_at : goal.returns-then-not-is_frame_at
returns-then-not-is_frame_at c = sym (first-bad _ _ _ (rw c.frame_size-n.ensures at c.if-s-n.false) c.is_frame_at.ensures c.if-not-is_frame_at.true)

pub loop-at-init : goal.loop-at-init
loop-at-init c = first_good _ _ _ (rw c.frame_size-n.ensures at c.if-s-n.false) c.is_frame_at.ensures (rw c.frame_size-n.ensures at c.if-s-n-ne0.false) c.if-not-is_frame_at.false

pub returns-then-not-after_one : goal.returns-then-not-after_one
returns-then-not-after_one c = sym (more-bad _ _ _ _ c.loop-at.invariant c.after_one.ensures c.if-not-after_one.true)

pub loop-at-preserved : goal.loop-at-preserved
loop-at-preserved c = more-good _ _ _ _ c.loop-at.invariant c.after_one.ensures (omega arith) c.if-not-after_one.false

pub judged-requires : goal.judged-requires
judged-requires c =
    let s = c.args.s.now in
    let d = c.args.d in
    let p : length s - c.loop-at.at - frame_size d ≡ length s - (c.loop-at.at + frame_size d) = omega arith in
    (omega arith, omega arith, rw (c.frame_size-n.ensures, ← p) (whole_less d _ c.loop-at.invariant.whole))

pub returns : goal.returns
returns c = rest-judged _ _ _ _ c.loop-at.invariant (rw c.frame_size-n.ensures at c.judged.ensures)

-- `frame::frame_of` meets its contract. As many characters as a frame has are those at 0, and any other number of them is no frame.
use mathlib.Core.Path.{ap, sym, ◌∙◌}
use native.Mathlib.Omega.{arith}
use lib.Seq.{take_all}
use Rattle.device.specs.Device.{digits_of, frame_size}
use Rattle.frame.specs.Frame.{frame_of}
use Rattle.frame.proofs.Characters.{no_frame, seen, not_seen}
use Rattle.frame.proofs.frame_of.Goals as goal
use Rattle.frame.proofs.frame_of.Goals.{else-s-frame_size-via-then-s-frame_size+else-is_frame_at, else-s-frame_size-via-else-s-frame_size}

pub returns-then-is_frame_at : goal.returns-then-is_frame_at
returns-then-is_frame_at c =
    rw (c.pins_at.ensures, ← seen _ _ (sym c.is_frame_at.ensures ∙ c.if-is_frame_at.true)) (ap (frame_of c.args.d) (take_all (frame_size c.args.d) c.args.s.now (omega arith)))

pub returns-else-s-frame_size : goal.returns-else-s-frame_size
returns-else-s-frame_size c =
    elim c.else-s-frame_size.branch [
      | else-s-frame_size-via-then-s-frame_size+else-is_frame_at w ↦
          rw (← not_seen _ _ (sym w.is_frame_at.ensures ∙ w.if-is_frame_at.false)) (ap (frame_of c.args.d) (take_all (frame_size c.args.d) c.args.s.now (omega arith)))
      | else-s-frame_size-via-else-s-frame_size w ↦
          sym (not_seen c.args.d c.args.s.now (no_frame (digits_of c.args.d) c.args.s.now (λ e. w.if-s-frame_size.false (e ∙ sym c.frame_size.ensures))))
    ]

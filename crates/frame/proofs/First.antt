-- The first frames of a buffer of frames: they are frames, and the pins are the first ones.
use mathlib.Core.Path.{◌≡◌, ◌∙◌}
use mathlib.Core.Bool.{true}
use mathlib.Core.List.{List, [], ◌∷◌}
use Prim.Native.Nat.{ℕ, zero, suc, ◌+◌, ◌*◌, ◌≤◌, ◌<◌}
use native.Mathlib.Nat.{mul-zero, mul-suc, add_comm, zero-add}
use native.Mathlib.Omega.{arith}
use lib.ListN.{length, take, drop, length-take, length-drop}
use lib.Seq.{length-take-le, take-take, take-add, drop_at}
use Rattle.laws.specs.Choice.{both}
use Rattle.device.specs.Device.{digits_of, frame_size}
use Rattle.device.specs.declared.Device.{Device}
use Rattle.frame.specs.Frame.{is_frame, pins_of, are_frames, frames_of}
use Rattle.frame.proofs.Characters.{both_first, both_second}
use Rattle.frame.proofs.Sizes.{some}
use Rattle.frame.proofs.Sequence.{are-next, are-end, frames-next, frames-end}

module _ (d : Device) where
  module _ (m : ℕ) (s : List ℕ) (h : frame_size d ≤ length s) where
    -- the first frame and the rest
    rest-chars : drop (frame_size d) (take (frame_size d + m) s) ≡ take m (drop (frame_size d) s)
    rest-chars = rw take-add (drop_at (take (frame_size d) s) (take m (drop (frame_size d) s)) (frame_size d) (length-take-le (frame_size d) s h))

    first_some : 0 < length (take (frame_size d + m) s)
    first_some = let n = some d in rw length-take (omega arith)

    frames-more : frames_of d (take (frame_size d + m) s) ≡ pins_of (take (frame_size d) s) ∷ frames_of d (take m (drop (frame_size d) s))
    frames-more = frames-next d (take (frame_size d + m) s) 0 first_some ∙ rw (zero-add (frame_size d), take-take (frame_size d) (frame_size d + m) s (omega arith), rest-chars)

    are-more : are_frames d (take (frame_size d + m) s) ≡ both (is_frame (digits_of d) (take (frame_size d) s)) (are_frames d (take m (drop (frame_size d) s)))
    are-more = are-next d (take (frame_size d + m) s) 0 first_some ∙ rw (zero-add (frame_size d), take-take (frame_size d) (frame_size d + m) s (omega arith), rest-chars)

  one_more : (k : ℕ) → frame_size d * suc k ≡ frame_size d + frame_size d * k
  one_more k = mul-suc (frame_size d) k ∙ add_comm (frame_size d * k) (frame_size d)

  -- the first k
  pub frames-take : (k : ℕ) (s : List ℕ) → frame_size d * k ≤ length s → frames_of d (take (frame_size d * k) s) ≡ take k (frames_of d s)
  frames-take zero s h = rw mul-zero (frames-end d [] 0 (omega arith))
  frames-take (suc k) s h =
      let n = some d in
      let e = one_more k in
      rw (e, frames-more (frame_size d * k) s (omega arith), frames-next d s 0 (omega arith), zero-add (frame_size d), frames-take k (drop (frame_size d) s) (rw length-drop (omega arith)))

  pub are-take : (k : ℕ) (s : List ℕ) → frame_size d * k ≤ length s → are_frames d s ≡ true → are_frames d (take (frame_size d * k) s) ≡ true
  are-take zero s h e = rw mul-zero (are-end d [] 0 (omega arith))
  are-take (suc k) s h e =
      let n = some d in
      let q = one_more k in
      let b = rw (are-next d s 0 (omega arith), zero-add (frame_size d)) at e in
      rw (q, are-more (frame_size d * k) s (omega arith), both_first (is_frame (digits_of d) (take (frame_size d) s)) (are_frames d (drop (frame_size d) s)) b)
      (are-take k (drop (frame_size d) s) (rw length-drop (omega arith)) (both_second (is_frame (digits_of d) (take (frame_size d) s)) (are_frames d (drop (frame_size d) s)) b))

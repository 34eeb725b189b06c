-- The pins of a buffer of frames are all in range, and its first frames are within it.
use mathlib.Core.Path.{◌≡◌}
use mathlib.Core.Bool.{true}
use mathlib.Core.List.{List, [], ◌∷◌}
use Prim.Native.Nat.{ℕ, suc, ◌*◌, ◌/◌, ◌<◌, ◌≤◌}
use native.Mathlib.Omega.{arith}
use lib.ListN.{length, get_or}
use Rattle.device.specs.Device.{frame_size}
use Rattle.device.specs.declared.Device.{Device}
use Rattle.device.specs.declared.Device.TheVariants.{Em73862, Em73P982}
use Rattle.frame.specs.Frame.{are_frames, frames_of, PinsInRange}
use Rattle.frame.specs.declared.Pins.{Pins}
use Rattle.frame.proofs.Sequence.{length-frames, number-in-range}
use Rattle.bound_runs.specs.Handler.{AllInRange}

all_by_index : (d : Device) (l : List Pins) (other : Pins) → ((k : ℕ) → k < length l → PinsInRange d (get_or l k other)) → AllInRange d l
all_by_index d [] other h = tt
all_by_index d (p ∷ l) other h = (h 0 (omega arith), all_by_index d l other (λ k g. h (suc k) (omega arith)))

pub all_in_range : (d : Device) (s : List ℕ) → are_frames d s ≡ true → AllInRange d (frames_of d s)
all_in_range d s e =
    let other : Pins = record { p0 = 0; p8 = 0; p4 = 0; speech = 0 } in
    all_by_index d (frames_of d s) other (λ k h. number-in-range d s e k other (rw (← length-frames d s e) h))

-- the characters of as many frames as a buffer has, by cases on the frame's size
pub frames_fit : (d : Device) (k x : ℕ) → k ≤ x / frame_size d → frame_size d * k ≤ x
frames_fit Em73862 k x h = omega arith
frames_fit Em73P982 k x h = omega arith

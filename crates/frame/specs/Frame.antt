-- Document 01, "The record": what the characters of a frame, and a buffer of them, say of the pins. How many digits a frame has, and what each stays below, is the device's.
use Rattle.std.specs.Prelude.{ℕ, zero, suc, ◌+◌, ◌-◌, ◌/◌, ◌<◌, Bool, true, false, Option, Some, None, List, [], ◌∷◌, map, ltb, length, get_or, take, drop}
use Prim.Native.Char.{code}
use Rattle.laws.specs.Choice.{pick, both}
use Rattle.text.specs.Hexadecimal.{digit_of}
use Rattle.device.specs.Device.{digits_of, frame_size, limit_of}
use Rattle.device.specs.declared.Device.{Device}
use Rattle.frame.specs.declared.Pins.{Pins}

-- as many characters as limits, each a digit below its limit; so "an empty line is no frame"
abbrev pub is_frame : List ℕ → List ℕ → Bool
is_frame [] [] = true
is_frame [] (c ∷ cs) = false
is_frame (l ∷ ls) [] = false
is_frame (l ∷ ls) (c ∷ cs) = both (ltb (digit_of c) l) (is_frame ls cs)

-- the digit at a place; one that the frame does not have is 0
abbrev pub digit_at : List ℕ → ℕ → ℕ
digit_at cs i = digit_of (get_or cs i (code "0"))

abbrev pub pins_of : List ℕ → Pins
pins_of cs = record { p0 = digit_at cs 0; p8 = digit_at cs 1; p4 = digit_at cs 2; speech = digit_at cs 3 }

unfoldable pub frame_of : Device → List ℕ → Option Pins
frame_of d cs = pick (is_frame (digits_of d) cs) (Some (pins_of cs)) None

-- n characters of a sequence from at on; whether those of a frame's size are a frame, and which
abbrev pub chars_at : ℕ → List ℕ → ℕ → List ℕ
chars_at n s at = take n (drop at s)

abbrev pub is_frame_at : Device → List ℕ → ℕ → Bool
is_frame_at d s at = is_frame (digits_of d) (chars_at (frame_size d) s at)

abbrev pub frame_at : Device → List ℕ → ℕ → Option Pins
frame_at d s at = frame_of d (chars_at (frame_size d) s at)

-- the first k pieces of n characters each
abbrev pub cut : ℕ → ℕ → List ℕ → List (List ℕ)
cut zero n s = []
cut (suc k) n s = take n s ∷ cut k n (drop n s)

-- all of them, the last perhaps shorter
abbrev pub pieces : ℕ → List ℕ → List (List ℕ)
pieces n s = cut ((length s + (n - 1)) / n) n s

abbrev pub every : (List ℕ → Bool) → List (List ℕ) → Bool
every f [] = true
every f (x ∷ xs) = both (f x) (every f xs)

-- "In calls frames are these characters with nothing between; a last frame cut short is no frame."
unfoldable pub are_frames : Device → List ℕ → Bool
are_frames d s = every (is_frame (digits_of d)) (pieces (frame_size d) s)

-- such a buffer's frames, in order
unfoldable pub frames_of : Device → List ℕ → List Pins
frames_of d s = map pins_of (pieces (frame_size d) s)

-- P0 and P8 are digits, P4 and the fourth digit are below the device's limits
pub record PinsInRange (d : Device) (p : Pins) : Type 0 where
  pub p0 : p.p0 < 16
  pub p8 : p.p8 < 16
  pub p4 : p.p4 < limit_of d 2
  pub speech : p.speech < limit_of d 3

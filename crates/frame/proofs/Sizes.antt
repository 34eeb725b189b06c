-- Numbers of characters and of frames: what is by cases on the frame's size, so that other laws need no product of two unknowns.
use mathlib.Core.Path.{◌≡◌, refl}
use Prim.Native.Nat.{ℕ, zero, suc, ◌+◌, ◌-◌, ◌*◌, ◌/◌, ◌%◌, ◌<◌, ◌≤◌}
use native.Mathlib.Omega.{arith}
use Rattle.device.specs.Device.{frame_size}
use Rattle.device.specs.declared.Device.{Device}
use Rattle.device.specs.declared.Device.TheVariants.{Em73862, Em73P982}

pub some : (d : Device) → 0 < frame_size d
some Em73862 = omega arith
some Em73P982 = omega arith

-- a piece more, and none
pub pieces_count : (d : Device) (x : ℕ) → 0 < x → (x + (frame_size d - 1)) / frame_size d ≡ suc ((x - frame_size d + (frame_size d - 1)) / frame_size d)
pieces_count Em73862 x h = omega arith
pieces_count Em73P982 x h = omega arith

pub pieces_none : (d : Device) (x : ℕ) → x ≡ 0 → (x + (frame_size d - 1)) / frame_size d ≡ 0
pieces_none Em73862 x e = omega arith
pieces_none Em73P982 x e = omega arith

-- the piece of a number starts before the end; and where that number is the last and its piece is cut short
pub piece_start : (d : Device) (x k : ℕ) → k < x / frame_size d → k < (x + (frame_size d - 1)) / frame_size d
piece_start Em73862 x k h = omega arith
piece_start Em73P982 x k h = omega arith

pub last_start : (d : Device) (x : ℕ) → (x % frame_size d ≡ 0 → ⊥) → x / frame_size d < (x + (frame_size d - 1)) / frame_size d
last_start Em73862 x h = omega arith
last_start Em73P982 x h = omega arith

pub last_short : (d : Device) (x : ℕ) → x - frame_size d * (x / frame_size d) < frame_size d
last_short Em73862 x = omega arith
last_short Em73P982 x = omega arith

-- whole frames: how many, as many less one, and 24 characters less
pub whole_count : (d : Device) (x : ℕ) → x % frame_size d ≡ 0 → (x + (frame_size d - 1)) / frame_size d ≡ x / frame_size d
whole_count Em73862 x w = omega arith
whole_count Em73P982 x w = omega arith

pub whole_fits : (d : Device) (x : ℕ) → x % frame_size d ≡ 0 → 0 < x → frame_size d ≤ x
whole_fits Em73862 x w h = omega arith
whole_fits Em73P982 x w h = omega arith

pub whole_less : (d : Device) (x : ℕ) → x % frame_size d ≡ 0 → (x - frame_size d) % frame_size d ≡ 0
whole_less Em73862 x w = omega arith
whole_less Em73P982 x w = omega arith

pub whole_less_24 : (d : Device) (x : ℕ) → x % frame_size d ≡ 0 → (x - 24) % frame_size d ≡ 0
whole_less_24 Em73862 x w = omega arith
whole_less_24 Em73P982 x w = omega arith

-- the characters of k frames, added up
abbrev pub times : ℕ → ℕ → ℕ
times zero n = 0
times (suc k) n = n + times k n

pub in_24 : (d : Device) → times (24 / frame_size d) (frame_size d) ≡ 24
in_24 Em73862 = refl
in_24 Em73P982 = refl

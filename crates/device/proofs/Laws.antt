-- Laws of the devices: what is picked by one stays in its range, and the window lies in the image.
use mathlib.Core.Path.{◌≡◌, refl}
use mathlib.Core.Bool.{Bool}
use Prim.Native.Nat.{ℕ, ◌+◌, ◌*◌, ◌%◌, ◌<◌, ◌≤◌}
use native.Mathlib.Omega.{arith}
use lib.Dec.{ltb}
use borrow.Author.Tests.{le-ltb}
use Rattle.laws.proofs.Choices.{picked}
use Rattle.laws.specs.Among.{among}
use Rattle.laws.specs.Decides.{Decides}
use Rattle.laws.proofs.Decided.{less, equal, negated, ◌and◌}
use Rattle.bits.proofs.Laws.{with_lt}
use Rattle.device.specs.declared.Device.{Device}
use Rattle.device.specs.declared.Device.TheVariants.{Em73862, Em73P982}
use Rattle.device.specs.Device.{image_size, limit_of, also_writable, also_below, p4_pins, in_image, is_banked, Banked, window_end}

-- the digits of P0 and P8 are any, that of P4 at most any
pub p0_nibble : (d : Device) → limit_of d 0 ≡ 16
p0_nibble Em73862 = refl
p0_nibble Em73P982 = refl

pub p8_nibble : (d : Device) → limit_of d 1 ≡ 16
p8_nibble Em73862 = refl
p8_nibble Em73P982 = refl

pub p4_nibble : (d : Device) → limit_of d 2 ≤ 16
p4_nibble Em73862 = omega arith
p4_nibble Em73P982 = omega arith

-- P4 reads a nibble
pub p4_pins_lt : (d : Device) (sound : Bool) (p4 : ℕ) → p4 < limit_of d 2 → p4_pins d sound p4 < 16
p4_pins_lt Em73862 sound p4 h = picked (λ (v : ℕ). v < 16) sound 15 (14 + p4) (omega arith) (omega arith)
p4_pins_lt Em73P982 sound p4 h = picked (λ (v : ℕ). v < 16) sound _ p4 (with_lt 4 0 p4 (omega arith) h) h

-- what a latch that the device has holds, and P3
pub also_nibble : (d : Device) (n : ℕ) → also_below d n ≤ 16
also_nibble d n = picked (λ (v : ℕ). v ≤ 16) (among (also_writable d) n) 16 1 (omega arith) (omega arith)

pub banked : (d : Device) (p3 : ℕ) → Decides (is_banked d p3) ((p3 < also_below d 3) × (p3 % 4 ≡ 3 → ⊥))
banked d p3 = (less p3 (also_below d 3) and negated (equal (p3 % 4) 3)).decides

-- the window's end, which is the image's or before it
fits : (d : Device) (p3 : ℕ) → p3 < also_below d 3 → (p3 % 4 ≡ 3 → ⊥) → window_end p3 ≤ image_size d
fits Em73862 p3 h n = omega arith
fits Em73P982 p3 h n = omega arith

pub window_fits : (d : Device) (p3 : ℕ) → Banked d p3 → window_end p3 ≤ image_size d
window_fits d p3 b = fits d p3 ((banked d p3).sound b).0 ((banked d p3).sound b).1

-- an address of the window has its place before the window's end, so in the image
pub before_end : (p3 at n : ℕ) → window_end p3 ≤ n → at < 8192 → in_image p3 at < n
before_end p3 at n w h = picked (λ (i : ℕ). i < n) (ltb at 4096) at (at + 4096 * (p3 % 4)) (omega arith) (omega arith)

pub in_image_lt : (d : Device) (p3 at : ℕ) → Banked d p3 → at < 8192 → in_image p3 at < image_size d
in_image_lt d p3 at b h = before_end p3 at (image_size d) (window_fits d p3 b) h

-- addresses in the window one after another
pub window_next : (p3 at k : ℕ) → 4096 ≤ at → in_image p3 at + k ≡ in_image p3 (at + k)
window_next p3 at k h = rw (le-ltb at 4096 h, le-ltb (at + k) 4096 (omega arith)) (omega arith)

-- Numbers in two bytes and in four, flags and modes: that what the code makes of the bytes has those bytes.
use Prim.Native.Nat.{ℕ, ◌/◌, ◌%◌, ◌^◌, ◌<◌}
use mathlib.Core.Path.{◌≡◌}
use native.Mathlib.Omega.{arith}
use Rattle.std.specs.Int.{w16, w32, to_le_bytes}
use Rattle.record_bytes.specs.Layout.{two, four}

pub two_bytes : (n : ℕ) → n < 2 ^ 16 → to_le_bytes w16 n ≡ two n
unfolding two
two_bytes n h = let high : n / 256 % 256 ≡ n / 256 = omega arith in rw high

pub four_bytes : (n : ℕ) → n < 2 ^ 32 → to_le_bytes w32 n ≡ four n
unfolding two four
four_bytes n h =
    let b0 : n % 65536 % 256 ≡ n % 256 = omega arith in
    let b1 : n % 65536 / 256 ≡ n / 256 % 256 = omega arith in
    let b3 : n / 65536 / 256 ≡ n / 16777216 % 256 = omega arith in
    rw (b0, b1, b3)

-- The number of a step has twenty digits at most.
use Prim.Native.Nat.{ℕ, ◌<◌, ◌≤◌}
use native.Mathlib.Omega.{arith}
use Rattle.text.specs.Digits.{places_of}
use Rattle.text.proofs.digits.Numbers.{places_up_to}

pub places_of_step : (v : ℕ) → v < 18446744073709551616 → places_of v ≤ 20
places_of_step v h = places_up_to 19 v (omega arith)

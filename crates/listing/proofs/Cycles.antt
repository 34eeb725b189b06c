-- The cycles of a step have five digits at most.
use Prim.Native.Nat.{ℕ, ◌<◌, ◌≤◌}
use native.Mathlib.Omega.{arith}
use Rattle.text.specs.Digits.{places_of}
use Rattle.text.proofs.digits.Numbers.{places_up_to}

pub places_of_cycles : (v : ℕ) → v < 65536 → places_of v ≤ 5
places_of_cycles v h = places_up_to 4 v (omega arith)

-- The bytes of a row, a byte at a time.
use mathlib.Core.Path.{◌≡◌, refl}
use mathlib.Core.List.{◌++◌, append_assoc}
use Prim.Native.Nat.{ℕ, zero, suc, ◌+◌, ◌<◌}
use native.Mathlib.Omega.{arith}
use lib.ListN.{take}
use Rattle.sheet.specs.Reading.{fetched}
use Rattle.text.specs.Digits.{hex, blanks}
use Rattle.text_lister.specs.Listing.{spaced}

-- the first of them
pub spaced_first : (rom : ℕ → ℕ) (at : ℕ) → spaced (take 1 (fetched rom at)) ≡ hex 2 (rom at)
spaced_first rom at = refl

pub spaced_next : (rom : ℕ → ℕ) (at i : ℕ) → 0 < i → i < 3 → spaced (take (i + 1) (fetched rom at)) ≡ spaced (take i (fetched rom at)) ++ (blanks 1 ++ hex 2 (rom (at + i)))
spaced_next rom at zero g h = absurd (omega arith)
spaced_next rom at (suc zero) g h = refl
spaced_next rom at (suc (suc zero)) g h = simp append_assoc
spaced_next rom at (suc (suc (suc i))) g h = absurd (omega arith)

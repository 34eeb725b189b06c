-- Counts as numbers: the address of a row, and from bit 16 up how often it may be executed; and what is asked of their numbers in mixed radix.
use Rattle.std.specs.Prelude.{◌≡◌, true, false, List, map, ℕ, suc, ◌*◌, ◌/◌, ◌%◌, ◌≤◌, ◌<◌}
use Rattle.laws.specs.Choice.{pick}
use Rattle.counts.specs.Counts.{Count}
use Rattle.counts.specs.Radix.{weighs_first, size, fits_in, moved}

abbrev pub count_of : ℕ → Count
count_of z = record { at = z % 65536; most = z / 65536 }

abbrev pub counts_of : List ℕ → List Count
counts_of l = map count_of l

-- r is s times as many as the count has numbers, where it weighs and s is not too large
pub record Times (s count mask r : ℕ) : Type 0 where
  pub over : 32768 < s → r ≡ s
  pub within : s ≤ 32768 → r ≡ s * pick (weighs_first mask) (suc (count_of count).most) 1

-- r is how many numbers there are, or both are over 32,768
pub record Sizes (C : List Count) (mask r : ℕ) : Type 0 where
  pub within : r ≤ 32768 → r ≡ size C mask
  pub over : 32768 < r → 32768 < size C mask

-- r is where the step leads, or 65,535 where it does not fit
pub record Moves (C : List Count) (mask there a d r : ℕ) : Type 0 where
  pub fits : r < 32768 → (fits_in C mask a d ≡ true) × (r ≡ moved C mask there a d) × (r < size C there)
  pub exceeds : 32768 ≤ r → fits_in C mask a d ≡ false

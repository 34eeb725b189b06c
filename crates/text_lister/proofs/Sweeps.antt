-- The sweep, a line at a time.
use mathlib.Core.Path.{◌≡◌, refl}
use mathlib.Core.List.{[], ◌++◌}
use Prim.Native.Nat.{ℕ, zero, suc, ◌-◌, ◌<◌, ◌≤◌}
use native.Mathlib.Nat.{not-suc-le-zero}
use native.Mathlib.Omega.{arith}
use borrow.Author.Tests.{lt-ltb, le-ltb}
use Rattle.sheet.specs.Reading.{read_at}
use Rattle.text_lister.specs.Listing.{line_of, sweep_next, swept_lines}

module _ (rom : ℕ → ℕ) (at : ℕ) where
  pub listing-past : (n : ℕ) → 8192 ≤ at → swept_lines rom at n ≡ []
  unfolding swept_lines
  listing-past zero h = refl
  listing-past (suc n) h = rw (le-ltb at 8192 h)

  pub listing_none : {n : ℕ} → n ≡ 0 → swept_lines rom at n ≡ []
  unfolding swept_lines
  listing_none e = rw e

  pub listing-more : (n : ℕ) → 0 < n → at < 8192 → swept_lines rom at n ≡ line_of rom at ++ swept_lines rom (sweep_next at (read_at rom at)) (n - 1)
  unfolding swept_lines
  listing-more zero l h = absurd (not-suc-le-zero l)
  listing-more (suc n) l h = let e : suc n - 1 ≡ n = omega arith in rw (lt-ltb at 8192 h, e)

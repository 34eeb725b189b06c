-- What is read at the last two addresses, by what `sheet::timing` says of the first byte.
use mathlib.Core.Path.{◌≡◌}
use mathlib.Core.List.{[], ◌∷◌}
use Prim.Native.Nat.{ℕ, ◌/◌, ◌<◌, ◌≤◌}
use native.Mathlib.Omega.{arith}
use lib.Dec.{eqb}
use Rattle.laws.specs.Choice.{pick}
use Rattle.sheet.specs.Reading.{read_bytes, read_left}
use Rattle.sheet.specs.Timing.{TimedFrom, NoneFrom, from}
use Rattle.std.specs.Prelude.{Err}
use Rattle.sheet.specs.declared.NoRow.{NoRow}
use Rattle.sheet.proofs.Ends.{bytes_from_lem, read_behind, one_cut, two_cut}

module _ (b n t : ℕ) (h : b < 256) (told : TimedFrom b n t × NoneFrom b n) where
  is-from : n ≡ (from b).bytes
  is-from = bytes_from_lem b n t h told.0 told.1

  pub one-enough : n < 2 → read_bytes (b ∷ 0 ∷ 0 ∷ []) ≡ read_left (b ∷ [])
  one-enough k = let e = is-from in read_behind b [] (0 ∷ 0 ∷ []) h (omega arith)

  pub one-past : 2 ≤ n → Err NoRow.PastEnd ≡ read_left (b ∷ [])
  one-past k = let e = is-from in one_cut b h (omega arith)

  pub two-enough : (c : ℕ) → n < 3 → read_bytes (b ∷ c ∷ 0 ∷ []) ≡ read_left (b ∷ c ∷ [])
  two-enough c k = let e = is-from in read_behind b (c ∷ []) (0 ∷ []) h (omega arith)

  pub two_past : (c : ℕ) → c < 256 → 3 ≤ n → pick (eqb (c / 16) 12) (Err NoRow.PastEnd) (Err NoRow.Unassigned) ≡ read_left (b ∷ c ∷ [])
  two_past c l k = let e = is-from in two_cut b c h l (omega arith)

-- Eight groups in a word, by one test.
use Prim.Native.Nat.{ℕ, ◌+◌, ◌*◌, ◌/◌, ◌%◌, ◌^◌, ◌<◌, ◌≤◌}
use mathlib.Core.Bool.{Bool}
use mathlib.Core.Path.{◌≡◌, sym, subst}
use native.Mathlib.Omega.{arith}
use lib.Dec.{T, leb, leb→le, le→leb}
use Rattle.laws.specs.Among.{among}
use Rattle.laws.specs.Choice.{both}
use Rattle.laws.proofs.Computed.{below, implies, at, modus, both_left, both_right, T→true}
use Rattle.row_dispatch.specs.Groups.{rows_at, Packs}

abbrev byte : ℕ → ℕ → ℕ
byte w k = w / 2 ^ (8 * k) % 256

abbrev has_row : ℕ → ℕ → ℕ → Bool
has_row n w k = both (among (rows_at (byte w k)) (8 * n + k)) (leb (byte w k) 24)

abbrev fits : ℕ → ℕ → ℕ → Bool
fits n w k = implies (leb 1 (8 * n + k)) (implies (leb (8 * n + k) 107) (has_row n w k))

found : (n w : ℕ) → T (below 8 (fits n w)) → (k : ℕ) → k < 8 → 1 ≤ 8 * n + k → 8 * n + k < 108 → T (has_row n w k)
found n w t k h some row =
    modus (leb (8 * n + k) 107) (has_row n w k)
    (modus (leb 1 (8 * n + k)) (implies (leb (8 * n + k) 107) (has_row n w k)) (at (fits n w) 8 t k h) (le→leb 1 (8 * n + k) some))
    (le→leb (8 * n + k) 107 (omega arith))

packed : (n w : ℕ) → T (below 8 (fits n w)) → Packs n w
packed n w t = record {
  same = λ k h some row. T→true _ (both_left (among (rows_at (byte w k)) (8 * n + k)) (leb (byte w k) 24) (found n w t k h some row));
  few = λ k h some row. let e = leb→le (byte w k) 24 (both_right (among (rows_at (byte w k)) (8 * n + k)) (leb (byte w k) 24) (found n w t k h some row)) in omega arith;
}

pub packed_at : (k n w : ℕ) → n ≡ k → T (below 8 (fits k w)) → Packs n w
packed_at k n w e t = subst (λ (n : ℕ). Packs n w) (sym e) (packed k w t)

-- Where a row goes, by its number.
use mathlib.Core.Path.{◌≡◌, refl, ap}
use mathlib.Core.Bool.{Bool}
use mathlib.Core.List.{List, [], ◌∷◌}
use Prim.Native.Nat.{ℕ, ◌<◌}
use lib.Dec.{T}
use Rattle.std.specs.Prelude.{Option, Some, None, is_none}
use Rattle.laws.proofs.Computed.{below, implies, out, NoKey, rest_at}
use Rattle.sheet.specs.Table.{line_at}
use Rattle.sheet.specs.declared.Insn.{Insn}
use Rattle.sheet.specs.Flow.{goes_by, goes_to}

pub goes_by_lem : (at : ℕ) (i : Insn) {n : ℕ} → i.row ≡ n → goes_to at i ≡ goes_by (line_at n).operation at i.a
unfolding goes_to
goes_by_lem at i e = ap (λ (m : ℕ). goes_by (line_at m).operation at i.a) e

-- SCALL, LCALL, SLBR, LBR and SBR
abbrev going : List ℕ
going = 72 ∷ 71 ∷ 49 ∷ 48 ∷ 47 ∷ []

module _ (at a : ℕ) where
  nowhere : ℕ → Bool
  nowhere n = is_none (goes_by (line_at n).operation at a)

  all-nowhere : T (below 256 (λ n. implies (out going n) (nowhere n)))
  unfolding nowhere line_at
  all-nowhere = tt

none_is : (o : Option ℕ) → T (is_none o) → o ≡ None
none_is None t = refl
none_is (Some n) t = absurd t

pub goes_nowhere : (at : ℕ) (i : Insn) → i.row < 256 → NoKey i.row going → goes_to at i ≡ None
unfolding goes_to nowhere
goes_nowhere at i h r = none_is (goes_by (line_at i.row).operation at i.a) (rest_at (nowhere at i.a) going 256 (all-nowhere at i.a) i.row h r)

-- A character that a range's test passes.
use mathlib.Core.Path.{◌≡◌, sym, ◌∙◌}
use mathlib.Core.Bool.{Bool, true}
use Prim.Native.Char.{Char, code}
use Prim.Native.Nat.{ℕ, ◌≤◌}
use lib.Dec.{leb, leb→le}
use Rattle.laws.proofs.Computed.{true→T, both_left}
use Rattle.text.specs.Hexadecimal.{between}

-- it is not below the first
pub between_from : (a z : Char) (c : ℕ) {t : Bool} → t ≡ between a z c → t ≡ true → code a ≤ c
between_from a z c e h = leb→le (code a) c (both_left (leb (code a) c) (leb c (code z)) (true→T (sym e ∙ h)))

-- No pin of two equal digits has an edge.
use mathlib.Core.Path.{◌≡◌, refl}
use mathlib.Core.Bool.{Bool, true, false, not}
use Prim.Native.Nat.{ℕ}
use Rattle.laws.specs.Choice.{both}
use Rattle.bits.specs.Bits.{has_bit}
use Rattle.edges.specs.Edges.{fell, rose}

not_both : (b : Bool) → both b (not b) ≡ false
not_both true = refl
not_both false = refl

pub no_fall : (n w : ℕ) → fell n n w ≡ false
no_fall n w = not_both (has_bit n w)

pub no_rise : (n w : ℕ) → rose n n w ≡ false
no_rise n w = not_both (has_bit n w)

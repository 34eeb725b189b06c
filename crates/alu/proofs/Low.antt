-- What a row makes of nibbles is a nibble.
use mathlib.Core.Bool.{Bool}
use Prim.Native.Nat.{ℕ, ◌<◌}
use native.Mathlib.Omega.{arith}
use lib.Dec.{T, eqb, ltb, ltb→lt}
use lib.Bits.{bit_and, bit_or, bit_xor}
use Rattle.laws.specs.Choice.{either}
use Rattle.laws.proofs.Computed.{below, at, implies, modus}
use Rattle.bits.specs.Bits.{with_bit, without_bit}
use Rattle.bits.proofs.Laws.{bit_of_lt}
use Rattle.sheet.specs.Operation.{Op}
use Rattle.sheet.specs.Operation.Op.{Move, Plus, PlusCF, Minus, MinusCF', And, Or, Xor, Clear, Set, Has, Lacks, RotateLeft, RotateRight}
use Rattle.alu.specs.Making.{made}

-- a test over all pairs of nibbles, carried to each
pub pair_at_lem : (f : ℕ → ℕ → Bool) → T (below 16 (λ a. below 16 (f a))) → (a b : ℕ) → a < 16 → b < 16 → T (f a b)
pair_at_lem f t a b ha hb = at (f a) 16 (at (λ a. below 16 (f a)) 16 t a ha) b hb

-- the weight of a bit
abbrev pub is_weight : ℕ → Bool
is_weight w = either (eqb w 1) (either (eqb w 2) (either (eqb w 4) (eqb w 8)))

-- what an operation asks of its second nibble: bits are named by their weight
abbrev pub Second : Op → ℕ → Type 0
Second Move b = Unit
Second Plus b = Unit
Second PlusCF b = Unit
Second Minus b = Unit
Second MinusCF' b = Unit
Second And b = Unit
Second Or b = Unit
Second Xor b = Unit
Second Clear b = T (is_weight b)
Second Set b = T (is_weight b)
Second Has b = T (is_weight b)
Second Lacks b = T (is_weight b)
Second RotateLeft b = Unit
Second RotateRight b = Unit

module _ (a b : ℕ) (cf : Bool) (ha : a < 16) (hb : b < 16) where
  low : (f : ℕ → ℕ → ℕ) → T (below 16 (λ x. below 16 (λ y. ltb (f x y) 16))) → f a b < 16
  low f t = ltb→lt (f a b) 16 (pair_at_lem (λ x y. ltb (f x y) 16) t a b ha hb)

  low_bit : (f : ℕ → ℕ → ℕ) → T (below 16 (λ x. below 16 (λ y. implies (is_weight y) (ltb (f x y) 16)))) → T (is_weight b) → f a b < 16
  low_bit f t w = ltb→lt (f a b) 16 (modus (is_weight b) (ltb (f a b) 16) (pair_at_lem (λ x y. implies (is_weight y) (ltb (f x y) 16)) t a b ha hb) w)

  pub made-low : (o : Op) → Second o b → (made o a b cf).value < 16
  unfolding made
  made-low Move s = ha
  made-low Plus s = omega arith
  made-low PlusCF s = omega arith
  made-low Minus s = omega arith
  made-low MinusCF' s = omega arith
  made-low And s = low bit_and tt
  made-low Or s = low bit_or tt
  made-low Xor s = low bit_xor tt
  made-low Clear s = low_bit without_bit tt s
  made-low Set s = low_bit with_bit tt s
  made-low Has s = ha
  made-low Lacks s = ha
  made-low RotateLeft s = omega arith
  made-low RotateRight s = omega (arith, bit_of_lt cf)

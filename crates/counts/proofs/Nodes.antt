-- Where the nodes of the places stand one after another, each node is of one place and tells the numbers that weigh there.
use mathlib.Core.Path.{◌≡◌, sym}
use mathlib.Core.Bool.{Bool}
use mathlib.Core.List.{List}
use Prim.Native.Nat.{ℕ, ◌+◌, ◌≤◌, ◌<◌}
use native.Mathlib.Omega.{arith}
use native.Mathlib.Decide.{dec_lt}
use Rattle.routines.specs.Calling.{Flow}
use Rattle.counts.specs.Counts.{Count, Member, Numbers}
use Rattle.counts.specs.Weights.{Reached, Weighs}
use Rattle.counts.specs.Radix.{size, digits, Masks}
use Rattle.counts.specs.Unrolled.{Nodes}
use Rattle.counts.proofs.Radix.{digits_lt, digits_one}
use Rattle.counts.proofs.Good.{Good}

module _ (f : Flow) (K : ℕ → Bool) (address : ℕ → ℕ) (C : List Count) (mask base : ℕ → ℕ) where
  abbrev pub nodeAt : ℕ → Numbers → ℕ
  nodeAt v u = base v + digits C (mask v) u

  module _ (masks : (v : ℕ) → Reached f K v → Masks (Weighs f K address v) C (mask v)) (apart : (v w : ℕ) → Reached f K v → Reached f K w → v < w → base v + size C (mask v) ≤ base w) where
    below : {v w : ℕ} {u t : Numbers} → Good f K address C v u → Good f K address C w t → nodeAt v u ≡ nodeAt w t → v < w → ⊥
    below {v} {w} {u} {t} a b e l = omega (arith, e, apart v w a.reached b.reached l, digits_lt C (mask v) u a.ranged)

    pub nodes : Nodes f K address C (Good f K address C) nodeAt
    nodes = record { one = one; numbers = numbers }
      where
        one : {v w : ℕ} {u t : Numbers} → Good f K address C v u → Good f K address C w t → nodeAt v u ≡ nodeAt w t → v ≡ w
        one {v} {w} a b e = go (dec_lt v w) (dec_lt w v)
          where
            go : Dec (v < w) → Dec (w < v) → v ≡ w
            go (yes l) d = absurd (below a b e l)
            go (no l) (yes l') = absurd (below b a (sym e) l')
            go (no l) (no l') = omega (arith, l, l')

        numbers : {v : ℕ} {u t : Numbers} → Good f K address C v u → Good f K address C v t → nodeAt v u ≡ nodeAt v t → (c : Count) → Member c C → Weighs f K address v c → u c.at ≡ t c.at
        numbers {v} {u} {t} a b e c m w =
            let same : digits C (mask v) u ≡ digits C (mask v) t = omega (arith, e) in
            digits_one (masks v a.reached) a.ranged b.ranged same c m w

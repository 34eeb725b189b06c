-- Laws of the masks that get a bit more.
use mathlib.Core.Path.{◌≡◌, refl, sym, ◌∙◌}
use mathlib.Core.Logic.{inl, inr}
use mathlib.Core.Bool.{Bool, true, false}
use mathlib.Core.List.{List}
use Prim.Native.Nat.{ℕ, ◌+◌, ◌*◌, ◌<◌}
use native.Mathlib.Omega.{arith}
use native.Mathlib.Decide.{ℕ_discrete}
use lib.ListN.{length, get_or, set}
use lib.Seq.{get_or-set_same, get_or-set_other}
use Rattle.laws.specs.Choice.{pick}
use Rattle.graph.specs.Graph.{Graph, GoesOn}
use Rattle.graph_search.specs.Marks.{Marked}
use Rattle.routines_known.specs.Marking.{Sized}
use Rattle.graph_search.proofs.Zeros.{marked_lt}
use Rattle.routines_counted.specs.Overs.{steps_in, Starts, BehindTo}
use Rattle.routines_counted.specs.Seeds.{AheadIs}
use Rattle.routines_counted.proofs.Stepping.{steps_inside}
use Rattle.routines_joined.specs.Ranks.{Tells}
use Rattle.routines_counted.specs.Masking.{LeadsTo, WeighsBy, WeighsIn, BitIs, BitsTo}

pub tells_both : {P Q : Type 0} {r : Bool} → P → Tells Q r → Tells (P × Q) r
tells_both p t = record { so = λ e. (p, t.so e); not_so = λ e x. t.not_so e x.1 }

module _ (g : Graph) (m : List ℕ) (v : ℕ) where
  pub no_step : (GoesOn g v → ⊥) → LeadsTo g m v → ⊥
  no_step n (w, e, k) = n e.0

  pub by_next : (w : ℕ) → GoesOn g v → w ≡ g.next v → Marked m w → LeadsTo g m v
  by_next w on e k = (w, (on, inl e), k)

  pub by_other : (w : ℕ) → GoesOn g v → w ≡ g.other v → Marked m w → LeadsTo g m v
  by_other w on e k = (w, (on, inr e), k)

  pub by-neither : (y z : ℕ) → y ≡ g.next v → z ≡ g.other v → get_or m y 0 ≡ 0 → get_or m z 0 ≡ 0 → LeadsTo g m v → ⊥
  by-neither y z ey ez my mz (w, (on, inl e), k) = let q : w ≡ y = e ∙ sym ey in omega (arith, my, rw q at k)
  by-neither y z ey ez my mz (w, (on, inr e), k) = let q : w ≡ z = e ∙ sym ez in omega (arith, mz, rw q at k)

pub bits_none : (W : ℕ → Type 0) (a : List ℕ) → BitsTo W a 0 a
bits_none W a = record { at = λ v h. absurd (omega (arith, h)); rest = λ v h. refl }

pub bit_is : {P : Type 0} (a b : ℕ) (r : Bool) → Tells P r → b ≡ 2 * a + pick r 1 0 → BitIs P a b
bit_is a b true t e = BitIs.set (t.so refl) e
bit_is a b false t e = BitIs.clear (t.not_so refl) (omega (arith, e))

pub bits_more : (W : ℕ → Type 0) (a b : List ℕ) (t y : ℕ) → t < length b → BitsTo W a t b → BitIs (W t) (get_or b t 0) y → BitsTo W a (t + 1) (set b t y)
bits_more W a b t y h j e = record { at = λ v l. at v l (ℕ_discrete v t); rest = λ v l. get_or-set_other b t v y 0 (λ q. omega (arith, q, l)) ∙ j.rest v (omega (arith, l)) }
  where
    at : (v : ℕ) → v < t + 1 → Dec (v ≡ t) → BitIs (W v) (get_or a v 0) (get_or (set b t y) v 0)
    at v l (yes q) = rw (q, get_or-set_same b t y 0 h) (rw (j.rest t (omega arith)) at e)
    at v l (no q) = rw (get_or-set_other b t v y 0 q) (j.at v (omega (arith, l, q)))

pub bits_end : (W : ℕ → Type 0) (a b : List ℕ) (t n : ℕ) → t ≡ n → BitsTo W a t b → BitsTo W a n b
bits_end W a b t n e j = rw (← e) j

-- the bits of what is the same
pub bits_by : {W U : ℕ → Type 0} {a b : List ℕ} {t : ℕ} → ((v : ℕ) → v < t → W v → U v) → ((v : ℕ) → v < t → U v → W v) → BitsTo W a t b → BitsTo U a t b
bits_by {W} {U} {a} {b} {t} to back x = record { at = λ v h. go v h (x.at v h); rest = x.rest }
  where
    go : (v : ℕ) → v < t → BitIs (W v) (get_or a v 0) (get_or b v 0) → BitIs (U v) (get_or a v 0) (get_or b v 0)
    go v h (BitIs.set p e) = BitIs.set (to v h p) e
    go v h (BitIs.clear n e) = BitIs.clear (λ u. n (back v h u)) e

-- what weighs by the marks of both searches
module _ (x r b m : List ℕ) (at n : ℕ) (sized : Sized x n) (behind : BehindTo (steps_in x) (Starts x r at) (length r) b) (ahead : AheadIs x at n m) where
  so : (v : ℕ) → v < n → WeighsBy (steps_in x) b m v → WeighsIn x r at v
  so v h (p, (w, e, k)) = let (q, z, y) = ahead.sound w ((steps_inside sized).edge v w h e) k in (behind.sound v p, (q, z, (w, e, y)))

  back : (v : ℕ) → v < n → WeighsIn x r at v → WeighsBy (steps_in x) b m v
  back v h ((s, k, y), (q, z, (w, e, p))) = (behind.complete s v (marked_lt r s k.0) k y, (w, e, ahead.complete w q ((steps_inside sized).edge v w h e) z p))

  weighs-by : (a c : List ℕ) → BitsTo (WeighsBy (steps_in x) b m) a n c → BitsTo (WeighsIn x r at) a n c
  weighs-by a c = bits_by so back

pub weighed : (x r b m : List ℕ) (at n k l : ℕ) (a c : List ℕ) → k ≡ n → l ≡ n → Sized x n → BehindTo (steps_in x) (Starts x r at) (length r) b → AheadIs x at k m
    → BitsTo (WeighsBy (steps_in x) b m) a l c → BitsTo (WeighsIn x r at) a n c
weighed x r b m at n k l a c ek el sized behind ahead bits = weighs-by x r b m at n sized behind (rw ek at ahead) a c (rw el at bits)

-- Packed numbers hold what was put in, and a place that is put at the end of them is found.
use mathlib.Core.Path.{◌≡◌, ap, ◌∙◌}
use mathlib.Core.List.{List}
use Prim.Native.Nat.{ℕ, suc, ◌/◌, ◌%◌, ◌<◌, ◌^◌}
use native.Mathlib.Omega.{arith}
use native.Mathlib.Decide.{ℕ_discrete}
use lib.Dec.{eqb}
use lib.ListN.{length, get_or, set}
use lib.Seq.{get_or-set_same, get_or-set_other}
use Rattle.routines.specs.Exploring.{Finds}
use Rattle.routines_numbered.specs.Packed.{place_in, node_in, packed, Fits, name_in, map_in}

module _ {p n o i k c : ℕ} (h : Fits p n o i k c) where
  pub place_of : place_in (packed p n o i k c) ≡ p
  place_of = omega arith

  pub next_of : (node_in (packed p n o i k c)).next ≡ n
  unfolding node_in
  next_of = omega arith

  pub other-of : (node_in (packed p n o i k c)).other ≡ o
  unfolding node_in
  other-of = omega arith

  pub into-of : (node_in (packed p n o i k c)).into ≡ i
  unfolding node_in
  into-of = omega arith

  pub kind_of : (node_in (packed p n o i k c)).kind ≡ k
  unfolding node_in
  kind_of = omega arith

  pub cost-of : (node_in (packed p n o i k c)).cost ≡ c
  unfolding node_in
  cost-of = omega arith

  pub address_of_lem : (node_in (packed p n o i k c)).address ≡ p / 2
  unfolding node_in
  address_of_lem = ap (λ (x : ℕ). x / 2) place_of

  pub known_of : (node_in (packed p n o i k c)).known ≡ eqb (p % 2) 1
  unfolding node_in
  known_of = ap (λ (x : ℕ). eqb (x % 2) 1) place_of

  pub word_lt : packed p n o i k c < 2 ^ 64
  word_lt = omega arith

-- a place that the map does not tell is put at the end, with its node left for later
pub finds_in : (x m : List ℕ) (n w : ℕ) → n < length x → w < length m → w < 16384 → get_or m w 0 ≡ 0 → Finds (name_in x) (map_in m) n w (name_in (set x n w)) (map_in (set m w (suc n)))
unfolding name_in map_in
finds_in x m n w h k small e = record {
  unfound = e;
  kept = λ v l. ap place_in (get_or-set_other x n v w 0 (λ z. omega (arith, l, z)));
  named = ap place_in (get_or-set_same x n w 0 h) ∙ omega arith;
  mapped = get_or-set_same m w (suc n) 0 k;
  others = λ u ne. get_or-set_other m w u (suc n) 0 ne;
}

-- a number's node is laid over its place: the names stay
pub lays_in : (x : List ℕ) (v y : ℕ) → v < length x → place_in y ≡ name_in x v → (u : ℕ) → name_in (set x v y) u ≡ name_in x u
unfolding name_in
lays_in x v y h e u = go (ℕ_discrete u v)
  where
    go : Dec (u ≡ v) → place_in (get_or (set x v y) u 0) ≡ place_in (get_or x u 0)
    go (yes i) = rw (i, get_or-set_same x v y 0 h) e
    go (no ne) = ap place_in (get_or-set_other x v u y 0 ne)

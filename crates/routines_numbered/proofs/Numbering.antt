-- The steps of numbering places, on lists.
use mathlib.Core.Path.{◌≡◌, refl, ap, ◌∙◌}
use mathlib.Core.Logic.{◌⊎◌, ⊎_elim}
use mathlib.Core.List.{List}
use Prim.Native.Nat.{ℕ, suc, ◌+◌, ◌-◌, ◌≤◌, ◌<◌}
use native.Mathlib.Omega.{arith}
use lib.ListN.{length, get_or, set}
use lib.Seq.{get_or-set_same, get_or-set_other}
use Rattle.routines.specs.Exploring.{Told, Grows}
use Rattle.routines.proofs.Exploring.{few, room, grows_refl, grows_trans, names-on, finds-grows, finds-told}
use Rattle.routines_numbered.specs.Packed.{name_in, map_in}
use Rattle.routines_numbered.specs.Numbering.{Numbers}
use Rattle.routines_numbered.proofs.Packed.{finds_in}

pub name_lt : (x : List ℕ) (v : ℕ) → name_in x v < 16384
unfolding name_in
name_lt x v = omega arith

-- there are no more numbers than places
pub count_le : (x m : List ℕ) (n : ℕ) → Told (name_in x) (map_in m) n → n ≤ 16384
count_le x m n t = few t (λ v h. name_lt x v)

module _ (x m : List ℕ) (n w : ℕ) (t : Told (name_in x) (map_in m) n) where
  pub number-kept : (get_or m w 0 ≡ 0 → ⊥) → Numbers (λ u. u ≡ w) x m n x m n
  unfolding map_in
  number-kept ne = record { told = t; grows = grows_refl; has = λ u e. rw e (omega (arith, ne)); same = λ v h. refl; rest = λ v h. refl }

  module _ (small : w < 16384) (e : get_or m w 0 ≡ 0) where
    pub room_in : n < 16384
    unfolding map_in
    room_in = room t (λ v h. name_lt x v) small e

    pub number_in : length m ≡ 16384 → length x ≡ 16384 → Numbers (λ u. u ≡ w) x m n (set x n w) (set m w (n + 1)) (n + 1)
    unfolding map_in
    number_in lm lx =
        let s : n + 1 ≡ suc n = omega arith in
        let f = finds_in x m n w (omega (arith, lx, room_in)) (omega (arith, lm, small)) small e in
        rw s
        (record {
          told = finds-told f t;
          grows = finds-grows f;
          has = λ u i. rw (i, get_or-set_same m w (suc n) 0 (omega (arith, lm, small))) (omega arith);
          same = λ v h. get_or-set_other x n v w 0 (λ z. omega (arith, h, z));
          rest = λ v h. get_or-set_other x n v w 0 (λ z. omega (arith, h, z));
        })

-- a place that has a number keeps it
pub stays_told : {name map name' map' : ℕ → ℕ} {n n' : ℕ} → Told name map n → Grows name n name' n' → Told name' map' n' → (w : ℕ) → 0 < map w → 0 < map' w
stays_told {map = map} {map' = map'} t g t' w h =
    let s = names-on g (t.names w h) in
    omega (arith, ap map' s.is, t'.told (map w - 1) s.found)

-- places are numbered, and then others
pub numbers_then : {S W : ℕ → Type 0} {x m x' m' x'' m'' : List ℕ} {n n' n'' : ℕ} → Numbers S x m n x' m' n' → Numbers W x' m' n' x'' m'' n'' → Numbers (λ u. S u ⊎ W u) x m n x'' m'' n''
numbers_then a b =
    record {
      told = b.told;
      grows = grows_trans a.grows b.grows;
      has = λ w. ⊎_elim (λ h. stays_told a.told b.grows b.told w (a.has w h)) (b.has w);
      same = λ v h. b.same v (omega (arith, h, a.grows.more)) ∙ a.same v h;
      rest = λ v h. b.rest v h ∙ a.rest v (omega (arith, h, b.grows.more));
    }

-- no place, and no other than these
pub numbers_none : {x m : List ℕ} {n : ℕ} → Told (name_in x) (map_in m) n → Numbers (λ u. ⊥) x m n x m n
numbers_none t = record { told = t; grows = grows_refl; has = λ u e. absurd e; same = λ v h. refl; rest = λ v h. refl }

pub numbers_of_lem : {S W : ℕ → Type 0} {x m x' m' : List ℕ} {n n' : ℕ} → ((w : ℕ) → W w → S w) → Numbers S x m n x' m' n' → Numbers W x m n x' m' n'
numbers_of_lem i a = record { told = a.told; grows = a.grows; has = λ w h. a.has w (i w h); same = a.same; rest = a.rest }

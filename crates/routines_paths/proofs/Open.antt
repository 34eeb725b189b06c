-- Laws on where the open calls go on, and on what a number does.
use mathlib.Core.Path.{◌≡◌, refl, ap}
use mathlib.Core.Logic.{◌⊎◌, inl, inr}
use mathlib.Core.List.{List, [], ◌∷◌}
use mathlib.Core.Bool.{true, false}
use Prim.Native.Nat.{ℕ, zero, suc, ◌+◌, ◌-◌, ◌≤◌, ◌<◌}
use native.Mathlib.Omega.{arith}
use native.Mathlib.Numerals.{add-one}
use lib.ListN.{length, get_or, set}
use lib.Seq.{get_or-set_same, get_or-set_other}
use mir.Val.{Fits}
use mir.Syntax.{w16}
use Rattle.routines_paths.specs.Open.{open_of, Goes}

pub open_length : (stack : List ℕ) (t : ℕ) → length (open_of stack t) ≡ t
unfolding open_of
open_length stack zero = refl
open_length stack (suc t) = ap suc (open_length stack t)

-- what is stored at or above the top does not change what is open
pub open_set : (stack : List ℕ) (t i x : ℕ) → t ≤ i → open_of (set stack i x) t ≡ open_of stack t
unfolding open_of
open_set stack zero i x h = refl
open_set stack (suc t) i x h =
    let ne : t ≡ i → ⊥ = λ e. omega arith in
    rw (get_or-set_other stack i t x 0 ne, open_set stack t i x (omega arith)) refl

pub open_push : (stack : List ℕ) (t x : ℕ) → t < length stack → open_of (set stack t x) (t + 1) ≡ x ∷ open_of stack t
unfolding open_of
open_push stack t x h = rw (add-one t, get_or-set_same stack t x 0 h, open_set stack t t x (omega arith)) refl

pub open_top : (stack : List ℕ) (t : ℕ) → 0 < t → open_of stack t ≡ get_or stack (t - 1) 0 ∷ open_of stack (t - 1)
unfolding open_of
open_top stack zero h = absurd (omega arith)
open_top stack (suc t) h = let e : suc t - 1 ≡ t = omega arith in rw e refl

pub none_open : (stack : List ℕ) {t : ℕ} → t ≡ 0 → open_of stack t ≡ []
unfolding open_of
none_open stack e = rw e refl

-- what neither goes on nor calls ends a called routine
pub third : {k x t : ℕ} → Goes x t → k ≡ x → (k ≡ 1 → ⊥) → (k ≡ 3 → ⊥) → (x ≡ 2) × (0 < t)
third {k} {x} {t} g e p q = go g.one
  where
    go : (x ≡ 1) ⊎ ((x ≡ 3) ⊎ ((x ≡ 2) × (0 < t))) → (x ≡ 2) × (0 < t)
    go (inl a) = absurd (p (omega arith))
    go (inr (inl a)) = absurd (q (omega arith))
    go (inr (inr a)) = a

pub never : true ≡ false → ⊥
never e = let z : ◌≡◌ {A = ℕ} 0 1 = cc in omega arith

pub fits16 : {x n : ℕ} → x < n → n ≤ 16384 → Fits w16 x
fits16 h l = record { fits = omega arith }

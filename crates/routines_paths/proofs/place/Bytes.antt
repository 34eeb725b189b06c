-- The bytes of the way, written place by place.
use mathlib.Core.Path.{◌≡◌, refl, sym, ap, subst₂, ◌∙◌}
use mathlib.Core.List.{List, [], ◌∷◌, ◌++◌}
use Prim.Native.Nat.{ℕ, zero, suc, ◌+◌, ◌*◌, ◌/◌, ◌%◌, ◌≤◌}
use native.Mathlib.Omega.{arith}
use lib.ListN.{length, get_or, set, drop}
use lib.Seq.{drop-cons}
use Rattle.routines.specs.Answer.{bytes_of}

dbl : ℕ → ℕ
dbl zero = 0
dbl (suc n) = suc (suc (dbl n))

dbl_is : (n : ℕ) → dbl n ≡ 2 * n
unfolding dbl
dbl_is zero = refl
dbl_is (suc n) = omega (arith, dbl_is n)

drop_two : (p : List ℕ) (at : ℕ) → at + 2 ≤ length p → drop at p ≡ get_or p at 0 ∷ get_or p (suc at) 0 ∷ drop (at + 2) p
drop_two p at l =
    let e : at + 2 ≡ suc (suc at) = omega arith in
    drop-cons p at 0 (omega arith) ∙ rw e (ap (λ (t : List ℕ). get_or p at 0 ∷ t) (drop-cons p (suc at) 0 (omega arith)))

module _ (address : ℕ → ℕ) where
  put-at : (pre t : List ℕ) (x y lo hi : ℕ) → set (set (bytes_of address pre ++ x ∷ y ∷ t) (dbl (length pre)) lo) (suc (dbl (length pre))) hi ≡ bytes_of address pre ++ lo ∷ hi ∷ t
  unfolding bytes_of dbl
  put-at [] t x y lo hi = refl
  put-at (v ∷ pre) t x y lo hi = ap (λ (l : List ℕ). (address v % 256) ∷ (address v / 256 % 256) ∷ l) (put-at pre t x y lo hi)

  bytes-snoc : (pre t : List ℕ) (w : ℕ) → bytes_of address (pre ++ (w ∷ [])) ++ t ≡ bytes_of address pre ++ (address w % 256) ∷ (address w / 256 % 256) ∷ t
  unfolding bytes_of
  bytes-snoc [] t w = refl
  bytes-snoc (v ∷ pre) t w = ap (λ (l : List ℕ). (address v % 256) ∷ (address v / 256 % 256) ∷ l) (bytes-snoc pre t w)

  -- p'' is p' with the address of w at at
  abbrev pub Put : List ℕ → ℕ → ℕ → List ℕ → Type 0
  Put p' at w p'' = p'' ≡ set (set p' at (address w % 256)) (at + 1) (address w / 256 % 256)

  pub put-more : (p : List ℕ) {p' p'' : List ℕ} (pre : List ℕ) (at w : ℕ) → p' ≡ bytes_of address pre ++ drop at p → at ≡ 2 * length pre → at + 2 ≤ length p → Put p' at w p''
      → p'' ≡ bytes_of address (pre ++ (w ∷ [])) ++ drop (at + 2) p
  put-more p {p'} pre at w b e l q =
      let lo = address w % 256 in
      let hi = address w / 256 % 256 in
      let i : at ≡ dbl (length pre) = e ∙ sym (dbl_is (length pre)) in
      let j : at + 1 ≡ suc (dbl (length pre)) = omega arith in
      let old : List ℕ = bytes_of address pre ++ get_or p at 0 ∷ get_or p (suc at) 0 ∷ drop (at + 2) p in
      let new : List ℕ = bytes_of address pre ++ lo ∷ hi ∷ drop (at + 2) p in
      let a : set (set old at lo) (at + 1) hi ≡ new
      = subst₂ (λ (x y : ℕ). set (set old x lo) y hi ≡ new) (sym i) (sym j) (put-at pre (drop (at + 2) p) (get_or p at 0) (get_or p (suc at) 0) lo hi) in
      q ∙ rw (b, drop_two p at l) a ∙ sym (bytes-snoc pre (drop (at + 2) p) w)

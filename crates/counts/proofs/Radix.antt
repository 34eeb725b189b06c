-- Laws of the numbers in mixed radix: each numbers' own, below the size; and where a step leads.
use mathlib.Core.Path.{◌≡◌, refl, sym, ap, ap₂, ◌∙◌}
use mathlib.Core.Bool.{Bool, true, false}
use mathlib.Core.List.{List, [], ◌∷◌}
use Prim.Native.Nat.{ℕ, suc, ◌+◌, ◌*◌, ◌/◌, ◌%◌, ◌≤◌, ◌<◌}
use native.Mathlib.Omega.{arith}
use native.Mathlib.Nat.{add-mul-div_left, add-mul-mod_self_left, mod-eq_of_lt, div-eq_of_lt, mul-le-mul_left, mul-add, mul-one}
use native.Mathlib.Decide.{ℕ_discrete}
use lib.Dec.{ltb}
use borrow.Author.Tests.{ltb-true, lt-ltb, eq-eqb, ne_eqb}
use Rattle.laws.specs.Choice.{pick, both}
use Rattle.laws.proofs.Computed.{true→T}
use Rattle.counts.specs.Counts.{Count, Member, first, later, Numbers, used, Fits}
use Rattle.counts.specs.Weights.{Product}
use Rattle.counts.specs.Radix.{weighs_first, size, digits, first_of, rest_of, stepped, fits_in, moved, Masks}

-- no number is over its count
pub record Ranged (C : List Count) (u : Numbers) : Type 0 where
  pub at : (c : Count) → Member c C → u c.at ≤ c.most

digit : (n k r : ℕ) → n ≤ k → (n + suc k * r) % suc k ≡ n
digit n k r h = add-mul-mod_self_left n (suc k) r ∙ mod-eq_of_lt (omega (arith, h))

above : (n k r : ℕ) → n ≤ k → (n + suc k * r) / suc k ≡ r
above n k r h = let e : n / suc k ≡ 0 = div-eq_of_lt (omega (arith, h)) in let d = add-mul-div_left n r {y = suc k} (omega arith) in omega (arith, e, d)

-- below a product
below : (n k r s : ℕ) → n ≤ k → r < s → n + suc k * r < suc k * s
below n k r s h l =
    let a : suc k * (r + 1) ≤ suc k * s = mul-le-mul_left (suc k) (omega (arith, l)) in
    let b = mul-add (suc k) r 1 in
    let c = mul-one (suc k) in
    omega (arith, a, b, c, h)

ranged_rest : {c : Count} {C : List Count} {u : Numbers} → Ranged (c ∷ C) u → Ranged C u
ranged_rest h = record { at = λ d m. h.at d (later m) }

pub digits_lt : (C : List Count) (mask : ℕ) (u : Numbers) → Ranged C u → digits C mask u < size C mask
unfolding digits size
digits_lt [] mask u h = omega arith
digits_lt (c ∷ C) mask u h = go (weighs_first mask) (digits_lt C (mask / 2) u (ranged_rest h))
  where
    go : (b : Bool) → digits C (mask / 2) u < size C (mask / 2)
        → pick b (u c.at + suc c.most * digits C (mask / 2) u) (digits C (mask / 2) u) < pick b (suc c.most * size C (mask / 2)) (size C (mask / 2))
    go true l = below (u c.at) c.most (digits C (mask / 2) u) (size C (mask / 2)) (h.at c first) l
    go false l = l

pub size_pos : (C : List Count) (mask : ℕ) → 0 < size C mask
size_pos C mask = omega (arith, digits_lt C mask (λ a. 0) (record { at = λ c m. omega arith }))

-- the size is the product of k + 1 over the counts that weigh
pub product_size : {W : Count → Type 0} {C : List Count} {mask : ℕ} → Masks W C mask → Product W C (size C mask)
unfolding size
product_size Masks.none = Product.none
product_size (Masks.set e w m) = rw e (Product.weighs w (product_size m))
product_size (Masks.clear e w m) = rw e (Product.weighs_not w (product_size m))

-- equal digits are of equal numbers, as far as they weigh
pub digits_one : {W : Count → Type 0} {C : List Count} {mask : ℕ} {u t : Numbers} → Masks W C mask → Ranged C u → Ranged C t → digits C mask u ≡ digits C mask t → (c : Count) → Member c C → W c → u c.at ≡ t c.at
unfolding digits
digits_one Masks.none hu ht same d i x = elim i [ ]
digits_one {u = u} {t = t} (Masks.set {c = c} {C = C} {mask = mask} e w m) hu ht same d first x =
    let k = c.most in
    let z : u c.at + suc k * digits C (mask / 2) u ≡ t c.at + suc k * digits C (mask / 2) t = rw e at same in
    sym (digit (u c.at) k (digits C (mask / 2) u) (hu.at c first)) ∙ ap (λ (y : ℕ). y % suc k) z ∙ digit (t c.at) k (digits C (mask / 2) t) (ht.at c first)
digits_one {u = u} {t = t} (Masks.set {c = c} {C = C} {mask = mask} e w m) hu ht same d (later i) x =
    let k = c.most in
    let z : u c.at + suc k * digits C (mask / 2) u ≡ t c.at + suc k * digits C (mask / 2) t = rw e at same in
    let rest = sym (above (u c.at) k (digits C (mask / 2) u) (hu.at c first)) ∙ ap (λ (y : ℕ). y / suc k) z ∙ above (t c.at) k (digits C (mask / 2) t) (ht.at c first) in
    digits_one m (ranged_rest hu) (ranged_rest ht) rest d i x
digits_one (Masks.clear e w m) hu ht same d first x = absurd (w x)
digits_one (Masks.clear e w m) hu ht same d (later i) x = digits_one m (ranged_rest hu) (ranged_rest ht) (rw e at same) d i x

-- a number that is wanted where a step leads, by the mask there or since the step goes to its address, weighs before it or is 0
pub data Wanted (u : Numbers) (a : ℕ) : List Count → ℕ → ℕ → Type 0 where
  none : {mask there : ℕ} → Wanted u a [] mask there
  weighs : {c : Count} {C : List Count} {mask there : ℕ} → weighs_first mask ≡ true → Wanted u a C (mask / 2) (there / 2) → Wanted u a (c ∷ C) mask there
  zero_there : {c : Count} {C : List Count} {mask there : ℕ} → weighs_first mask ≡ false → u c.at ≡ 0 → Wanted u a C (mask / 2) (there / 2) → Wanted u a (c ∷ C) mask there
  unwanted : {c : Count} {C : List Count} {mask there : ℕ} → weighs_first mask ≡ false → weighs_first there ≡ false → (c.at ≡ a → ⊥) → Wanted u a C (mask / 2) (there / 2) → Wanted u a (c ∷ C) mask there

-- the first count's number and the others', of digits
first_digit : (c : Count) (C : List Count) (mask : ℕ) (u : Numbers) → u c.at ≤ c.most → weighs_first mask ≡ true → first_of c mask (digits (c ∷ C) mask u) ≡ u c.at
unfolding digits
first_digit c C mask u h e = rw e (digit (u c.at) c.most (digits C (mask / 2) u) h)

rest_digits : (c : Count) (C : List Count) (mask : ℕ) (u : Numbers) → u c.at ≤ c.most → rest_of c mask (digits (c ∷ C) mask u) ≡ digits C (mask / 2) u
unfolding digits
rest_digits c C mask u h = go (weighs_first mask)
  where
    go : (b : Bool) → pick b (pick b (u c.at + suc c.most * digits C (mask / 2) u) (digits C (mask / 2) u) / suc c.most) (pick b (u c.at + suc c.most * digits C (mask / 2) u) (digits C (mask / 2) u)) ≡ digits C (mask / 2) u
    go true = above (u c.at) c.most (digits C (mask / 2) u) h
    go false = refl

-- the number of a count after a step to w
used_is : (address : ℕ → ℕ) (u : Numbers) (w : ℕ) (c : Count) → used address u w c.at ≡ stepped c (address w) (u c.at)
unfolding used
used_is address u w c = refl

combine : (b : Bool) (k x x' y y' : ℕ) → (b ≡ true → x ≡ x') → y ≡ y' → pick b (x + k * y) y ≡ pick b (x' + k * y') y'
combine true k x x' y y' e f = ap₂ (λ (a b : ℕ). a + k * b) (e refl) f
combine false k x x' y y' e f = f

first_none : (c : Count) (mask d : ℕ) → weighs_first mask ≡ false → first_of c mask d ≡ 0
first_none c mask d e = rw e refl

-- where the first count's number after the step is right, as far as it is asked, and so are the others'
module _ (address : ℕ → ℕ) (w : ℕ) (c : Count) (C : List Count) (mask there : ℕ) (u : Numbers) (h : u c.at ≤ c.most) where
  moved-first : (weighs_first there ≡ true → first_of c mask (digits (c ∷ C) mask u) ≡ u c.at) → moved C (mask / 2) (there / 2) (address w) (digits C (mask / 2) u) ≡ digits C (there / 2) (used address u w)
      → moved (c ∷ C) mask there (address w) (digits (c ∷ C) mask u) ≡ digits (c ∷ C) there (used address u w)
  moved-first e ih =
      let d = digits (c ∷ C) mask u in
      let r : rest_of c mask d ≡ digits C (mask / 2) u = rest_digits c C mask u h in
      let step : moved (c ∷ C) mask there (address w) d ≡ pick (weighs_first there) (stepped c (address w) (first_of c mask d) + suc c.most * moved C (mask / 2) (there / 2) (address w) (rest_of c mask d)) (moved C (mask / 2) (there / 2) (address w) (rest_of c mask d)) = unfold moved in refl in
      let goal : digits (c ∷ C) there (used address u w) ≡ pick (weighs_first there) (used address u w c.at + suc c.most * digits C (there / 2) (used address u w)) (digits C (there / 2) (used address u w)) = unfold digits in refl in
      step ∙ combine (weighs_first there) (suc c.most) (stepped c (address w) (first_of c mask d)) (used address u w c.at) (moved C (mask / 2) (there / 2) (address w) (rest_of c mask d)) (digits C (there / 2) (used address u w))
      (λ t. ap (stepped c (address w)) (e t) ∙ sym (used_is address u w c)) (ap (moved C (mask / 2) (there / 2) (address w)) r ∙ ih) ∙ sym goal

pub moved_is : (address : ℕ → ℕ) (w : ℕ) {u : Numbers} {C : List Count} {mask there : ℕ} → Ranged C u → Wanted u (address w) C mask there
    → moved C mask there (address w) (digits C mask u) ≡ digits C there (used address u w)
moved_is address w h Wanted.none = unfold moved digits in refl
moved_is address w {u = u} h (Wanted.weighs {c = c} {C = C} {mask = mask} {there = there} e rest) =
    moved-first address w c C mask there u (h.at c first) (λ t. first_digit c C mask u (h.at c first) e) (moved_is address w (ranged_rest h) rest)
moved_is address w {u = u} h (Wanted.zero_there {c = c} {C = C} {mask = mask} {there = there} e z rest) =
    moved-first address w c C mask there u (h.at c first) (λ t. first_none c mask (digits (c ∷ C) mask u) e ∙ sym z) (moved_is address w (ranged_rest h) rest)
moved_is address w {u = u} h (Wanted.unwanted {c = c} {C = C} {mask = mask} {there = there} e e' ne rest) =
    moved-first address w c C mask there u (h.at c first) (λ t. absurd (true→T (sym e' ∙ t))) (moved_is address w (ranged_rest h) rest)

-- the first count's number, by the digits, is right where the step goes to its address; it fits; and the others
pub record Head (c : Count) (C : List Count) (mask there a : ℕ) (u : Numbers) : Type 0 where
  pub is : c.at ≡ a → first_of c mask (digits (c ∷ C) mask u) ≡ u c.at
  pub le : first_of c mask (digits (c ∷ C) mask u) ≤ c.most
  pub others : Wanted u a C (mask / 2) (there / 2)

head_of : {c : Count} {C : List Count} {mask there a : ℕ} {u : Numbers} → Ranged (c ∷ C) u → Wanted u a (c ∷ C) mask there → Head c C mask there a u
head_of {c} {C} {mask} {u = u} h (Wanted.weighs e rest) =
    let x = first_digit c C mask u (h.at c first) e in
    record { is = λ i. x; le = omega (arith, x, h.at c first); others = rest }
head_of {c} {C} {mask} {u = u} h (Wanted.zero_there e z rest) =
    let x = first_none c mask (digits (c ∷ C) mask u) e in
    record { is = λ i. x ∙ sym z; le = omega (arith, x); others = rest }
head_of {c} {C} {mask} {u = u} h (Wanted.unwanted e e' ne rest) =
    let x = first_none c mask (digits (c ∷ C) mask u) e in
    record { is = λ i. absurd (ne i); le = omega (arith, x); others = rest }

step_le : (c : Count) (a n : ℕ) → n ≤ c.most → (c.at ≡ a → n < c.most) → stepped c a n < suc c.most
step_le c a n h f = go (ℕ_discrete c.at a)
  where
    go : Dec (c.at ≡ a) → stepped c a n < suc c.most
    go (yes e) = rw (eq-eqb c.at a e) (omega (arith, f e))
    go (no e) = rw (ne_eqb c.at a e) (omega (arith, h))

step_lt : (c : Count) (a n : ℕ) → stepped c a n < suc c.most → c.at ≡ a → n < c.most
step_lt c a n h e = let z : suc n < suc c.most = rw (eq-eqb c.at a e) at h in omega (arith, z)

both_first : (a b : Bool) → both a b ≡ true → a ≡ true
both_first true b e = refl
both_first false b e = e

both_second : (a b : Bool) → both a b ≡ true → b ≡ true
both_second true b e = e
both_second false b e = absurd (true→T e)

both_true : (a b : Bool) → a ≡ true → b ≡ true → both a b ≡ true
both_true a b e f = rw (e, f) refl

-- the step fits exactly where it does by the digits
module _ (address : ℕ → ℕ) (w : ℕ) where
  -- the first count's test
  test : (c : Count) (C : List Count) (mask : ℕ) (u : Numbers) → Bool
  test c C mask u = ltb (stepped c (address w) (first_of c mask (digits (c ∷ C) mask u))) (suc c.most)

  fits-at : (d : Count) {u : Numbers} {C : List Count} {mask there : ℕ} → Ranged C u → Wanted u (address w) C mask there → fits_in C mask (address w) (digits C mask u) ≡ true → Member d C → d.at ≡ address w → u d.at < d.most
  unfolding fits_in test
  fits-at d {C = []} h wanted e m at = elim m [ ]
  fits-at d {u = u} {C = c ∷ C} {mask = mask} {there = there} h wanted e first at =
      let x = head_of h wanted in
      let n = first_of c mask (digits (c ∷ C) mask u) in
      let t : test c C mask u ≡ true = both_first (test c C mask u) (fits_in C (mask / 2) (address w) (rest_of c mask (digits (c ∷ C) mask u))) e in
      let l : n < c.most = step_lt c (address w) n (ltb-true (stepped c (address w) n) (suc c.most) t) at in
      omega (arith, l, x.is at)
  fits-at d {u = u} {C = c ∷ C} {mask = mask} {there = there} h wanted e (later m) at =
      let x = head_of h wanted in
      let t = both_second (test c C mask u) (fits_in C (mask / 2) (address w) (rest_of c mask (digits (c ∷ C) mask u))) e in
      fits-at d (ranged_rest h) x.others (rw (rest_digits c C mask u (h.at c first)) at t) m at

  pub fits-so : {C : List Count} {mask there : ℕ} {u : Numbers} → Ranged C u → Wanted u (address w) C mask there → fits_in C mask (address w) (digits C mask u) ≡ true → Fits address C u w
  fits-so h wanted e d m at = fits-at d h wanted e m at

  pub fits-back : (C : List Count) {mask there : ℕ} {u : Numbers} → Ranged C u → Wanted u (address w) C mask there → Fits address C u w → fits_in C mask (address w) (digits C mask u) ≡ true
  unfolding fits_in test
  fits-back [] h wanted fits = refl
  fits-back (c ∷ C) {mask = mask} {there = there} {u = u} h wanted fits =
      let x = head_of h wanted in
      let n = first_of c mask (digits (c ∷ C) mask u) in
      let l = step_le c (address w) n x.le (λ e. omega (arith, x.is e, fits c first e)) in
      both_true (test c C mask u) (fits_in C (mask / 2) (address w) (rest_of c mask (digits (c ∷ C) mask u))) (lt-ltb (stepped c (address w) n) (suc c.most) l)
      (rw (rest_digits c C mask u (h.at c first)) (fits-back C (ranged_rest h) x.others (λ d m e. fits d (later m) e)))

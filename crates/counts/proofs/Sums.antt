-- The sum of 28 is one only: it does not depend on the order in which the places are listed.
use mathlib.Core.Path.{◌≡◌, refl, ap}
use mathlib.Core.Logic.{◌⊎◌, inl, inr}
use mathlib.Core.List.{List, ◌∷◌}
use Prim.Native.Nat.{ℕ, suc, ◌+◌, ◌*◌}
use native.Mathlib.Omega.{arith}
use Rattle.counts.specs.Counts.{Count, Member, first, later}
use Rattle.counts.specs.Weights.{Product, Total, Once}
use Rattle.counts.proofs.Empty.{no_member}

pub product_one : {W : Count → Type 0} {C : List Count} {m n : ℕ} → Product W C m → Product W C n → m ≡ n
product_one Product.none Product.none = refl
product_one (Product.weighs {c = c} w p) (Product.weighs w' q) = ap (λ (x : ℕ). suc c.most * x) (product_one p q)
product_one (Product.weighs w p) (Product.weighs_not n q) = absurd (n w)
product_one (Product.weighs_not n p) (Product.weighs w q) = absurd (n w)
product_one (Product.weighs_not n p) (Product.weighs_not n' q) = product_one p q

pub product_to : {W X : Count → Type 0} → ((c : Count) → W c → X c) → ((c : Count) → X c → W c) → {C : List Count} {n : ℕ} → Product W C n → Product X C n
product_to to back Product.none = Product.none
product_to to back (Product.weighs {c = c} w p) = Product.weighs (to c w) (product_to to back p)
product_to to back (Product.weighs_not {c = c} w p) = Product.weighs_not (λ x. w (back c x)) (product_to to back p)

-- what a list has without one of its numbers
pub data Without (v : ℕ) : List ℕ → List ℕ → Type 0 where
  now : {l : List ℕ} → Without v (v ∷ l) l
  then : {x : ℕ} {l m : List ℕ} → Without v l m → Without v (x ∷ l) (x ∷ m)

without : {v : ℕ} {l : List ℕ} → Member v l → (m : List ℕ) × Without v l m
without (first {l = l}) = (l, Without.now)
without (later {y = y} i) = let x = without i in (y ∷ x.0, Without.then x.1)

without_member : {v x : ℕ} {l m : List ℕ} → Without v l m → Member x m → Member x l
without_member Without.now i = later i
without_member (Without.then w) first = first
without_member (Without.then w) (later i) = later (without_member w i)

member_without : {v x : ℕ} {l m : List ℕ} → Without v l m → Member x l → (x ≡ v) ⊎ Member x m
member_without Without.now first = inl refl
member_without Without.now (later i) = inr i
member_without (Without.then w) first = inr first
member_without {v} {x} (Without.then {x = y} {m = m} w) (later i) = go (member_without w i)
  where
    go : (x ≡ v) ⊎ Member x m → (x ≡ v) ⊎ Member x (y ∷ m)
    go (inl e) = inl e
    go (inr j) = inr (later j)

without_member_of : {v : ℕ} {l m : List ℕ} → Without v l m → Member v l
without_member_of Without.now = first
without_member_of (Without.then w) = later (without_member_of w)

not_first : {v x : ℕ} {l : List ℕ} → Member v (x ∷ l) → (v ≡ x → ⊥) → (Member v l → ⊥) → ⊥
not_first first a b = a refl
not_first (later i) a b = b i

once_without : {v : ℕ} {l m : List ℕ} → Once l → Without v l m → Once m × (Member v m → ⊥)
once_without Once.none w = elim w [ ]
once_without (Once.adds new o) Without.now = (o, new)
once_without (Once.adds new o) (Without.then w) =
    let y = once_without o w in
    (Once.adds (λ i. new (without_member w i)) y.0, λ i. not_first i (λ e. new (rw e at (without_member_of w))) y.1)

inside : {v y : ℕ} {l m : List ℕ} → (Member v l → ⊥) → Member y l → (y ≡ v) ⊎ Member y m → Member y m
inside new i (inl e) = absurd (new (rw e at i))
inside new i (inr j) = j

outside : {v y : ℕ} {l m : List ℕ} → Member y (v ∷ l) → Member y m → (Member v m → ⊥) → Member y l
outside first j none-there = absurd (none-there j)
outside (later i) j none-there = i

module _ {Has : ℕ → ℕ → Type 0} (one : (v x y : ℕ) → Has v x → Has v y → x ≡ y) where
  total-without : {v n : ℕ} {l m : List ℕ} → Total Has l n → Without v l m → (x : ℕ) × (k : ℕ) × Has v x × Total Has m k × (n ≡ x + k)
  total-without Total.none w = elim w [ ]
  total-without (Total.adds {x = x} {n = n} h t) Without.now = (x, n, h, t, refl)
  total-without (Total.adds {x = y} h t) (Without.then w) =
      let z = total-without t w in
      (z.0, y + z.1, z.2, Total.adds h z.3, omega (arith, z.4))

  -- two lists of the same numbers, each number once
  pub total-one : {l m : List ℕ} {n k : ℕ} → Once l → Once m → ((v : ℕ) → Member v l → Member v m) → ((v : ℕ) → Member v m → Member v l) → Total Has l n → Total Has m k → n ≡ k
  total-one o o' to back Total.none Total.none = refl
  total-one o o' to back Total.none (Total.adds {v = v} h t) = absurd (no_member (back v first))
  total-one {m = m} (Once.adds {l = l} new o) o' to back (Total.adds {v = v} {x = x} h t) t' =
      let w = without (to v first) in
      let z = total-without t' w.1 in
      let q = once_without o' w.1 in
      let rest = total-one o q.0 (λ y i. inside new i (member_without w.1 (to y (later i)))) (λ y i. outside (back y (without_member w.1 i)) i q.1) t z.3 in
      omega (arith, one v x z.0 h z.2, rest, z.4)

pub total_to : {Has Had : ℕ → ℕ → Type 0} {l : List ℕ} {n : ℕ} → ((v x : ℕ) → Member v l → Has v x → Had v x) → Total Has l n → Total Had l n
total_to to Total.none = Total.none
total_to to (Total.adds {v = v} {x = x} h t) = Total.adds (to v x first h) (total_to (λ y z i. to y z (later i)) t)

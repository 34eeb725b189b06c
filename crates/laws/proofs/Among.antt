-- Laws of a list of numbers: what holds at each of them holds at a number among them, and one that is none of the others is the first.
use mathlib.Core.Path.{◌≡◌, refl}
use mathlib.Core.Bool.{true, false}
use mathlib.Core.List.{List, [], ◌∷◌}
use Prim.Native.Nat.{ℕ}
use native.Mathlib.Decide.{ℕ_discrete}
use borrow.Author.Tests.{ne_eqb}
use Rattle.laws.proofs.Computed.{NoKey, true→T}
use Rattle.laws.specs.Among.{among}

infixr 5 ◌by◌&◌
pub data Each (P : ℕ → Type 0) : List ℕ → Type 0 where
  end : Each P []
  ◌by◌&◌ : (r : ℕ) {rs : List ℕ} → P r → Each P rs → Each P (r ∷ rs)

at_one : (P : ℕ → Type 0) (rs : List ℕ) (r n : ℕ) → P r → (among rs n ≡ true → P n) → among (r ∷ rs) n ≡ true → Dec (n ≡ r) → P n
at_one P rs r n p q h (yes e) = rw e p
at_one P rs r n p q h (no ne) = q (rw (ne_eqb n r ne) at h)

pub at_each : (P : ℕ → Type 0) (rs : List ℕ) → Each P rs → (n : ℕ) → among rs n ≡ true → P n
at_each P [] end n h = absurd (true→T h)
at_each P (_ ∷ rs) (r by p & t) n h = at_one P rs r n p (λ g. at_each P rs t n g) h (ℕ_discrete n r)

none : (rs : List ℕ) (n : ℕ) → NoKey n rs → among rs n ≡ false
none [] n k = refl
none (r ∷ rs) n k = rw (ne_eqb n r k.1) (none rs n k.0)

abbrev pub first_of : List ℕ → ℕ
first_of [] = 0
first_of (r ∷ rs) = r

abbrev pub others_of : List ℕ → List ℕ
others_of [] = []
others_of (r ∷ rs) = rs

pub first : (rs : List ℕ) (n : ℕ) → among rs n ≡ true → NoKey n (others_of rs) → n ≡ first_of rs
first [] n h k = absurd (true→T h)
first (r ∷ rs) n h k = at_one (λ (n : ℕ). n ≡ r) rs r n refl (λ g. absurd (true→T (rw (none rs n k) at g))) h (ℕ_discrete n r)

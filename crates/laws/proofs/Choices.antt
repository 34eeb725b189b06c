-- What holds of both sides of a choice holds of the one picked; and which of two tests passed.
use mathlib.Core.Path.{◌≡◌, refl, subst}
use mathlib.Core.Bool.{Bool, true, false, not}
use lib.Dec.{T}
use Rattle.laws.specs.Choice.{pick, both, either}

pub picked : {A : Type 0} (P : A → Type 0) (t : Bool) (x y : A) → P x → P y → P (pick t x y)
picked P true x y h k = h
picked P false x y h k = k

-- the first side only has to hold where the test passed
pub picked_by : {A : Type 0} (P : A → Type 0) (t : Bool) (x y : A) → (T t → P x) → P y → P (pick t x y)
picked_by P true x y h k = h tt
picked_by P false x y h k = k

pub both_false : (t : Bool) → both t false ≡ false
both_false true = refl
both_false false = refl

pub either_none : (a : Bool) → a ≡ either a false
either_none true = refl
either_none false = refl

pub refuted : (a : Bool) → T (not a) → T a → ⊥
refuted true h t = h
refuted false h t = t

pub either_left : (a b : Bool) → T a → T (either a b)
either_left true b t = tt
either_left false b t = absurd t

pub either_right : (a b : Bool) → T b → T (either a b)
either_right true b t = tt
either_right false b t = t

pub not_left : (a b : Bool) → T (not (either a b)) → T a → ⊥
not_left true b h t = h
not_left false b h t = t

pub not_right : (a b : Bool) → T (not (either a b)) → T b → ⊥
not_right true b h t = h
not_right false true h t = h
not_right false false h t = t

pub neither_left : (a b : Bool) → either a b ≡ false → a ≡ false
neither_left true b e = absurd (subst T e tt)
neither_left false b e = refl

pub neither_right : (a b : Bool) → either a b ≡ false → b ≡ false
neither_right true b e = absurd (subst T e tt)
neither_right false b e = e

-- The numbers of the counts that weigh at a place as one number, in mixed radix; which weigh is a mask, a bit for each count. What code that unrolls a flow goes by; no answer's meaning rests on it.
use Rattle.std.specs.Prelude.{◌≡◌, Bool, true, false, List, [], ◌∷◌, ℕ, suc, ◌+◌, ◌*◌, ◌/◌, ◌%◌, eqb, ltb}
use Rattle.laws.specs.Choice.{pick, both}
use Rattle.counts.specs.Counts.{Count, Numbers}

-- the bit of the first count is set
abbrev pub weighs_first : ℕ → Bool
weighs_first mask = eqb (mask % 2) 1

-- how many numbers there are, and the one of these
unfoldable pub size : List Count → ℕ → ℕ
size [] mask = 1
size (c ∷ C) mask = pick (weighs_first mask) (suc c.most * size C (mask / 2)) (size C (mask / 2))

unfoldable pub digits : List Count → ℕ → Numbers → ℕ
digits [] mask u = 0
digits (c ∷ C) mask u = pick (weighs_first mask) (u c.at + suc c.most * digits C (mask / 2) u) (digits C (mask / 2) u)

-- of a number d: what the first count has, and the rest; one that does not weigh has 0
abbrev pub first_of : Count → ℕ → ℕ → ℕ
first_of c mask d = pick (weighs_first mask) (d % suc c.most) 0

abbrev pub rest_of : Count → ℕ → ℕ → ℕ
rest_of c mask d = pick (weighs_first mask) (d / suc c.most) d

-- what it has after a step to the address a
abbrev pub stepped : Count → ℕ → ℕ → ℕ
stepped c a n = pick (eqb c.at a) (suc n) n

-- whether the step to a fits, and the number then, by the mask there
unfoldable pub fits_in : List Count → ℕ → ℕ → ℕ → Bool
fits_in [] mask a d = true
fits_in (c ∷ C) mask a d = both (ltb (stepped c a (first_of c mask d)) (suc c.most)) (fits_in C (mask / 2) a (rest_of c mask d))

unfoldable pub moved : List Count → ℕ → ℕ → ℕ → ℕ → ℕ
moved [] mask there a d = 0
moved (c ∷ C) mask there a d =
    pick (weighs_first there) (stepped c a (first_of c mask d) + suc c.most * moved C (mask / 2) (there / 2) a (rest_of c mask d)) (moved C (mask / 2) (there / 2) a (rest_of c mask d))

-- the mask tells which counts have W
pub data Masks (W : Count → Type 0) : List Count → ℕ → Type 0 where
  none : {mask : ℕ} → Masks W [] mask
  set : {c : Count} {C : List Count} {mask : ℕ} → weighs_first mask ≡ true → W c → Masks W C (mask / 2) → Masks W (c ∷ C) mask
  clear : {c : Count} {C : List Count} {mask : ℕ} → weighs_first mask ≡ false → (W c → ⊥) → Masks W C (mask / 2) → Masks W (c ∷ C) mask

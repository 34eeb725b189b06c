-- What holds of the row that a code has: an induction over the table.
use mathlib.Core.Path.{◌≡◌, refl, sym, subst, ◌∙◌}
use mathlib.Core.Bool.{Bool, true, false}
use mathlib.Core.List.{List, [], ◌∷◌}
use mathlib.Core.Logic.{◌⊎◌, inl, inr}
use Prim.Native.Nat.{ℕ, suc, ◌+◌, ◌<◌}
use native.Mathlib.Nat.{add-zero, add-suc, suc-add, not-suc-le-zero}
use native.Mathlib.Omega.{arith}
use lib.Dec.{T, ltb, ltb→lt}
use Rattle.laws.specs.Choice.{pick}
use Rattle.sheet.specs.Code.{fits, fixed_bits}
use Rattle.sheet.specs.Table.{Code, Line, lines, line_at, line_in}
use Rattle.sheet.specs.Reading.{bits_fixed_if_fits, Winner, winner}

-- the line l is the one at j of ls, counted from 0
pub data At : List Line → ℕ → Line → Type 0 where
  here : {l : Line} {ls : List Line} → At (l ∷ ls) 0 l
  there : {l m : Line} {ls : List Line} {j : ℕ} → At ls j l → At (m ∷ ls) (suc j) l

pub line_in_lem : {ls : List Line} {j : ℕ} {l : Line} → At ls j l → line_in ls (suc j) ≡ l
line_in_lem here = refl
line_in_lem (there p) = line_in_lem p

pub line_at_lem : {j : ℕ} {l : Line} → At lines j l → line_at (suc j) ≡ l
unfolding line_at
line_at_lem p = line_in_lem p

-- the digits begin with one of the codes
abbrev pub Fitting : List Code → List ℕ → Type 0
Fitting [] ds = ⊥
Fitting (c ∷ cs) ds = T (fits c.groups ds) ⊎ Fitting cs ds

claimed_by : (t : Bool) (n m : ℕ) {A : Type 0} → (T t → A) → (0 < m → A) → 0 < pick t n m → A
claimed_by true n m f g h = f tt
claimed_by false n m f g h = g h

pub claimed : (cs : List Code) (ds : List ℕ) → 0 < bits_fixed_if_fits cs ds → Fitting cs ds
claimed [] ds h = absurd (not-suc-le-zero h)
claimed (c ∷ cs) ds h =
    claimed_by (fits c.groups ds) (fixed_bits c.groups) (bits_fixed_if_fits cs ds) (λ t. inl t) (λ g. inr (claimed cs ds g)) h

chosen : (P : ℕ → Type 0) (t : Bool) (w v : Winner) → (T t → P w.row) → P v.row → P (pick t w v).row
chosen P true w v p q = p tt
chosen P false w v p q = q

-- what holds of 0, and of the number of each line that the digits fit, holds of the number of the row
pub winner_is : (P : ℕ → Type 0) (ds : List ℕ) (ls : List Line) (n : ℕ) → P 0 → ((j : ℕ) (l : Line) → At ls j l → Fitting l.codes ds → P (n + j)) → P (winner ls n ds).row
winner_is P ds [] n p q = p
winner_is P ds (l ∷ ls) n p q =
    chosen P (ltb (winner ls (suc n) ds).bits (bits_fixed_if_fits l.codes ds)) (record { row = n; bits = bits_fixed_if_fits l.codes ds }) (winner ls (suc n) ds)
    (λ t. subst P (add-zero n) (q 0 l here (claimed l.codes ds (let h : (winner ls (suc n) ds).bits < bits_fixed_if_fits l.codes ds = ltb→lt _ _ t in omega arith))))
    (winner_is P ds ls (suc n) p (λ j m a f. subst P (add-suc n j ∙ sym (suc-add n j)) (q (suc j) m (there a) f)))

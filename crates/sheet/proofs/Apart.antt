-- No two rows that fit one code fix equally many bits: one test over all pairs of object codes, carried to each code that both fit.
use mathlib.Core.Path.{◌≡◌, refl, sym, ap, ◌∙◌}
use mathlib.Core.Bool.{Bool, true, false, not}
use mathlib.Core.List.{List, [], ◌∷◌}
use Prim.Native.Nat.{ℕ, suc, ◌<◌}
use native.Mathlib.Nat.{not-suc-le-zero}
use lib.Dec.{T, T_not, eqb, ltb, ltb→lt}
use borrow.Author.Tests.{eq-eqb}
use Rattle.laws.specs.Choice.{pick, both, either}
use Rattle.laws.proofs.Computed.{implies, modus, both_left, both_right, true→T}
use Rattle.sheet.specs.Code.{fits, fixed_bits}
use Rattle.sheet.specs.Table.{Code, Line, lines}
use Rattle.sheet.specs.Reading.{bits_fixed_if_fits}
use Rattle.sheet.specs.Wins.{fits_one}
use Rattle.sheet.proofs.Winning.{At, here, there}
use Rattle.sheet.proofs.WellFormed.{every}
use Rattle.sheet.proofs.Meeting.{meet, meets}

-- one of the codes, the first that the digits begin with
record Found (cs : List Code) (ds : List ℕ) : Type 0 where
  code : Code
  member : (f : Code → Bool) → T (every f cs) → T (f code)
  fitting : T (fits code.groups ds)
  bits : bits_fixed_if_fits cs ds ≡ fixed_bits code.groups

found_by : (c : Code) (cs : List Code) (ds : List ℕ) (b : Bool) → fits c.groups ds ≡ b → (T (fits_one cs ds) → Found cs ds) → T (either b (fits_one cs ds)) → Found (c ∷ cs) ds
found_by c cs ds true e ih t = record { code = c; member = λ f a. both_left (f c) (every f cs) a; fitting = true→T e; bits = rw e }
found_by c cs ds false e ih t =
    let q = ih t in
    record { code = q.code; member = λ f a. q.member f (both_right (f c) (every f cs) a); fitting = q.fitting; bits = rw e q.bits }

found : (cs : List Code) (ds : List ℕ) → T (fits_one cs ds) → Found cs ds
found [] ds t = absurd t
found (c ∷ cs) ds t = found_by c cs ds (fits c.groups ds) refl (found cs ds) t

-- each code of a row fixes some bit, so that a row that fits fixes one
abbrev fixes_some : Code → Bool
fixes_some c = ltb 0 (fixed_bits c.groups)

pub fixes : (cs : List Code) (ds : List ℕ) → T (every fixes_some cs) → T (fits_one cs ds) → 0 < bits_fixed_if_fits cs ds
fixes cs ds a t = let q = found cs ds t in rw q.bits (ltb→lt 0 (fixed_bits q.code.groups) (q.member fixes_some a))

claims_by : (b : Bool) (n m : ℕ) (t : Bool) → (0 < m → T t) → 0 < pick b n m → T (either b t)
claims_by true n m t f h = tt
claims_by false n m t f h = f h

pub claims : (cs : List Code) (ds : List ℕ) → 0 < bits_fixed_if_fits cs ds → T (fits_one cs ds)
claims [] ds h = absurd (not-suc-le-zero h)
claims (c ∷ cs) ds h = claims_by (fits c.groups ds) (fixed_bits c.groups) (bits_fixed_if_fits cs ds) (fits_one cs ds) (claims cs ds) h

-- two codes that some digits begin with fix different numbers of bits
abbrev differ : Code → Code → Bool
differ c e = implies (meet c.groups e.groups) (not (eqb (fixed_bits c.groups) (fixed_bits e.groups)))

abbrev rows_differ : Line → Line → Bool
rows_differ l m = every (λ c. every (differ c) m.codes) l.codes

rows_differ_lem : (l m : Line) (ds : List ℕ) → T (rows_differ l m) → T (fits_one l.codes ds) → T (fits_one m.codes ds) → bits_fixed_if_fits l.codes ds ≡ bits_fixed_if_fits m.codes ds → ⊥
rows_differ_lem l m ds a s t e =
    let p = found l.codes ds s in
    let q = found m.codes ds t in
    let differs : T (differ p.code q.code) = q.member (differ p.code) (p.member (λ c. every (differ c) m.codes) a) in
    let bits-p = fixed_bits p.code.groups in
    let bits-q = fixed_bits q.code.groups in
    T_not (eqb bits-p bits-q) (modus (meet p.code.groups q.code.groups) (not (eqb bits-p bits-q)) differs (meets p.code.groups q.code.groups ds p.fitting q.fitting))
    (true→T (eq-eqb bits-p bits-q (sym p.bits ∙ (e ∙ q.bits))))

-- the test of the table: each row fixes some bit, and differs from each after it
abbrev pub apart : List Line → Bool
apart [] = true
apart (l ∷ ls) = both (every fixes_some l.codes) (both (every (rows_differ l) ls) (apart ls))

every_at : (f : Line → Bool) {ls : List Line} {j : ℕ} {l : Line} → At ls j l → T (every f ls) → T (f l)
every_at f {l = l} (here {ls = ls}) t = both_left (f l) (every f ls) t
every_at f (there {m = m} {ls = ls} p) t = every_at f p (both_right (f m) (every f ls) t)

module _ (l : Line) (ls : List Line) (a : T (apart (l ∷ ls))) where
  first-fixes : T (every fixes_some l.codes)
  first-fixes = both_left (every fixes_some l.codes) (both (every (rows_differ l) ls) (apart ls)) a

  first-differs : T (every (rows_differ l) ls)
  first-differs = both_left (every (rows_differ l) ls) (apart ls) (both_right (every fixes_some l.codes) (both (every (rows_differ l) ls) (apart ls)) a)

  pub rest-apart : T (apart ls)
  rest-apart = both_right (every (rows_differ l) ls) (apart ls) (both_right (every fixes_some l.codes) (both (every (rows_differ l) ls) (apart ls)) a)

pub fixes_at : (ds : List ℕ) {ls : List Line} {j : ℕ} {l : Line} → T (apart ls) → At ls j l → T (fits_one l.codes ds) → 0 < bits_fixed_if_fits l.codes ds
fixes_at ds {l = l} a (here {ls = ls}) t = fixes l.codes ds (first-fixes l ls a) t
fixes_at ds a (there {m = m} {ls = ls} p) t = fixes_at ds (rest-apart m ls a) p t

pub no_tie_at : (ds : List ℕ) {ls : List Line} {i j : ℕ} {l m : Line} → T (apart ls) → At ls i l → At ls j m → (i ≡ j → ⊥) → T (fits_one l.codes ds) → T (fits_one m.codes ds) → bits_fixed_if_fits l.codes ds ≡ bits_fixed_if_fits m.codes ds → ⊥
no_tie_at ds a here here ne s t e = ne refl
no_tie_at ds {l = l} {m = m} a (here {ls = ls}) (there q) ne s t e = rows_differ_lem l m ds (every_at (rows_differ l) q (first-differs l ls a)) s t e
no_tie_at ds {l = l} {m = m} a (there {ls = ls} p) here ne s t e = rows_differ_lem m l ds (every_at (rows_differ m) p (first-differs m ls a)) t s (sym e)
no_tie_at ds a (there {m = first} {ls = ls} p) (there q) ne s t e = no_tie_at ds (rest-apart first ls a) p q (λ k. ne (ap suc k)) s t e

-- the one test over all pairs of rows
pub all_apart : T (apart lines)
unfolding lines
all_apart = tt

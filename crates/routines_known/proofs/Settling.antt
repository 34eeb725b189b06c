-- Marking a number that loses SF by the marks keeps them right, whatever the order.
use mathlib.Core.Path.{◌≡◌, refl, sym, ◌∙◌}
use mathlib.Core.Bool.{Bool, true, false, not}
use mathlib.Core.Logic.{◌⊎◌, inl, inr}
use mathlib.Core.List.{List}
use Prim.Native.Nat.{ℕ, ◌%◌, ◌<◌}
use native.Mathlib.Omega.{arith}
use native.Mathlib.Decide.{ℕ_discrete}
use lib.Dec.{eqb}
use lib.ListN.{length, get_or, set}
use borrow.Author.Tests.{eq-eqb, ne_eqb}
use Rattle.graph_search.specs.Marks.{Blank}
use Rattle.routines_joined.specs.Ranks.{Tells}
use Rattle.routines_joined.proofs.Back.{tells_so, tells_not}
use Rattle.graph_search.proofs.Zeros.{zeros_set, cases_set}
use Rattle.routines.specs.Calling.{Flow}
use Rattle.routines.specs.Losing as losing
use Rattle.routines.specs.Losing.{Loses}
use Rattle.routines_known.specs.Marking.{Sized, AllLose, Lost, returns, by_next, by_other, past_known, past_unknown, Idle, Settled}

true_false : ◌≡◌ {A = Bool} true false → ⊥
true_false e = let z : ◌≡◌ {A = ℕ} 0 1 = cc in omega arith

false_true : ◌≡◌ {A = Bool} false true → ⊥
false_true e = true_false (sym e)

pub lose_blank : {f : Flow} {m : List ℕ} → Blank m → AllLose f m
lose_blank b = record { at = λ v h. absurd (omega (arith, b.at v)) }

-- what is lost by the marks is lost
lost_loses : {f : Flow} {m : List ℕ} {v : ℕ} → AllLose f m → Lost f m v → Loses f v
lost_loses a (returns c e) = losing.Loses.returns c e
lost_loses a (by_next c h) = losing.Loses.by_next c (a.at _ h)
lost_loses a (by_other c h) = losing.Loses.by_other c (a.at _ h)
lost_loses a (past_known c h) = losing.Loses.past_known c (a.at _ h)
lost_loses a (past_unknown c i h) = losing.Loses.past_unknown c (a.at _ i) (a.at _ h)

pub settle_keep : {f : Flow} {m : List ℕ} {v : ℕ} → AllLose f m → Idle f m v → Settled f m v m false
settle_keep a i = record { lose = a; marked = λ e. absurd (false_true e); idle = λ _. (refl, i) }

pub settle_new : {f : Flow} {m : List ℕ} {v : ℕ} → v < length m → get_or m v 0 ≡ 0 → AllLose f m → Lost f m v → Settled f m v (set m v 1) true
settle_new {f} {m} {v} l z a lost =
    record {
      lose = record { at = λ u. cases_set (λ y. 0 < y → Loses f u) m v u 1 l (λ e _. rw e (lost_loses a lost)) (λ _ h. a.at u h) };
      marked = λ _. zeros_set m v 0 l z;
      idle = λ e. absurd (true_false e);
    }

pub sized_at : {x : List ℕ} {n n' : ℕ} → n' ≡ n → Sized x n → Sized x n'
sized_at e s = rw e s

-- what is found of the kinds 4, 1 and 3, and of any other
module _ (f : Flow) (m : List ℕ) (v : ℕ) where
  pub judge-ret : {r : Bool} → f.kind v ≡ 4 → (r ≡ true → f.known v ≡ false) → (r ≡ false → f.known v ≡ false → ⊥) → Tells (Lost f m v) r
  judge-ret {r} c s n = record { so = λ h. returns c (s h); not_so = no }
    where
      no : r ≡ false → Lost f m v → ⊥
      no e (returns _ z) = n e z
      no e (by_next q h) = omega (arith, c, q)
      no e (by_other q h) = omega (arith, c, q)
      no e (past_known q h) = omega (arith, c, q)
      no e (past_unknown q i h) = omega (arith, c, q)

  pub judge-fork : f.kind v ≡ 1 → get_or m (f.other v) 0 ≡ 0 → get_or m (f.next v) 0 ≡ 0 → Lost f m v → ⊥
  judge-fork c z e (returns q h) = omega (arith, c, q)
  judge-fork c z e (by_next q h) = omega (arith, e, h)
  judge-fork c z e (by_other q h) = omega (arith, z, h)
  judge-fork c z e (past_known q h) = omega (arith, c, q)
  judge-fork c z e (past_unknown q i h) = omega (arith, c, q)

  pub judge-call : f.kind v ≡ 3 → get_or m (f.other v) 0 ≡ 0 → (get_or m (f.from (f.entry v)) 0 ≡ 0) ⊎ (get_or m (f.next v) 0 ≡ 0) → Lost f m v → ⊥
  judge-call c z e (returns q h) = omega (arith, c, q)
  judge-call c z e (by_next q h) = omega (arith, c, q)
  judge-call c z e (by_other q h) = omega (arith, c, q)
  judge-call c z e (past_known q h) = omega (arith, z, h)
  judge-call c z (inl e) (past_unknown q i h) = omega (arith, e, i)
  judge-call c z (inr e) (past_unknown q i h) = omega (arith, e, h)

  pub judge-out : (f.kind v ≡ 4 → ⊥) → (f.kind v ≡ 1 → ⊥) → (f.kind v ≡ 3 → ⊥) → Tells (Lost f m v) false
  judge-out a b d = tells_not no
    where
      no : Lost f m v → ⊥
      no (returns q h) = a q
      no (by_next q h) = b q
      no (by_other q h) = b q
      no (past_known q h) = d q
      no (past_unknown q i h) = d q

-- a mark that is the last to be looked at tells
pub mark_tells : {P : Type 0} (a : ℕ) → (0 < a → P) → (a ≡ 0 → P → ⊥) → Tells P (not (eqb a 0))
mark_tells {P} a so not_so = go (ℕ_discrete a 0)
  where
    go : Dec (a ≡ 0) → Tells P (not (eqb a 0))
    go (yes e) = rw (eq-eqb a 0 e) (tells_not (not_so e))
    go (no e) = rw (ne_eqb a 0 e) (tells_so (so (omega (arith, e))))

-- a place is known where it is odd
pub parity : (p : ℕ) → (eqb (p % 2) 0 ≡ true → eqb (p % 2) 1 ≡ false) × (eqb (p % 2) 0 ≡ false → eqb (p % 2) 1 ≡ false → ⊥)
parity p = go (ℕ_discrete (p % 2) 0)
  where
    go : Dec (p % 2 ≡ 0) → (eqb (p % 2) 0 ≡ true → eqb (p % 2) 1 ≡ false) × (eqb (p % 2) 0 ≡ false → eqb (p % 2) 1 ≡ false → ⊥)
    go (yes e) = (λ _. ne_eqb (p % 2) 1 (λ q. omega (arith, q, e)), λ z _. true_false (sym (eq-eqb (p % 2) 0 e) ∙ z))
    go (no e) = (λ z. absurd (true_false (sym z ∙ ne_eqb (p % 2) 0 e)), λ _ f. true_false (sym (eq-eqb (p % 2) 1 (omega (arith, e))) ∙ f))

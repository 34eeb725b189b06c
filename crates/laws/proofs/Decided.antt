-- Statements that a test decides: which test that is for each of the usual ones, and for several together.
use mathlib.Core.Path.{◌≡◌}
use mathlib.Core.Bool.{Bool, true, false, not}
use Prim.Native.Nat.{ℕ, zero, suc, ◌<◌}
use native.Mathlib.Omega.{arith}
use lib.Dec.{T, eqb, eqb→eq, ltb, T_not, not_T}
use borrow.Author.Tests.{lt-ltb, ltb-true, eq-eqb}
use Rattle.laws.specs.Choice.{both}
use Rattle.laws.specs.Decides.{Decides}
use Rattle.laws.proofs.Computed.{below, at, true→T, T→true, both_left, both_right, both_i}

pub record Decision (P : Type 0) : Type 0 where
  pub test : Bool
  pub decides : Decides test P

abbrev pub always : Decision Unit
always = record { test = true; decides = record { sound = λ t. t; complete = λ u. tt } }

-- that a test passes
abbrev pub holds : (b : Bool) → Decision (T b)
holds b = record { test = b; decides = record { sound = λ t. t; complete = λ t. t } }

abbrev pub less : (n k : ℕ) → Decision (n < k)
less n k = record {
  test = ltb n k;
  decides = record { sound = λ t. ltb-true n k (T→true (ltb n k) t); complete = λ h. true→T (lt-ltb n k h) };
}

abbrev pub equal : (n k : ℕ) → Decision (n ≡ k)
equal n k = record { test = eqb n k; decides = record { sound = eqb→eq n k; complete = λ e. true→T (eq-eqb n k e) } }

abbrev pub negated : {P : Type 0} → Decision P → Decision (P → ⊥)
negated d = record {
  test = not d.test;
  decides =
      record {
        sound = λ t p. T_not d.test t (d.decides.complete p);
        complete = λ n. not_T d.test (λ t. n (d.decides.sound t));
      };
}

infixr 30 ◌and◌
abbrev pub ◌and◌ : {P Q : Type 0} → Decision P → Decision Q → Decision (P × Q)
d and e = record {
  test = both d.test e.test;
  decides =
      record {
        sound = λ t. (d.decides.sound (both_left d.test e.test t), e.decides.sound (both_right d.test e.test t));
        complete = λ h. both_i d.test e.test (d.decides.complete h.0) (e.decides.complete h.1);
      };
}

-- the same test decides what is the same statement
abbrev pub restated : {P Q : Type 0} → (P → Q) → (Q → P) → Decision P → Decision Q
restated f g d = record {
  test = d.test;
  decides = record { sound = λ t. f (d.decides.sound t); complete = λ q. d.decides.complete (g q) };
}

pub everywhere : (f : ℕ → Bool) (n : ℕ) → ((k : ℕ) → k < n → T (f k)) → T (below n f)
everywhere f zero h = tt
everywhere f (suc n) h = both_i (f n) (below n f) (h n (omega arith)) (everywhere f n (λ k l. h k (omega arith)))

-- each number below n
abbrev pub each : (n : ℕ) {P : ℕ → Type 0} → ((k : ℕ) → Decision (P k)) → Decision ((k : ℕ) → k < n → P k)
each n d = record {
  test = below n (λ k. (d k).test);
  decides =
      record {
        sound = λ t k h. (d k).decides.sound (at (λ k. (d k).test) n t k h);
        complete = λ h. everywhere (λ k. (d k).test) n (λ k l. (d k).decides.complete (h k l));
      };
}

by_test : {P : Type 0} (b : Bool) → Decides b P → Dec P
by_test true d = yes (d.sound tt)
by_test false d = no (λ p. d.complete p)

-- what a test decides holds or does not
pub decided : {P : Type 0} → Decision P → Dec P
decided d = by_test d.test d.decides

-- How K is found: the routines are judged callees first, each once. What was judged stays right, since a routine's judgement depends only on those that it calls.
use mathlib.Core.Path.{◌≡◌, refl, sym, ◌∙◌}
use mathlib.Core.Logic.{◌⊎◌, inl, ⊎_elim}
use mathlib.Core.Bool.{Bool, true}
use Prim.Native.Nat.{ℕ}
use lib.Dec.{eqb}
use borrow.Author.Tests.{eq-eqb, ne_eqb}
use Rattle.laws.specs.Choice.{pick}
use Rattle.graph.specs.Graph.{here}
use Rattle.routines.specs.Calling.{Flow, called, unknown, Live, ReturnsKnown, Knows, Calls}
use Rattle.routines.specs.Shape.{Widens}
use Rattle.routines.proofs.Wide.{wide-calls, wide-live}
use Rattle.routines.proofs.Same.{reach-to}

-- K with b for e
abbrev pub judge : (ℕ → Bool) → ℕ → Bool → ℕ → Bool
judge K e b d = pick (eqb d e) b (K d)

judge_same : (K : ℕ → Bool) (e : ℕ) (b : Bool) → judge K e b e ≡ b
judge_same K e b = rw (eq-eqb e e refl) refl

judge_other : (K : ℕ → Bool) (e : ℕ) (b : Bool) (d : ℕ) → (d ≡ e → ⊥) → judge K e b d ≡ K d
judge_other K e b d n = rw (ne_eqb d e n) refl

-- the judgement of a routine depends only on what is known after the calls in it
pub returns_by : (f : Flow) (K K' : ℕ → Bool) (e : ℕ) → ((d : ℕ) → Calls f K' e d → K d ≡ K' d) → ReturnsKnown f K e → ReturnsKnown f K' e
returns_by f K K' e same h v i k = h v (reach-to f K' K (called e) (λ u p q c. sym (same (f.entry u) (u, p, c, refl))) here here i) k

-- those of which P holds are judged, and with each those that it can call
pub record Staged (f : Flow) (K : ℕ → Bool) (P : ℕ → Type 0) : Type 0 where
  pub yes_if : (e : ℕ) → P e → ReturnsKnown f K e → K e ≡ true
  pub only_if : (e : ℕ) → P e → K e ≡ true → ReturnsKnown f K e
  pub closed : (e d : ℕ) → P e → Calls f unknown e d → P d

pub staged_none : (f : Flow) → Staged f unknown (λ e. ⊥)
staged_none f = record { yes_if = λ e p h. absurd p; only_if = λ e p h. absurd p; closed = λ e d p c. p }

module _ (f : Flow) (widens : Widens f) (K : ℕ → Bool) (P : ℕ → Type 0) (staged : Staged f K P) (e : ℕ) (new : P e → ⊥) (callees : (d : ℕ) → Calls f unknown e d → P d) (b : Bool)
    (yes_if : ReturnsKnown f K e → b ≡ true) (only_if : b ≡ true → ReturnsKnown f K e) where
  others : (d : ℕ) → P d → judge K e b d ≡ K d
  others d p = judge_other K e b d (λ q. new (rw q at p))

  -- what one that is judged, or e, calls is judged
  returns_to : (x : ℕ) → ((d : ℕ) → Calls f unknown x d → P d) → ReturnsKnown f K x → ReturnsKnown f (judge K e b) x
  returns_to x judged = returns_by f K (judge K e b) x (λ d c. sym (others d (judged d (wide-calls f widens (judge K e b) x d c))))

  returns_of : (x : ℕ) → ((d : ℕ) → Calls f unknown x d → P d) → ReturnsKnown f (judge K e b) x → ReturnsKnown f K x
  returns_of x judged = returns_by f (judge K e b) K x (λ d c. others d (judged d (wide-calls f widens K x d c)))

  -- one routine more
  pub staged-more : Staged f (judge K e b) (λ x. P x ⊎ (x ≡ e))
  staged-more = record {
    yes_if = λ x p h. ⊎_elim (λ q. others x q ∙ staged.yes_if x q (returns_of x (λ d c. staged.closed x d q c) h)) (λ q. first x q h) p;
    only_if = λ x p h. ⊎_elim (λ q. returns_to x (λ d c. staged.closed x d q c) (staged.only_if x q (sym (others x q) ∙ h))) (λ q. last x q h) p;
    closed = λ x d p c. ⊎_elim (λ q. inl (staged.closed x d q c)) (λ q. inl (callees d (rw q at c))) p;
  }
    where
      first : (x : ℕ) → x ≡ e → ReturnsKnown f (judge K e b) x → judge K e b x ≡ true
      first x q h = rw q (judge_same K e b ∙ yes_if (returns_of e callees (rw q at h)))

      last : (x : ℕ) → x ≡ e → judge K e b x ≡ true → ReturnsKnown f (judge K e b) x
      last x q h = rw q (returns_to e callees (only_if (sym (judge_same K e b) ∙ rw q at h)))

-- once all that can be called are judged, K says what is known after calls
pub staged_all : (f : Flow) (K : ℕ → Bool) (P : ℕ → Type 0) → Widens f → Staged f K P → ((e : ℕ) → Live f unknown (called e) → P e) → Knows f K
staged_all f K P widens staged all = record {
  yes_if = λ e l h. staged.yes_if e (all e (wide-live f widens K l)) h;
  only_if = λ e l h. staged.only_if e (all e (wide-live f widens K l)) h;
}

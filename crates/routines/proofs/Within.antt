-- A routine as a graph: what follows a place there, by its kind.
use mathlib.Core.Path.{◌≡◌, refl, sym, ◌∙◌}
use mathlib.Core.Logic.{◌⊎◌, inl, inr, ⊎_elim}
use mathlib.Core.Bool.{Bool}
use Prim.Native.Nat.{ℕ}
use native.Mathlib.Omega.{arith}
use native.Mathlib.Decide.{ℕ_discrete}
use lib.Dec.{eqb}
use borrow.Author.Tests.{ne_eqb}
use Rattle.laws.specs.Choice.{pick, either}
use Rattle.graph.specs.Graph.{GoesOn, Ends, Excluded, Edge}
use Rattle.routines.specs.Calling.{Flow, Routine, outer, called, end_of, after, within}

-- how a place is left in a routine that ends by kind e
pub data Kind (f : Flow) (v e : ℕ) : Type 0 where
  on : f.kind v ≡ 1 → Kind f v e
  call : f.kind v ≡ 3 → Kind f v e
  end : f.kind v ≡ e → Kind f v e
  out : (f.kind v ≡ 1 → ⊥) → (f.kind v ≡ 3 → ⊥) → (f.kind v ≡ e → ⊥) → Kind f v e

pub kind_of : (f : Flow) (v e : ℕ) → Kind f v e
kind_of f v e = go (ℕ_discrete (f.kind v) 1) (ℕ_discrete (f.kind v) 3) (ℕ_discrete (f.kind v) e)
  where
    go : Dec (f.kind v ≡ 1) → Dec (f.kind v ≡ 3) → Dec (f.kind v ≡ e) → Kind f v e
    go (yes a) q s = on a
    go (no a) (yes b) s = call b
    go (no a) (no b) (yes c) = end c
    go (no a) (no b) (no c) = out a b c

module _ (f : Flow) (K : ℕ → Bool) (r : Routine) where
  pub on-goes : (v : ℕ) → f.kind v ≡ 1 → GoesOn (within f K r) v
  unfolding within
  on-goes v k = rw k refl

  pub call-goes : (v : ℕ) → f.kind v ≡ 3 → GoesOn (within f K r) v
  unfolding within
  call-goes v k = rw k refl

  end-kind : (r : Routine) (k : ℕ) → k ≡ end_of r → pick {A = ℕ} (either (eqb k 1) (eqb k 3)) 1 (pick (eqb k (end_of r)) 2 0) ≡ 2
  end-kind outer k e = rw e refl
  end-kind (called d) k e = rw e refl

  pub end-ends : (v : ℕ) → f.kind v ≡ end_of r → Ends (within f K r) v
  unfolding within
  end-ends v k = end-kind r (f.kind v) k

  out-kind : (v : ℕ) → (f.kind v ≡ 1 → ⊥) → (f.kind v ≡ 3 → ⊥) → (f.kind v ≡ end_of r → ⊥) → (within f K r).kind v ≡ 0
  unfolding within
  out-kind v a b c = rw (ne_eqb (f.kind v) 1 a, ne_eqb (f.kind v) 3 b, ne_eqb (f.kind v) (end_of r) c) refl

  pub next-on : (v : ℕ) → f.kind v ≡ 1 → (within f K r).next v ≡ f.next v
  unfolding within
  next-on v k = rw k refl

  pub other-on : (v : ℕ) → f.kind v ≡ 1 → (within f K r).other v ≡ f.other v
  unfolding within
  other-on v k = rw k refl

  pub next-call : (v : ℕ) → f.kind v ≡ 3 → (within f K r).next v ≡ after f K v
  unfolding within
  next-call v k = rw k refl

  pub other-call : (v : ℕ) → f.kind v ≡ 3 → (within f K r).other v ≡ after f K v
  unfolding within
  other-call v k = rw k refl

  pub edge_on : {v w : ℕ} → f.kind v ≡ 1 → (w ≡ f.next v) ⊎ (w ≡ f.other v) → Edge (within f K r) v w
  edge_on {v} k e = (on-goes v k, ⊎_elim (λ a. inl (a ∙ sym (next-on v k))) (λ a. inr (a ∙ sym (other-on v k))) e)

  pub edge-call : {v : ℕ} → f.kind v ≡ 3 → Edge (within f K r) v (after f K v)
  edge-call {v} k = (call-goes v k, inl (sym (next-call v k)))

  -- an edge is a step on or over a call
  pub edge-cases : {v w : ℕ} → Edge (within f K r) v w → ((f.kind v ≡ 1) × ((w ≡ f.next v) ⊎ (w ≡ f.other v))) ⊎ ((f.kind v ≡ 3) × (w ≡ after f K v))
  edge-cases {v} {w} e = go (kind_of f v (end_of r))
    where
      go : Kind f v (end_of r) → ((f.kind v ≡ 1) × ((w ≡ f.next v) ⊎ (w ≡ f.other v))) ⊎ ((f.kind v ≡ 3) × (w ≡ after f K v))
      go (on k) = inl (k, ⊎_elim (λ a. inl (a ∙ next-on v k)) (λ a. inr (a ∙ other-on v k)) e.1)
      go (call k) = inr (k, ⊎_elim (λ a. a ∙ next-call v k) (λ a. a ∙ other-call v k) e.1)
      go (end k) = absurd (omega (arith, e.0, end-ends v k))
      go (out a b c) = absurd (omega (arith, e.0, out-kind v a b c))

  pub ends-kind : {v : ℕ} → Ends (within f K r) v → f.kind v ≡ end_of r
  ends-kind {v} e = go (kind_of f v (end_of r))
    where
      go : Kind f v (end_of r) → f.kind v ≡ end_of r
      go (on k) = absurd (omega (arith, e, on-goes v k))
      go (call k) = absurd (omega (arith, e, call-goes v k))
      go (end k) = k
      go (out a b c) = absurd (omega (arith, e, out-kind v a b c))

  pub out-excluded : (v : ℕ) → (f.kind v ≡ 1 → ⊥) → (f.kind v ≡ 3 → ⊥) → (f.kind v ≡ end_of r → ⊥) → Excluded (within f K r) v
  out-excluded v a b c = record { not_on = λ e. omega (arith, e, out-kind v a b c); not_end = λ e. omega (arith, e, out-kind v a b c) }

-- The ways of the joined graph, by what a number stands for.
use mathlib.Core.Path.{◌≡◌, refl, sym, ap, ◌∙◌}
use mathlib.Core.Logic.{◌⊎◌, inl, inr, ⊎_elim}
use mathlib.Core.Bool.{Bool}
use Prim.Native.Nat.{ℕ, ◌+◌, ◌-◌, ◌*◌, ◌%◌, ◌≤◌, ◌<◌}
use native.Mathlib.Omega.{arith}
use borrow.Author.Tests.{lt-ltb, le-ltb}
use Rattle.graph.specs.Graph.{GoesOn, Excluded, Edge}
use Rattle.routines.specs.Calling.{Flow, Routine, outer, called, end_of, after, within}
use Rattle.routines.proofs.Within.{Kind, kind_of, call-goes, end-ends, edge_on, edge-call, edge-cases, out-excluded}
use Rattle.routines.specs.Joined.{code, place_of, beside, end_at, joined}

-- what a number stands for can be read off it
pub code_above : (E : ℕ) (r : Routine) (v : ℕ) → E ≤ code E r v
code_above E outer v = omega arith
code_above E (called e) v = omega arith

pub place_code : (E : ℕ) (r : Routine) (v : ℕ) → place_of E (code E r v) ≡ v
place_code E outer v = omega arith
place_code E (called e) v = omega arith

beside_code : (E : ℕ) (r : Routine) (v w : ℕ) → beside E (code E r v) w ≡ code E r w
beside_code E outer v w = omega arith
beside_code E (called e) v w = omega arith

end_code : (E : ℕ) (r : Routine) (v : ℕ) → end_at E (code E r v) ≡ end_of r
end_code E outer v = rw (bit v) refl
  where
    bit : (v : ℕ) → (E + (2 * v + 1) - E) % 2 ≡ 1
    bit v = omega arith
end_code E (called e) v = rw (bit v) refl
  where
    bit : (v : ℕ) → (E + (2 * v + 0) - E) % 2 ≡ 0
    bit v = omega arith

module _ (f : Flow) (K : ℕ → Bool) (E : ℕ) where
  pub kind-code : (r : Routine) (v : ℕ) → (joined f K E).kind (code E r v) ≡ (within f K r).kind v
  unfolding joined within
  kind-code r v = rw (le-ltb (code E r v) E (code_above E r v), place_code E r v, end_code E r v) refl

  next-on : (r : Routine) (v : ℕ) → f.kind v ≡ 1 → (joined f K E).next (code E r v) ≡ code E r (f.next v)
  unfolding joined
  next-on r v k = rw (le-ltb (code E r v) E (code_above E r v), place_code E r v, beside_code E r v (f.next v), k) refl

  other-on : (r : Routine) (v : ℕ) → f.kind v ≡ 1 → (joined f K E).other (code E r v) ≡ code E r (f.other v)
  unfolding joined
  other-on r v k = rw (le-ltb (code E r v) E (code_above E r v), place_code E r v, k) (beside_code E r v (f.other v))

  next-call : (r : Routine) (v : ℕ) → f.kind v ≡ 3 → (joined f K E).next (code E r v) ≡ f.entry v
  unfolding joined
  next-call r v k = rw (le-ltb (code E r v) E (code_above E r v), place_code E r v, k) refl

  other-call : (r : Routine) (v : ℕ) → f.kind v ≡ 3 → (joined f K E).other (code E r v) ≡ code E r (after f K v)
  unfolding joined
  other-call r v k = rw (le-ltb (code E r v) E (code_above E r v), place_code E r v, k) (beside_code E r v (after f K v))

  pub entry-goes : (e : ℕ) → e < E → GoesOn (joined f K E) e
  unfolding joined
  entry-goes e l = rw (lt-ltb e E l) refl

  entry_next : (e d : ℕ) → e < E → (joined f K E).next e ≡ code E (called d) (f.from e)
  unfolding joined
  entry_next e d l = rw (lt-ltb e E l) refl

  entry_other : (e d : ℕ) → e < E → (joined f K E).other e ≡ code E (called d) (f.from e)
  unfolding joined
  entry_other e d l = rw (lt-ltb e E l) refl

  -- from a place: on in its routine, or into the one that it calls
  pub edge-over : (r : Routine) (v w : ℕ) → Edge (within f K r) v w → Edge (joined f K E) (code E r v) (code E r w)
  edge-over r v w e = go (edge-cases f K r e)
    where
      on : GoesOn (joined f K E) (code E r v)
      on = kind-code r v ∙ e.0

      go : ((f.kind v ≡ 1) × ((w ≡ f.next v) ⊎ (w ≡ f.other v))) ⊎ ((f.kind v ≡ 3) × (w ≡ after f K v)) → Edge (joined f K E) (code E r v) (code E r w)
      go (inl (k, inl n)) = (on, inl (ap (λ (x : ℕ). code E r x) n ∙ sym (next-on r v k)))
      go (inl (k, inr o)) = (on, inr (ap (λ (x : ℕ). code E r x) o ∙ sym (other-on r v k)))
      go (inr (k, a)) = (on, inr (ap (λ (x : ℕ). code E r x) a ∙ sym (other-call r v k)))

  pub edge_in : (r : Routine) (v : ℕ) → f.kind v ≡ 3 → Edge (joined f K E) (code E r v) (f.entry v)
  edge_in r v k = (kind-code r v ∙ call-goes f K r v k, inl (sym (next-call r v k)))

  pub edge-from : (e d : ℕ) → e < E → Edge (joined f K E) e (code E (called d) (f.from e))
  edge-from e d l = (entry-goes e l, inl (sym (entry_next e d l)))

  -- and in no other way
  pub edge-parts : (r : Routine) (v y : ℕ) → Edge (joined f K E) (code E r v) y → ((w : ℕ) × Edge (within f K r) v w × (y ≡ code E r w)) ⊎ ((f.kind v ≡ 3) × (y ≡ f.entry v))
  edge-parts r v y e = go (kind_of f v (end_of r))
    where
      go : Kind f v (end_of r) → ((w : ℕ) × Edge (within f K r) v w × (y ≡ code E r w)) ⊎ ((f.kind v ≡ 3) × (y ≡ f.entry v))
      go (Kind.on k) =
          ⊎_elim (λ n. inl (f.next v, edge_on f K r k (inl refl), n ∙ next-on r v k)) (λ o. inl (f.other v, edge_on f K r k (inr refl), o ∙ other-on r v k)) e.1
      go (Kind.call k) = ⊎_elim (λ n. inr (k, n ∙ next-call r v k)) (λ o. inl (after f K v, edge-call f K r k, o ∙ other-call r v k)) e.1
      go (Kind.end k) = absurd (omega (arith, e.0, kind-code r v, end-ends f K r v k))
      go (Kind.out a b c) = absurd ((out-excluded f K r v a b c).not_on (sym (kind-code r v) ∙ e.0))

  pub edge-of-entry : (e d y : ℕ) → e < E → Edge (joined f K E) e y → y ≡ code E (called d) (f.from e)
  edge-of-entry e d y l x = ⊎_elim (λ n. n ∙ entry_next e d l) (λ o. o ∙ entry_other e d l) x.1

  pub excluded-code : (r : Routine) (v : ℕ) → Excluded (within f K r) v → Excluded (joined f K E) (code E r v)
  excluded-code r v x = record { not_on = λ e. x.not_on (sym (kind-code r v) ∙ e); not_end = λ e. x.not_end (sym (kind-code r v) ∙ e) }

  pub excluded-place : (r : Routine) (v : ℕ) → Excluded (joined f K E) (code E r v) → Excluded (within f K r) v
  excluded-place r v x = record { not_on = λ e. x.not_on (kind-code r v ∙ e); not_end = λ e. x.not_end (kind-code r v ∙ e) }

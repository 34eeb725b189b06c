-- The flow on numbers has what the theorems ask of a flow if the flow on places has it.
use mathlib.Core.Path.{◌≡◌, sym, ap, ◌∙◌}
use mathlib.Core.Logic.{inl, inr, ⊎_elim}
use Prim.Native.Nat.{ℕ, ◌<◌}
use Rattle.routines.specs.Calling.{Flow}
use Rattle.routines.specs.Shape.{Narrower, Widens}
use Rattle.routines.specs.Losing.{Region, KnownAfter}
use Rattle.routines.specs.Numbered.{Names, Numbered}

module _ {f g : Flow} {name : ℕ → ℕ} {n : ℕ} (a : Numbered f g name n) where
  -- the numbers are left only for numbers
  pub region : Region g (λ v. v < n)
  region = record {
    start = a.start.found;
    next = λ v r k. (a.next v r k).found;
    other = λ v r k. (a.other v r k).found;
    unknown_after = λ v r k. (a.unknown_after v r k).found;
    known_after = λ v r k. (a.known_after v r k).found;
    into = λ v r k. (a.into v r k).found;
  }

  same : {u v w x : ℕ} → Names name n u w → Names name n v x → w ≡ x → u ≡ v
  same {u} {v} s t e = a.once u v s.found t.found (s.is ∙ e ∙ sym t.is)

  narrower : {u w : ℕ} → u < n → w < n → Narrower f (name u) (name w) → Narrower g u w
  narrower {u} {w} i j x = record {
    kind = kinds;
    next = λ k. ⊎_elim (λ e. inl (same (a.next u i k) (a.next w j (other-kind k)) e)) (λ e. inr (same (a.next u i k) (a.other w j (other-kind k)) e)) (x.next (place-kind k));
    other = λ k. ⊎_elim (λ e. inl (same (a.other u i k) (a.next w j (other-kind k)) e)) (λ e. inr (same (a.other u i k) (a.other w j (other-kind k)) e)) (x.other (place-kind k));
    entry = λ k. a.entry u i k ∙ x.entry (place-kind k) ∙ sym (a.entry w j (other-kind k));
    unknown_after = λ k. same (a.unknown_after u i k) (a.unknown_after w j (other-kind k)) (x.unknown_after (place-kind k));
    known_after = λ k. same (a.known_after u i k) (a.known_after w j (other-kind k)) (x.known_after (place-kind k));
  }
    where
      kinds : g.kind u ≡ g.kind w
      kinds = a.kind u i ∙ x.kind ∙ sym (a.kind w j)

      other-kind : {k : ℕ} → g.kind u ≡ k → g.kind w ≡ k
      other-kind e = sym kinds ∙ e

      place-kind : {k : ℕ} → g.kind u ≡ k → f.kind (name u) ≡ k
      place-kind e = sym (a.kind u i) ∙ e

  -- only numbers are calls
  module _ (calls : (v : ℕ) → g.kind v ≡ 3 → v < n) where
    pub widens : Widens f → Widens g
    widens x = record {
      at_call = λ v k.
          let h = calls v k in
          let s = a.known_after v h k in
          let t = a.unknown_after v h k in
          narrower s.found t.found (rw (s.is, t.is) (x.at_call (name v) (sym (a.kind v h) ∙ k)));
    }

    pub known_after : KnownAfter f → KnownAfter g
    known_after x = record {
      is = λ v k.
          let h = calls v k in
          let s = a.known_after v h k in
          a.known (g.other v) s.found ∙ ap f.known s.is ∙ x.is (name v) (sym (a.kind v h) ∙ k);
    }

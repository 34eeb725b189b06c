-- What is answered of the flow on numbers is answered of the flow on places.
use mathlib.Core.Path.{◌≡◌, refl, sym, ap, subst, ◌∙◌}
use mathlib.Core.Bool.{Bool}
use mathlib.Core.List.{List}
use Prim.Native.Nat.{ℕ, ◌<◌}
use Rattle.routines.specs.Calling.{Flow, Routine, outer, called, Live, handler, call, unknown, Recurs, IsBad, IsLoop}
use Rattle.routines.specs.Answer.{Found, Answer}
use Rattle.routines.specs.Numbered.{Names, Numbered}
use Rattle.routines.proofs.Paired.{Paired, place-to, bad-to, loop-to, answer-to}

-- the entry of a routine, and whether it is called
entry_of : Routine → ℕ
entry_of outer = 0
entry_of (called e) = e

IsCalled : Routine → Type 0
IsCalled outer = ⊥
IsCalled (called e) = Unit

outer_called : (e : ℕ) → outer ≡ called e → ⊥
unfolding IsCalled
outer_called e i = subst IsCalled (sym i) tt

called_one : {d e : ℕ} → called d ≡ called e → d ≡ e
unfolding entry_of
called_one i = ap entry_of i

module _ {f g : Flow} {name : ℕ → ℕ} {n : ℕ} (a : Numbered f g name n) where
  pub paired : Paired g f (Names name n)
  paired =
      record {
        one = λ s t. sym s.is ∙ t.is;
        one_back = λ s t. a.once _ _ s.found t.found (s.is ∙ sym t.is);
        start = a.start;
        kind = λ {v} s. rw (← s.is) (a.kind v s.found);
        known = λ {v} s. rw (← s.is) (a.known v s.found);
        next = λ {v} s k. rw (← s.is) (a.next v s.found k);
        other = λ {v} s k. rw (← s.is) (a.other v s.found k);
        unknown_after = λ {v} s k. rw (← s.is) (a.unknown_after v s.found k);
        known_after = λ {v} s k. rw (← s.is) (a.known_after v s.found k);
        entry = λ {v} s k. rw (← s.is) (a.entry v s.found k);
        into = λ {v} s k. rw (← s.is) (a.into v s.found k);
      }

  -- what is bad, repeats or is called among the numbers is below n: a search for the lowest address of them may go through the numbers
  module _ (K : ℕ → Bool) where
    pub bad-found : (v : ℕ) → IsBad g K v → v < n
    bad-found v b = (bad-to paired K v b).2.found

    pub loop-found : (v : ℕ) → IsLoop g K v → v < n
    loop-found v b = (loop-to paired K v b).2.found

    pub live-called : {r : Routine} → Live g K r → (e : ℕ) → r ≡ called e → (v : ℕ) × (v < n) × (g.kind v ≡ 3) × (g.entry v ≡ e)
    live-called handler e i = absurd (outer_called e i)
    live-called (call {v = v} l i k) e j = (v, (place-to paired K l i).3.found, k, called_one j)

  pub recurs-called : (e : ℕ) → Recurs g e → (v : ℕ) × (v < n) × (g.kind v ≡ 3) × (g.entry v ≡ e)
  recurs-called e r = live-called unknown r.0 e refl

  -- where each number costs what its place does, and has its address
  pub renamed_by : {c d cycles address : ℕ → ℕ} → ((v : ℕ) → v < n → c v ≡ cycles (name v)) → ((v : ℕ) → v < n → d v ≡ address (name v)) → {p p' q q' : List ℕ} {x : Found} → Answer g c d p p' q q' x → Answer f cycles address p p' q q' x
  renamed_by {cycles = cycles} {address = address} cost at y = answer-to paired (λ v w s. cost v s.found ∙ ap cycles s.is) (λ v w s. at v s.found ∙ ap address s.is) y

  pub renamed : {cycles address : ℕ → ℕ} {p p' q q' : List ℕ} {x : Found} → Answer g (λ v. cycles (name v)) (λ v. address (name v)) p p' q q' x → Answer f cycles address p p' q q' x
  renamed y = renamed_by (λ v h. refl) (λ v h. refl) y

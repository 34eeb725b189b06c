-- Any two answers to one question are equal: what comes back, and both buffers.
use mathlib.Core.Path.{◌≡◌, refl, sym, ap, ◌∙◌}
use mathlib.Core.Bool.{Bool}
use mathlib.Core.List.{List}
use Prim.Native.Nat.{ℕ}
use native.Mathlib.Omega.{arith}
use Rattle.graph.specs.Graph.{sum}
use Rattle.graph.proofs.Unique.{least_unique}
use Rattle.routines.specs.Calling.{Flow, depth}
use Rattle.routines.specs.Shape.{Small, Widens}
use Rattle.routines.specs.Answer.{Found, recursion, excluded, repetition, LowestAddress, Judged, HasBound, Kept, PathAnswer, FlowAnswer, Answer}
use Rattle.routines.proofs.First.{first_unique}
use Rattle.routines.proofs.Same.{lowest-bad-to, lowest-loop-to, first_to}

-- what came back, and what the buffers became
abbrev pub Same : Found → Found → List ℕ → List ℕ → List ℕ → List ℕ → Type 0
Same x y p' p'' q' q'' = (x ≡ y) × (p' ≡ p'') × (q' ≡ q'')

pub kept_same : {x y : Found} {p p' p'' q q' q'' : List ℕ} → x ≡ y → Kept p p' q q' → Kept p p'' q q'' → Same x y p' p'' q' q''
kept_same e a b = (e, a.first ∙ sym b.first, a.second ∙ sym b.second)

pub paths_same : {address : ℕ → ℕ} {p p' p'' q q' q'' : List ℕ} {N d : ℕ} {path deep : List ℕ} {x y : Found}
    → PathAnswer address p p' q q' N d path deep x → PathAnswer address p p'' q q'' N d path deep y → Same x y p' p'' q' q''
paths_same (PathAnswer.gives_25 l a) (PathAnswer.gives_25 l' b) = kept_same refl a b
paths_same (PathAnswer.gives_25 l a) (PathAnswer.gives_23 l' s b) = absurd (omega arith)
paths_same (PathAnswer.gives_25 l a) (PathAnswer.gives_23_depth l' r s b) = absurd (omega arith)
paths_same (PathAnswer.gives_25 l a) (PathAnswer.gives_n l' r s b c) = absurd (omega arith)
paths_same (PathAnswer.gives_23 l s a) (PathAnswer.gives_25 l' b) = absurd (omega arith)
paths_same (PathAnswer.gives_23 l s a) (PathAnswer.gives_23 l' s' b) = kept_same refl a b
paths_same (PathAnswer.gives_23 l s a) (PathAnswer.gives_23_depth l' r s' b) = absurd (omega arith)
paths_same (PathAnswer.gives_23 l s a) (PathAnswer.gives_n l' r s' b c) = absurd (omega arith)
paths_same (PathAnswer.gives_23_depth l r s a) (PathAnswer.gives_25 l' b) = absurd (omega arith)
paths_same (PathAnswer.gives_23_depth l r s a) (PathAnswer.gives_23 l' s' b) = absurd (omega arith)
paths_same (PathAnswer.gives_23_depth l r s a) (PathAnswer.gives_23_depth l' r' s' b) = kept_same refl a b
paths_same (PathAnswer.gives_23_depth l r s a) (PathAnswer.gives_n l' r' s' b c) = absurd (omega arith)
paths_same (PathAnswer.gives_n l r s a c) (PathAnswer.gives_25 l' b) = absurd (omega arith)
paths_same (PathAnswer.gives_n l r s a c) (PathAnswer.gives_23 l' s' b) = absurd (omega arith)
paths_same (PathAnswer.gives_n l r s a c) (PathAnswer.gives_23_depth l' r' s' b) = absurd (omega arith)
paths_same (PathAnswer.gives_n l r s a c) (PathAnswer.gives_n l' r' s' b c') = (refl, a ∙ sym b, c ∙ sym c')

-- a lowest address is one only, and there is none where no place is so
pub lowest_none : {address : ℕ → ℕ} {P : ℕ → Type 0} {a : ℕ} → LowestAddress address P a → ((v : ℕ) → P v → ⊥) → ⊥
lowest_none l no_one = no_one l.holds.0 l.holds.1

module _ {f : Flow} {cycles address : ℕ → ℕ} {p p' p'' q q' q'' : List ℕ} {n E : ℕ} (small : Small f n E) (widens : Widens f) where
  bounds-same : {K K' : ℕ → Bool} {N N' d d' : ℕ} {path path' deep deep' : List ℕ} {x y : Found} → Judged f K → Judged f K'
      → HasBound f cycles K N d path deep → HasBound f cycles K' N' d' path' deep'
      → PathAnswer address p p' q q' N d path deep x → PathAnswer address p p'' q q'' N' d' path' deep' y → Same x y p' p'' q' q''
  bounds-same {N = N} {N' = N'} {d = d} {d' = d'} {path = path} {path' = path'} {deep = deep} {deep' = deep'} j j' a b c c' =
      let ep : path' ≡ path = first_unique b.longest (first_to small widens j j' a.longest) in
      let eq : deep' ≡ deep = first_unique b.deepest (first_to small widens j j' a.deepest) in
      let eN : N' ≡ N = b.sum ∙ ap (λ (l : List ℕ). sum cycles l) ep ∙ sym a.sum in
      let ed : d' ≡ d = b.depth ∙ ap (λ (l : List ℕ). depth f l) eq ∙ sym a.depth in
      paths_same c (rw (ep, eq, eN, ed) at c')

  flows-same : {K K' : ℕ → Bool} {x y : Found} → Judged f K → Judged f K' → FlowAnswer f cycles address p p' q q' K x → FlowAnswer f cycles address p p'' q q'' K' y → Same x y p' p'' q' q''
  flows-same j j' (FlowAnswer.gives_21 a k) (FlowAnswer.gives_21 b k') = kept_same (ap excluded (least_unique (lowest-bad-to small widens j j' a) b)) k k'
  flows-same j j' (FlowAnswer.gives_21 a k) (FlowAnswer.gives_22 no_bad b k') = absurd (lowest_none (lowest-bad-to small widens j j' a) no_bad)
  flows-same j j' (FlowAnswer.gives_21 a k) (FlowAnswer.bounded b c) = absurd (lowest_none (lowest-bad-to small widens j j' a) b.no_bad)
  flows-same j j' (FlowAnswer.gives_22 no_bad a k) (FlowAnswer.gives_21 b k') = absurd (lowest_none (lowest-bad-to small widens j' j b) no_bad)
  flows-same j j' (FlowAnswer.gives_22 no_bad a k) (FlowAnswer.gives_22 no-bad' b k') = kept_same (ap repetition (least_unique (lowest-loop-to small widens j j' a) b)) k k'
  flows-same j j' (FlowAnswer.gives_22 no_bad a k) (FlowAnswer.bounded b c) = absurd (lowest_none (lowest-loop-to small widens j j' a) b.no_loop)
  flows-same j j' (FlowAnswer.bounded a c) (FlowAnswer.gives_21 b k') = absurd (lowest_none (lowest-bad-to small widens j' j b) a.no_bad)
  flows-same j j' (FlowAnswer.bounded a c) (FlowAnswer.gives_22 no_bad b k') = absurd (lowest_none (lowest-loop-to small widens j' j b) a.no_loop)
  flows-same j j' (FlowAnswer.bounded a c) (FlowAnswer.bounded b c') = bounds-same j j' a b c c'

  pub one_answer : {x y : Found} → Answer f cycles address p p' q q' x → Answer f cycles address p p'' q q'' y → Same x y p' p'' q' q''
  one_answer (Answer.gives_24 a k) (Answer.gives_24 b k') = kept_same (ap recursion (least_unique a b)) k k'
  one_answer (Answer.gives_24 {e = e} a k) (Answer.judged j b) = absurd (j.no_recursion e a.holds)
  one_answer (Answer.judged j a) (Answer.gives_24 {e = e} b k) = absurd (j.no_recursion e b.holds)
  one_answer (Answer.judged j a) (Answer.judged j' b) = flows-same j j' a b

-- Depth 0 is the answer only where no call is reachable; then SP stays what it was, and any run spares the stack.
use mathlib.Core.Path.{◌≡◌, refl}
use mathlib.Core.Logic.{◌⊎◌, inl, inr}
use mathlib.Core.Bool.{Bool}
use mathlib.Core.List.{List, [], ◌∷◌}
use Prim.Native.Nat.{ℕ, ◌≤◌, ◌<◌}
use native.Mathlib.Omega.{arith}
use lib.ListN.{length}
use Rattle.graph.specs.Graph.{Reach, here, step}
use Rattle.graph.proofs.Reach.{reach_snoc}
use Rattle.routines.specs.Calling.{Flow, outer, after, within, In, handler, Path, goes, opened, deepest, depth}
use Rattle.routines.specs.Shape.{Small, Widens}
use Rattle.routines.specs.Answer.{Judged, HasBound}
use Rattle.routines.proofs.Within.{edge_on, edge-cases, out-excluded}
use Rattle.routines.proofs.Done.{none}
use Rattle.routines.proofs.Exists.{path-head, has-path}
use Rattle.routines.proofs.Base.{NoCalls}
use Rattle.routines.specs.Runs.{Machine, SparesStack, Standard, Follows, OneStep, EndsWithin}
use Rattle.routines.proofs.Ending.{allowed, runs-end}

-- as many calls as are open are open at most, or more
open_least : (kind : ℕ → ℕ) (n : ℕ) (l : List ℕ) → n ≤ deepest kind n l
unfolding deepest
open_least kind n [] = omega arith
open_least kind n (v ∷ l) = omega arith

module _ {f : Flow} {cycles : ℕ → ℕ} {K : ℕ → Bool} {N d : ℕ} {path deep : List ℕ} {n E : ℕ} (small : Small f n E) (widens : Widens f) (judged : Judged f K) (bound : HasBound f cycles K N d path deep) where
  -- from a call in the outer routine a path leads to RTI, and one call is open on it
  by_call : (v : ℕ) → In f K outer v → f.kind v ≡ 3 → (l : List ℕ) × Path f K [] v l × (1 ≤ depth f l)
  unfolding deepest opened
  by_call v i k =
      let p = has-path f K small widens judged.no_recursion bound.no_bad bound.no_loop none handler i in
      let h = path-head p.1 in
      (p.0, p.1, rw (h.1, k) (omega (arith, open_least f.kind 1 h.0)))

  -- to a call a path leads from each place that reaches it
  through-call : {u v : ℕ} → In f K outer u → Reach (within f K outer) u v → f.kind v ≡ 3 → (l : List ℕ) × Path f K [] u l × (1 ≤ depth f l)
  unfolding deepest opened
  through-call {u} i here k = by_call u i k
  through-call {u} i (step {v = w} e r) k = go (edge-cases f K outer e) (through-call (reach_snoc i e) r k)
    where
      on : f.kind u ≡ 1 → (w ≡ f.next u) ⊎ (w ≡ f.other u) → (l : List ℕ) × Path f K [] w l × (1 ≤ depth f l) → (l : List ℕ) × Path f K [] u l × (1 ≤ depth f l)
      on c e p = (u ∷ p.0, goes c e p.1, rw c (omega (arith, p.2)))

      go : ((f.kind u ≡ 1) × ((w ≡ f.next u) ⊎ (w ≡ f.other u))) ⊎ ((f.kind u ≡ 3) × (w ≡ after f K u)) → (l : List ℕ) × Path f K [] w l × (1 ≤ depth f l) → (l : List ℕ) × Path f K [] u l × (1 ≤ depth f l)
      go (inl (c, e)) p = on c e p
      go (inr (c, e)) p = by_call u i c

  pub no-calls : d ≡ 0 → NoCalls f K
  no-calls zero-deep v i k =
      let p = through-call here i k in
      omega (arith, p.2, bound.deepest.most p.0 p.1, bound.depth)

module _ (M : Machine) (f : Flow) (cycles address : ℕ → ℕ) (At : M.State → ℕ → Type 0) (one_step : OneStep M f cycles address At)
    {n E : ℕ} (small : Small f n E) (widens : Widens f) (standard : Standard f n cycles address) where
  module _ {K : ℕ → Bool} {N : ℕ} {path deep : List ℕ} (judged : Judged f K) (bound : HasBound f cycles K N 0 path deep) (top : ℕ) where
    -- at SP no level is in use
    spares : (frames : List M.Frame) (s : M.State) (v : ℕ) → At s v → In f K outer v → M.sp s ≡ top → SparesStack M top s frames
    unfolding SparesStack
    spares [] s v at i same = tt
    spares (x ∷ xs) s v at i same =
        let a = allowed M f cycles address At one_step small widens standard K judged bound.no_bad bound.no_loop top handler i in
        λ on. go on (one_step s x v at a.0 a.1) (λ w there r e. spares xs (M.step s x) w there r e)
      where
        go : (M.Ends s x → ⊥) → Follows M f cycles address At s x v
            → ((w : ℕ) → At (M.step s x) w → In f K outer w → M.sp (M.step s x) ≡ top → SparesStack M top (M.step s x) xs)
            → ((M.Calls s x → ⊥) → (j : ℕ) → M.sp s ≤ j → j < top → M.level (M.step s x) j ≡ M.level s j) × SparesStack M top (M.step s x) xs
        go on (Follows.ends e rti c) ih = absurd (on e)
        go on (Follows.goes {w = w} k e past calls c there sp) ih =
            (λ not j l h. absurd (omega arith), ih w there (reach_snoc i (edge_on f K outer k e)) (rw sp same))
        go on (Follows.calls k past c there lower stored kept) ih = absurd (no-calls small widens judged bound refl v i k)
        go on (Follows.returns k past calls c there higher) ih = absurd (bound.no_bad v (outer, handler, i, out-excluded f K outer v (λ z. omega arith) (λ z. omega arith) (λ z. omega arith)))

  -- where the depth is 0, every run from a state that stands at the start ends within N
  pub plain-runs-end : {K : ℕ → Bool} {N : ℕ} {path deep : List ℕ} → Judged f K → HasBound f cycles K N 0 path deep
      → (s : M.State) → At s f.start → (frames : List M.Frame) → N ≤ length frames → EndsWithin M (M.sp s) s frames N
  plain-runs-end judged bound s at frames enough =
      runs-end M f cycles address At one_step small widens standard judged bound s at frames enough (spares judged bound (M.sp s) frames s f.start at here refl)

-- Every run that spares the stack ends within N.
use mathlib.Core.Path.{◌≡◌, refl, sym, ◌∙◌}
use mathlib.Core.Logic.{◌⊎◌}
use mathlib.Core.Bool.{Bool, true, false}
use mathlib.Core.List.{List, [], ◌∷◌}
use Prim.Native.Nat.{ℕ, suc, ◌+◌, ◌-◌, ◌≤◌, ◌<◌}
use native.Mathlib.Omega.{arith}
use lib.ListN.{length}
use Rattle.laws.specs.Choice.{pick}
use Rattle.graph.specs.Graph.{Reach, here, sum}
use Rattle.graph.proofs.Reach.{reach_snoc}
use Rattle.routines.specs.Calling as calling
use Rattle.routines.specs.Calling.{Flow, Routine, outer, called, end_of, start_in, after, within, In, Live, handler, call, IsBad, IsLoop, Path, HandlerPath}
use Rattle.routines.specs.Shape.{Small, Widens}
use Rattle.routines.specs.Answer.{bounds, Judged, HasBound, PathAnswer, FlowAnswer, Answer}
use Rattle.routines.proofs.Within.{Kind, kind_of, edge_on, edge-call, out-excluded}
use Rattle.routines.proofs.Done.{Nested, none, inner, in-lt}
use Rattle.routines.proofs.Exists.{path-head, has-path}
use Rattle.routines.specs.Runs.{Machine, GoesPast, now, later, Spares, SparesStack, Standard, Follows, OneStep, EndsWithin}

-- the levels from i up to the top hold the addresses of these places
unfoldable pub Holds : (ℕ → ℕ) → (ℕ → ℕ) → ℕ → ℕ → List ℕ → Type 0
Holds address level i top [] = i ≡ top
Holds address level i top (w ∷ ks) = (address w ≡ level i) × Holds address level (suc i) top ks

pub holds_below : (address level : ℕ → ℕ) (i top : ℕ) (ks : List ℕ) → Holds address level i top ks → i ≤ top
unfolding Holds
holds_below address level i top [] h = omega arith
holds_below address level i top (w ∷ ks) h = omega (arith, holds_below address level (suc i) top ks h.1)

pub holds_kept : (address level level' : ℕ → ℕ) (i top : ℕ) (ks : List ℕ) → ((j : ℕ) → i ≤ j → j < top → level' j ≡ level j) → Holds address level i top ks → Holds address level' i top ks
unfolding Holds
holds_kept address level level' i top [] kept h = h
holds_kept address level level' i top (w ∷ ks) kept h = (
  h.0 ∙ sym (kept i (omega arith) (omega (arith, holds_below address level (suc i) top ks h.1))),
  holds_kept address level level' (suc i) top ks (λ j l m. kept j (omega arith) m) h.1,
)

-- after a call SF is known only where it is known at each RET of the routine
pub after_known : {f : Flow} {n : ℕ} {cycles address : ℕ → ℕ} (K : ℕ → Bool) → Standard f n cycles address → (u : ℕ) → f.kind u ≡ 3 → f.known (after f K u) ≡ true → K (f.entry u) ≡ true
unfolding after
after_known {f} K standard u k e = go (K (f.entry u)) e
  where
    go : (b : Bool) → f.known (pick b (f.other u) (f.next u)) ≡ true → b ≡ true
    go true h = refl
    go false h = cc (standard.unknown_after u k)

pub after_address : {f : Flow} {n : ℕ} {cycles address : ℕ → ℕ} (K : ℕ → Bool) → Standard f n cycles address → (u : ℕ) → f.kind u ≡ 3 → address (after f K u) ≡ address (f.next u)
unfolding after
after_address {f} {address = address} K standard u k = go (K (f.entry u))
  where
    go : (b : Bool) → address (pick b (f.other u) (f.next u)) ≡ address (f.next u)
    go true = standard.one_address u k
    go false = refl

-- a path costs what its first place does, or more
first_cost : {f : Flow} {K : ℕ → Bool} (cycles : ℕ → ℕ) {ks : List ℕ} {v : ℕ} {l : List ℕ} → Path f K ks v l → cycles v ≤ sum cycles l
unfolding sum
first_cost cycles p = let h = path-head p in rw h.1 (omega arith)

module _ (M : Machine) (f : Flow) (cycles address : ℕ → ℕ) (At : M.State → ℕ → Type 0) (one_step : OneStep M f cycles address At)
    {n E : ℕ} (small : Small f n E) (widens : Widens f) (standard : Standard f n cycles address)
    (K : ℕ → Bool) (judged : Judged f K) (no_bad : (v : ℕ) → IsBad f K v → ⊥) (no_loop : (v : ℕ) → IsLoop f K v → ⊥) (top : ℕ) where
  -- no path from v, with these calls open, costs more than B
  AtMost : List ℕ → ℕ → ℕ → Type 0
  AtMost ks v B = (l : List ℕ) → Path f K ks v l → sum cycles l ≤ B

  -- a place that is reached is not excluded, costs something, and no more than the paths from it
  pub allowed : {r : Routine} {v : ℕ} → Live f K r → Reach (within f K r) (start_in f r) v → (1 ≤ f.kind v) × (f.kind v ≤ 4)
  allowed {r} {v} live i = go r live i (kind_of f v (end_of r))
    where
      go : (r : Routine) → Live f K r → In f K r v → Kind f v (end_of r) → (1 ≤ f.kind v) × (f.kind v ≤ 4)
      go r live i (Kind.on k) = (omega arith, omega arith)
      go r live i (Kind.call k) = (omega arith, omega arith)
      go outer live i (Kind.end k) = (omega arith, omega arith)
      go (called e) live i (Kind.end k) = (omega arith, omega arith)
      go r live i (Kind.out a b c) = absurd (no_bad v (r, live, i, out-excluded f K r v a b c))

  cost-le : {r : Routine} {ks : List ℕ} {v B : ℕ} → Nested f K r ks → Live f K r → Reach (within f K r) (start_in f r) v → AtMost ks v B → (0 < cycles v) × (cycles v ≤ B)
  unfolding AtMost
  cost-le {v = v} nested live i most =
      let p = has-path f K small widens judged.no_recursion no_bad no_loop nested live i in
      let a = allowed live i in
      (standard.costs v (in-lt f K small live i) a.0 a.1, omega (arith, most p.0 p.1, first_cost cycles p.1))

  -- a run that ends, after a step that does not end it
  ends-later : (s : M.State) (x : M.Frame) (xs : List M.Frame) (v B : ℕ) → 0 < cycles v → cycles v ≤ B → GoesPast M s x → M.spends s x ≡ cycles v
      → EndsWithin M top (M.step s x) xs (B - cycles v) → EndsWithin M top s (x ∷ xs) B
  ends-later s x xs v B pos le goes_on spends q =
      record { steps = suc q.steps; spent = M.spends s x + q.spent; ends = later goes_on q.ends; steps_most = omega (arith, q.steps_most); spent_most = omega (arith, q.spent_most) }

  -- where a state is: at a place of a routine, with these calls open and their addresses on the stack
  record Stands (s : M.State) (r : Routine) (ks : List ℕ) (v : ℕ) : Type 0 where
    at : At s v
    nested : Nested f K r ks
    live : Live f K r
    reached : Reach (within f K r) (start_in f r) v
    stack : Holds address (M.level s) (M.sp s) top ks

  -- the next state stands somewhere, with at most what is left to spend
  record GoesOn (s' : M.State) (B : ℕ) : Type 0 where
    routine : Routine
    open-calls : List ℕ
    place : ℕ
    stands : Stands s' routine open-calls place
    most : AtMost open-calls place B

  goes_on : (s : M.State) (x : M.Frame) (r : Routine) (ks : List ℕ) (v w B : ℕ) → Stands s r ks v → AtMost ks v B → f.kind v ≡ 1 → (w ≡ f.next v) ⊎ (w ≡ f.other v)
      → At (M.step s x) w → M.sp (M.step s x) ≡ M.sp s → Spares M top s x → GoesOn (M.step s x) (B - cycles v)
  unfolding AtMost sum
  goes_on s x r ks v w B h most k e at same spares = record {
    routine = r;
    open-calls = ks;
    place = w;
    stands = record {
      at = at;
      nested = h.nested;
      live = h.live;
      reached = reach_snoc h.reached (edge_on f K r k e);
      stack = rw same (holds_kept address (M.level s) (M.level (M.step s x)) (M.sp s) top ks spares h.stack);
    };
    most = λ l p. omega (arith, most (v ∷ l) (calling.Path.goes k e p));
  }

  goes_in : (s : M.State) (x : M.Frame) (r : Routine) (ks : List ℕ) (v B : ℕ) → Stands s r ks v → AtMost ks v B → f.kind v ≡ 3
      → At (M.step s x) (f.from (f.entry v)) → suc (M.sp (M.step s x)) ≡ M.sp s → M.level (M.step s x) (M.sp (M.step s x)) ≡ address (f.next v)
      → ((i : ℕ) → M.sp s ≤ i → M.level (M.step s x) i ≡ M.level s i) → GoesOn (M.step s x) (B - cycles v)
  unfolding AtMost sum Holds
  goes_in s x r ks v B h most k at lower stored kept = record {
    routine = called (f.entry v);
    open-calls = after f K v ∷ ks;
    place = f.from (f.entry v);
    stands = record {
      at = at;
      nested = inner h.nested h.live h.reached k;
      live = call h.live h.reached k;
      reached = here;
      stack = (after_address K standard v k ∙ sym stored, rw lower (holds_kept address (M.level s) (M.level (M.step s x)) (M.sp s) top ks (λ j l m. kept j l) h.stack));
    };
    most = λ l p. omega (arith, most (v ∷ l) (calling.Path.calls k p));
  }

  goes_back : (s : M.State) (x : M.Frame) (r : Routine) (ks : List ℕ) (v B : ℕ) → Stands s r ks v → AtMost ks v B → f.kind v ≡ 4
      → ((w : ℕ) → address w ≡ M.level s (M.sp s) → (f.known w ≡ true → f.known v ≡ true) → At (M.step s x) w) → M.sp (M.step s x) ≡ suc (M.sp s) → Spares M top s x
      → GoesOn (M.step s x) (B - cycles v)
  unfolding AtMost sum Holds
  goes_back s x r ks v B h most k at higher spares = go h.nested h.live h.reached h.stack most
    where
      go : {r : Routine} {ks : List ℕ} → Nested f K r ks → Live f K r → Reach (within f K r) (start_in f r) v → Holds address (M.level s) (M.sp s) top ks → AtMost ks v B → GoesOn (M.step s x) (B - cycles v)
      go none live i stack most = absurd (no_bad v (outer, handler, i, out-excluded f K outer v (λ z. omega arith) (λ z. omega arith) (λ z. omega arith)))
      go (inner {r = r'} {ks = ks'} {u = u} n' live' j c) live i stack most = record {
        routine = r';
        open-calls = ks';
        place = after f K u;
        stands = record {
          at = at (after f K u) stack.0 (λ t. judged.knows.only_if (f.entry u) live (after_known K standard u c t) v i k);
          nested = n';
          live = live';
          reached = reach_snoc j (edge-call f K r' c);
          stack = rw higher (holds_kept address (M.level s) (M.level (M.step s x)) (suc (M.sp s)) top ks' (λ l a b. spares l (omega arith) b) stack.1);
        };
        most = λ l p. omega (arith, most (v ∷ l) (calling.Path.ret k p));
      }

  -- RTI is not excluded in the outer routine only, where no call is open
  at-start : (s : M.State) (r : Routine) (ks : List ℕ) (v : ℕ) → Stands s r ks v → f.kind v ≡ 2 → M.sp s ≡ top
  unfolding Holds
  at-start s r ks v h k = go h.nested h.live h.reached h.stack
    where
      go : {r : Routine} {ks : List ℕ} → Nested f K r ks → Live f K r → Reach (within f K r) (start_in f r) v → Holds address (M.level s) (M.sp s) top ks → M.sp s ≡ top
      go none live i stack = stack
      go (inner {r = r'} {u = u} n live' j c) live i stack =
          absurd (no_bad v (called (f.entry u), live, i, out-excluded f K (called (f.entry u)) v (λ z. omega arith) (λ z. omega arith) (λ z. omega arith)))

  step-on : (s : M.State) (x : M.Frame) (xs : List M.Frame) (r : Routine) (ks : List ℕ) (v B : ℕ) → Stands s r ks v → AtMost ks v B → Follows M f cycles address At s x v
      → ((M.Ends s x → ⊥) → ((M.Calls s x → ⊥) → Spares M top s x) × SparesStack M top (M.step s x) xs)
      → (0 < cycles v) × (cycles v ≤ B) → ((M.Ends s x → ⊥) → GoesOn (M.step s x) (B - cycles v) → EndsWithin M top (M.step s x) xs (B - cycles v)) → EndsWithin M top s (x ∷ xs) B
  step-on s x xs r ks v B h most (Follows.ends e rti c) spares cost ih =
      record { steps = 1; spent = M.spends s x; ends = now e (λ t. at-start s r ks v h (rti t)); steps_most = omega (arith, cost); spent_most = omega (arith, cost) }
  step-on s x xs r ks v B h most (Follows.goes {w = w} k e on calls c at same) spares cost ih =
      ends-later s x xs v B cost.0 cost.1 on c (ih on.0 (goes_on s x r ks v w B h most k e at same ((spares on.0).0 calls)))
  step-on s x xs r ks v B h most (Follows.calls k on c at lower stored kept) spares cost ih =
      ends-later s x xs v B cost.0 cost.1 on c (ih on.0 (goes_in s x r ks v B h most k at lower stored kept))
  step-on s x xs r ks v B h most (Follows.returns k on calls c at higher) spares cost ih =
      ends-later s x xs v B cost.0 cost.1 on c (ih on.0 (goes_back s x r ks v B h most k at higher ((spares on.0).0 calls)))

  -- with at most B left to spend, and B frames or more
  run-from : (frames : List M.Frame) (s : M.State) (r : Routine) (ks : List ℕ) (v B : ℕ) → Stands s r ks v → AtMost ks v B → B ≤ length frames → SparesStack M top s frames → EndsWithin M top s frames B
  unfolding SparesStack
  run-from [] s r ks v B h most enough spares = absurd (omega (arith, cost-le h.nested h.live h.reached most))
  run-from (x ∷ xs) s r ks v B h most enough spares =
      let a = allowed h.live h.reached in
      let cost = cost-le h.nested h.live h.reached most in
      step-on s x xs r ks v B h most (one_step s x v h.at a.0 a.1) spares cost
      (λ on g. run-from xs (M.step s x) g.routine g.open-calls g.place (B - cycles v) g.stands g.most (omega (arith, cost)) (spares on).1)

-- "Every emulated run from there .. reaches the return or a named stop having spent at most N": a handler that has the bound N, a state that stands at its start, N frames or more, and
-- no instruction but a call storing into the levels in use
module _ (M : Machine) (f : Flow) (cycles address : ℕ → ℕ) (At : M.State → ℕ → Type 0) (one_step : OneStep M f cycles address At)
    {n E : ℕ} (small : Small f n E) (widens : Widens f) (standard : Standard f n cycles address) where
  pub runs-end : {K : ℕ → Bool} {N d : ℕ} {path deep : List ℕ} → Judged f K → HasBound f cycles K N d path deep
      → (s : M.State) → At s f.start → (frames : List M.Frame) → N ≤ length frames → SparesStack M (M.sp s) s frames → EndsWithin M (M.sp s) s frames N
  unfolding AtMost Holds
  runs-end {K} {N} judged bound s at frames enough spares =
      run-from M f cycles address At one_step small widens standard K judged bound.no_bad bound.no_loop (M.sp s) frames s outer [] f.start N
      (record { at = at; nested = none; live = handler; reached = here; stack = refl }) (λ l p. rw bound.sum (bound.longest.most l p)) enough spares

  -- the same from the answer N
  pub answer-runs-end : {a : ℕ → ℕ} {p p' q q' : List ℕ} {N d : ℕ} → Answer f cycles a p p' q q' (bounds N d)
      → (s : M.State) → At s f.start → (frames : List M.Frame) → N ≤ length frames → SparesStack M (M.sp s) s frames → EndsWithin M (M.sp s) s frames N
  answer-runs-end (Answer.judged j (FlowAnswer.bounded b (PathAnswer.gives_n l r t x y))) s at frames enough spares = runs-end j b s at frames enough spares
